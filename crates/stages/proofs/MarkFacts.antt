-- Marking what the target needs.
use Rattle.std.proofs.Common.{◌≡◌, ◌<◌, ◌≤◌, ◌-◌, ℕ, Bool, true, false, List, [], ◌∷◌, ◌++◌, length, Some, inl, inr, refl, sym, ap, ◌∙◌, subst, arith}
use Rattle.std.specs.Prelude.{slice_get, slice_set, Contains}
use Rattle.std.specs.List.{All}
use Rattle.std.proofs.lemmas.Option.{slice_get_within}
use Rattle.std.proofs.lemmas.List.{append-nil, append_assoc}
use Rattle.std.proofs.lemmas.List.Elements.{Contains-push, Contains-push_cases, Contains-append_left, Contains-append_right, Contains-append_cases, All-contains, All-weaker, All-nil, All-cons, All-append, All-head, All-tail}
use Rattle.plain.specs.Marks.{is_marked}
use Rattle.plain.specs.PrivateMarks.{MarksMore}
use Rattle.plain.proofs.MarkFacts.{MarkedFrom, marks_none, marks_one, marks_same, marks_both, reached_more, path_within, marked_first, marked_step, marked_all}
use Rattle.rows.specs.declared.row.Origin.{Origin}
use Rattle.rows.specs.declared.row.Origin.TheVariants.{Source as SourceOf, Stage as StageOf}
use Rattle.llb.specs.declared.op.Source.{Source}
use Rattle.stages.specs.declared.stage.ResolvedInstruction.{ResolvedInstruction}
use Rattle.stages.specs.declared.stage.ResolvedStage.{ResolvedStage}
use Rattle.stages.specs.Table.{IsBefore, IsResolved}
use Rattle.stages.specs.Needed.{origins_in, stage_origins, Refers, IsNeeded, IsClosed, AreNeeded}
use Rattle.stages.specs.PrivateMarks.{HasStage, AreInPlace}

stage_is : (a b : ℕ) → StageOf a ≡ StageOf b → a ≡ b
stage_is a b e = cc

source_stage : (s : Source) (b : ℕ) → SourceOf s ≡ StageOf b → ⊥
source_stage s b e = cc

pub none_marked : (marks : List Bool) (origins : List Origin) → origins ≡ [] → MarksMore marks marks (HasStage origins)
none_marked marks origins none = marks_none marks (HasStage origins) (λ k h. omega (arith, ap length none, h.1))

contains_one : (x y : Origin) → Contains (x ∷ []) y → x ≡ y
contains_one x y h = elim (Contains-push_cases [] x y h) [ inl none ↦ absurd (omega (arith, none.1)) | inr same ↦ same ]

-- one stage is marked
pub stage_marked : (marks : List Bool) (id : ℕ) (origin : Origin) → origin ≡ StageOf id → id < length marks
    → MarksMore marks (slice_set marks id true) (HasStage (origin ∷ []))
stage_marked marks id origin is lt =
    marks_one marks id (HasStage (origin ∷ [])) lt (subst (Contains (origin ∷ [])) is (Contains-push [] origin))
    (λ k h. stage_is id k (sym is ∙ contains_one origin (StageOf k) h))

-- a source marks nothing
pub source_marked : (marks : List Bool) (source : Source) (origin : Origin) → origin ≡ SourceOf source → MarksMore marks marks (HasStage (origin ∷ []))
source_marked marks source origin is =
    marks_none marks (HasStage (origin ∷ [])) (λ k h. source_stage source k (sym is ∙ contains_one origin (StageOf k) h))

pub both_marked : (old middle new : List Bool) (xs ys : List Origin) → MarksMore old middle (HasStage xs) → MarksMore middle new (HasStage ys)
    → MarksMore old new (HasStage (xs ++ ys))
both_marked old middle new xs ys first second =
    marks_both old middle new (HasStage xs) (HasStage ys) (HasStage (xs ++ ys)) first second (λ k. Contains-append_cases xs ys (StageOf k))
    (λ k. Contains-append_left xs ys (StageOf k)) (λ k. Contains-append_right xs ys (StageOf k))

pub origins_in-push : (rs : List ResolvedInstruction) (r : ResolvedInstruction) → origins_in (rs ++ r ∷ []) ≡ origins_in rs ++ r.origins
origins_in-push [] r = append-nil r.origins
origins_in-push (x ∷ xs) r = ap (λ os. x.origins ++ os) (origins_in-push xs r) ∙ sym (append_assoc x.origins (origins_in xs) r.origins)

-- what a stage names stands before it

pub before_weaker : (n m : ℕ) → n ≤ m → (origin : Origin) → IsBefore n origin → IsBefore m origin
before_weaker n m le (SourceOf source) is = is
before_weaker n m le (StageOf other) lt = omega (arith, lt, le)

pub instructions_before : (n m : ℕ) (rs : List ResolvedInstruction) → n ≤ m → All (IsResolved n) rs → All (λ r. All (IsBefore m) r.origins) rs
instructions_before n m rs le all =
    All-weaker (IsResolved n) (λ r. All (IsBefore m) r.origins) (λ r is. All-weaker (IsBefore n) (IsBefore m) (before_weaker n m le) r.origins is.before) rs all

all_origins : (n : ℕ) (rs : List ResolvedInstruction) → All (IsResolved n) rs → All (IsBefore n) (origins_in rs)
all_origins n [] all = All-nil (IsBefore n)
all_origins n (r ∷ rs) all = All-append (IsBefore n) r.origins (origins_in rs) (All-head (IsResolved n) r rs all).before (all_origins n rs (All-tail (IsResolved n) r rs all))

refers_below : (stages : List ResolvedStage) (from to : ℕ) → AreInPlace stages → Refers stages from to → to < from
refers_below stages from to are refers =
    let is = are from refers.stage refers.there in
    All-contains (IsBefore from) (stage_origins refers.stage) (StageOf to)
    (All-cons (IsBefore from) refers.stage.base (origins_in refers.stage.instructions) is.base (all_origins from refers.stage.instructions is.instructions)) refers.named

same_stage : (stages : List ResolvedStage) (number : ℕ) (s t : ResolvedStage) → slice_get stages number ≡ Some s → slice_get stages number ≡ Some t → s ≡ t
same_stage stages number s t a b = cc

-- the target is marked
pub target_marked : (stages : List ResolvedStage) (target : ℕ) (none marks : List Bool) (at : ℕ) → length none ≡ length stages
    → ((k : ℕ) → is_marked none k ≡ false) → target < length stages → marks ≡ slice_set none target true → at ≡ length stages
    → MarkedFrom (Refers stages) (length stages) target at marks
target_marked stages target none marks at long unmarked lt is from_end =
    marked_first (Refers stages) (length stages) target none marks at (λ stage to refers. slice_get_within stages stage refers.stage refers.there) long
    unmarked lt is from_end

-- what a marked stage names was marked
pub named_marked : (stages : List ResolvedStage) (target at next : ℕ) (s : ResolvedStage) (old new : List Bool) → AreInPlace stages
    → MarkedFrom (Refers stages) (length stages) target at old → 0 < at → next ≡ at - 1 → slice_get stages next ≡ Some s → is_marked old next ≡ true
    → MarksMore old new (HasStage (stage_origins s)) → MarkedFrom (Refers stages) (length stages) target next new
named_marked stages target at next s old new are so_far pos is there marked more =
    let back : (k : ℕ) → Refers stages next k → HasStage (stage_origins s) k =
    λ k refers. subst (λ t. HasStage (stage_origins t) k) (same_stage stages next refers.stage s refers.there there) refers.named in
    let on : (k : ℕ) → HasStage (stage_origins s) k → Refers stages next k = λ k named. record { stage = s; there = there; named = named } in
    marked_step (Refers stages) (length stages) target at next old new (λ from to refers. refers_below stages from to are refers) so_far pos is marked
    (marks_same old new (HasStage (stage_origins s)) (Refers stages next) more back on)

pub all_needed : (stages : List ResolvedStage) (target at : ℕ) (marks : List Bool) → MarkedFrom (Refers stages) (length stages) target at marks → at ≤ 0
    → AreNeeded stages target marks
all_needed stages target at marks so_far over =
    let all = marked_all (Refers stages) (length stages) target at marks so_far over in
    record {
      long = all.long;
      just = λ stage. (all.only stage, λ needed. path_within (Refers stages) (is_marked marks) target needed.0 stage all.closed all.has_first needed.1);
    }

-- the stages that are needed are the least such set

pub needed_target : (stages : List ResolvedStage) (target : ℕ) → IsNeeded stages target target
needed_target stages target = ([], refl)

pub needed_named : (stages : List ResolvedStage) (target from to : ℕ) → IsNeeded stages target from → Refers stages from to → IsNeeded stages target to
needed_named stages = reached_more (Refers stages)

pub needed_least : (stages : List ResolvedStage) (target : ℕ) (has : ℕ → Bool) → IsClosed stages target has → (stage : ℕ) → IsNeeded stages target stage → has stage ≡ true
needed_least stages target has closed stage needed = path_within (Refers stages) has target needed.0 stage closed.has_named closed.has_target needed.1
