-- The last users of stages: what they are known to be while the stages are gone through.
use Rattle.std.specs.Prelude.{◌≡◌, ◌<◌, ◌≤◌, ◌+◌, ◌⊎◌, ◌||◌, ℕ, zero, suc, Bool, true, false, List, [], ◌∷◌, Option, Some, None, length, nat_eq, slice_get, slice_set, refl}
use Rattle.std.proofs.Common.{sym, ◌∙◌, ap, subst, arith, inl, inr}
use Rattle.std.proofs.lemmas.Bool.{true≢false, cases_lt, eq-eqb, lt-ltb}
use Rattle.std.proofs.lemmas.Option.{slice_get_within}
use Rattle.plain.specs.Marks.{is_marked}
use Rattle.rows.specs.declared.row.Origin.{Origin}
use Rattle.rows.specs.declared.row.Origin.TheVariants.{Source as SourceOf, Stage as StageOf}
use Rattle.stages.specs.declared.stage.ResolvedStage.{ResolvedStage}
use Rattle.evaluation.specs.PrivateKept.{IsUser, IsWanted, TellsWanted, with_user, is_used_after, is_wanted}
use Rattle.evaluation.specs.declared.users.Users.{Users}

-- the stages before this one were gone through: none of them that begins with a stage comes after the last user that is listed for it
unfoldable pub Noted : List Bool → List ResolvedStage → ℕ → List ℕ → Type 0
Noted needed stages at last = (number user found : ℕ) → user < at → IsUser needed stages number user → slice_get last number ≡ Some found → user ≤ found

pub noted_first : (needed : List Bool) (stages : List ResolvedStage) (last : List ℕ) → Noted needed stages 0 last
unfolding Noted
noted_first needed stages last number user found before is at = absurd (omega (arith, before))

-- the stage that is looked at, or one before it
nearer : (at user : ℕ) → user < at + 1 → (user < at) ⊎ (user ≡ at)
nearer at user before = elim (cases_lt user at) [
  | inl less ↦ inl less
  | inr more ↦ inr (omega (arith, before, more))
]

pub noted_skipped : (needed : List Bool) (stages : List ResolvedStage) (at : ℕ) (last : List ℕ) → is_marked needed at ≡ false → Noted needed stages at last → Noted needed stages (at + 1) last
unfolding Noted
noted_skipped needed stages at last none noted number user found before is there = elim (nearer at user before) [
  | inl earlier ↦ noted number user found earlier is there
  | inr here ↦ absurd (true≢false (sym is.marked ∙ (ap (is_marked needed) here ∙ none)))
]

set_found : (last : List ℕ) (other user number found : ℕ) → slice_get (slice_set last other user) number ≡ Some found
    → (found ≡ user) ⊎ ((number ≡ other → ⊥) × (slice_get last number ≡ Some found))
set_found [] other user number found h = absurd cc
set_found (x ∷ xs) zero user zero found h = inl cc
set_found (x ∷ xs) zero user (suc number) found h = inr ((λ e. omega (arith, e)), h)
set_found (x ∷ xs) (suc other) user zero found h = inr ((λ e. omega (arith, e)), h)
set_found (x ∷ xs) (suc other) user (suc number) found h = elim (set_found xs other user number found h) [
  | inl is ↦ inl is
  | inr at ↦ inr ((λ e. at.0 (omega (arith, e))), at.1)
]

same_stage : (stages : List ResolvedStage) (at user : ℕ) (stage other : ResolvedStage) → user ≡ at → slice_get stages at ≡ Some stage → slice_get stages user ≡ Some other → other ≡ stage
same_stage stages at user stage other here there found =
    let both : Some other ≡ Some stage = sym found ∙ (ap (slice_get stages) here ∙ there) in
    cc

another : (one other : ℕ) → StageOf one ≡ StageOf other → one ≡ other
another one other e = cc

noted_by : (needed : List Bool) (stages : List ResolvedStage) (at : ℕ) (last : List ℕ) (stage : ResolvedStage) (base : Origin) → stage.base ≡ base → slice_get stages at ≡ Some stage
    → Noted needed stages at last → Noted needed stages (at + 1) (with_user last base at)
unfolding Noted
noted_by needed stages at last stage (SourceOf source) e there noted number user found before is listed = elim (nearer at user before) [
  | inl earlier ↦ noted number user found earlier is listed
  | inr here ↦
      let own = same_stage stages at user stage is.stage here there is.there in
      let begins : StageOf number ≡ SourceOf source = sym is.begins ∙ (ap (λ (s : ResolvedStage). s.base) own ∙ e) in
      absurd cc
]
noted_by needed stages at last stage (StageOf other) e there noted number user found before is listed = elim (set_found last other at number found listed) [
  | inl mine ↦ omega (arith, mine, before)
  | inr theirs ↦ elim (nearer at user before) [
    | inl earlier ↦ noted number user found earlier is theirs.1
    | inr here ↦
        let own = same_stage stages at user stage is.stage here there is.there in
        absurd (theirs.0 (another number other (sym is.begins ∙ (ap (λ (s : ResolvedStage). s.base) own ∙ e))))
  ]
]

pub noted_more : (needed : List Bool) (stages : List ResolvedStage) (at : ℕ) (last more : List ℕ) (stage : ResolvedStage) → slice_get stages at ≡ Some stage → more ≡ with_user last stage.base at
    → Noted needed stages at last → Noted needed stages (at + 1) more
noted_more needed stages at last more stage there is noted =
    subst (λ (xs : List ℕ). Noted needed stages (at + 1) xs) (sym is) (noted_by needed stages at last stage stage.base refl there noted)

-- all that is wanted is known

either_left : (a b : Bool) → a ≡ true → (a || b) ≡ true
either_left true b h = refl
either_left false b h = absurd (true≢false (sym h))

either_right : (a b : Bool) → b ≡ true → (a || b) ≡ true
either_right true b h = refl
either_right false b h = h

used_by : (at user : ℕ) (last : Option ℕ) → suc at ≤ user → ((found : ℕ) → last ≡ Some found → user ≤ found) → is_used_after at last ≡ true
used_by at user None past listed = refl
used_by at user (Some found) past listed =
    let most = listed found refl in
    lt-ltb at found (omega (arith, past, most))

tells_by : (needed : List Bool) (stages : List ResolvedStage) (target at number : ℕ) (last : List ℕ) → Noted needed stages (length stages) last → IsWanted needed stages target (suc at) number
    → (nat_eq number target || is_used_after at (slice_get last number)) ≡ true
unfolding Noted
tells_by needed stages target at number last noted (inl same) = either_left (nat_eq number target) (is_used_after at (slice_get last number)) (eq-eqb number target same)
tells_by needed stages target at number last noted (inr later) =
    either_right (nat_eq number target) (is_used_after at (slice_get last number))
    (used_by at later.0 (slice_get last number) later.1
    (λ found listed. noted number later.0 found (slice_get_within stages later.0 later.2.stage later.2.there) later.2 listed))

noted_all : (needed : List Bool) (stages : List ResolvedStage) (at : ℕ) (last : List ℕ) → length stages ≤ at → Noted needed stages at last → Noted needed stages (length stages) last
unfolding Noted
noted_all needed stages at last past noted number user found before is listed = noted number user found (omega (arith, before, past)) is listed

pub tells_wanted : (needed : List Bool) (stages : List ResolvedStage) (at : ℕ) (users : Users) → length stages ≤ at → Noted needed stages at users.last → TellsWanted needed stages users.target (is_wanted users)
tells_wanted needed stages at users past noted from number wanted =
    tells_by needed stages users.target from number users.last (noted_all needed stages at users.last past noted) wanted
