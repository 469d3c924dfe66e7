-- The titles of stages whose lines ascend: each step's stands at its line, and no other line has one.
use Rattle.std.proofs.Common.{◌≡◌, ◌⊎◌, inl, inr, ◌<◌, ◌≤◌, ◌+◌, ◌-◌, ℕ, zero, suc, List, [], ◌∷◌, ◌++◌, map, Option, Some, None, length, replicate, refl, sym, ap, ◌∙◌, subst, arith, length-append, if◌then◌else◌}
use Rattle.std.specs.Prelude.{is_some}
use Rattle.std.proofs.Math.ListN.{get_or-append}
use Rattle.std.proofs.Math.Seq.{get_or-append_seam, get_or-append_right}
use Rattle.std.proofs.lemmas.Bool.{cases_lt}
use Rattle.std.proofs.lemmas.List.{get_or_past, get_or-replicate, length-replicate}
use Rattle.lines.specs.declared.line.Line.{Line}
use Rattle.llb.specs.Places.{AscendFrom, AreLines}
use Rattle.stages.specs.Naming.{Names}
use Rattle.stages.specs.Table.{lines_of}
use Rattle.stages.specs.declared.stage.ResolvedInstruction.{ResolvedInstruction}
use Rattle.stages.specs.declared.stage.ResolvedStage.{ResolvedStage}
use Rattle.titles.specs.Titled.{title_at, IsStep, steps_of, steps_up_to}
use Rattle.titles.specs.Titles.{step_word, step_count, base_count, called_at, rest_at, step_title, with_title, with_step, steps_titled, stage_titled, stages_titled, titles_of}

abbrev Titles : Type 0
Titles = List (Option (List ℕ))

abbrev none : Option (List ℕ)
none = None

-- ---- one title

-- a margin gives no line a title
margin_by : (titles : Titles) (n k : ℕ) → length titles ≤ k → (k - length titles < n) ⊎ (n ≤ k - length titles) → title_at (replicate n None) (k - length titles) ≡ None
margin_by titles n k past (inl inside) = get_or-replicate n (k - length titles) None None inside
margin_by titles n k past (inr behind) =
    let long : length (replicate n none) ≡ n = length-replicate n None in
    get_or_past (replicate n None) (k - length titles) None (omega (arith, long, behind))

padded_by : (titles : Titles) (n k : ℕ) → (k < length titles) ⊎ (length titles ≤ k) → title_at (titles ++ replicate n None) k ≡ title_at titles k
padded_by titles n k (inl inside) = get_or-append titles (replicate n None) None k inside
padded_by titles n k (inr past) =
    get_or-append_right titles (replicate n None) k None past ∙ margin_by titles n k past (cases_lt (k - length titles) n) ∙ sym (get_or_past titles k None past)

padded : (titles : Titles) (n k : ℕ) → title_at (titles ++ replicate n None) k ≡ title_at titles k
padded titles n k = padded_by titles n k (cases_lt k (length titles))

long_margin : (titles : Titles) (line : ℕ) → length titles ≤ line → length (titles ++ replicate (line - length titles) None) ≡ line
long_margin titles line short =
    let all : length (titles ++ replicate (line - length titles) None) ≡ length titles + length (replicate (line - length titles) none) = length-append titles (replicate (line - length titles) None) in
    let margin : length (replicate (line - length titles) none) ≡ line - length titles = length-replicate (line - length titles) None in
    omega (arith, all, margin, short)

long_with : (titles : Titles) (line : ℕ) (title : List ℕ) → length titles ≤ line → length (with_title titles line title) ≡ line + 1
long_with titles line title short =
    let all : length (with_title titles line title) ≡ length (titles ++ replicate (line - length titles) None) + 1 = length-append (titles ++ replicate (line - length titles) None) (Some title ∷ []) in
    let margin = long_margin titles line short in
    omega (arith, all, margin)

new_title : (titles : Titles) (line : ℕ) (title : List ℕ) → length titles ≤ line → title_at (with_title titles line title) line ≡ Some title
new_title titles line title short =
    subst (λ k. title_at (with_title titles line title) k ≡ Some title) (long_margin titles line short)
    (get_or-append_seam (titles ++ replicate (line - length titles) None) (Some title) [] None)

old_by : (titles : Titles) (line : ℕ) (title : List ℕ) (k : ℕ) → length titles ≤ line → (line ≡ k → ⊥) → (k < line) ⊎ (line ≤ k)
    → title_at (with_title titles line title) k ≡ title_at titles k
old_by titles line title k short other (inl less) =
    let margin = long_margin titles line short in
    get_or-append (titles ++ replicate (line - length titles) None) (Some title ∷ []) None k (omega (arith, margin, less)) ∙ padded titles (line - length titles) k
old_by titles line title k short other (inr more) = elim (cases_lt line k) [
  | inl less ↦ (let long = long_with titles line title short in
      get_or_past (with_title titles line title) k None (omega (arith, long, less)) ∙ sym (get_or_past titles k None (omega (arith, short, less))))
  | inr not_less ↦ absurd (other (omega (arith, more, not_less)))
]

old_title : (titles : Titles) (line : ℕ) (title : List ℕ) (k : ℕ) → length titles ≤ line → (line ≡ k → ⊥) → title_at (with_title titles line title) k ≡ title_at titles k
old_title titles line title k short other = old_by titles line title k short other (cases_lt k line)

-- ---- the steps of a stage

-- the lines of some instructions
abbrev lines_in : List ResolvedInstruction → List ℕ
lines_in rs = map (λ (r : ResolvedInstruction). r.instruction.line) rs

-- the last of some lines, where this one is before them
abbrev last_line : ℕ → List ResolvedInstruction → ℕ
last_line low [] = low
last_line low (r ∷ rs) = last_line r.instruction.line rs

last_more : (low : ℕ) (rs : List ResolvedInstruction) (rest : List ℕ) → AscendFrom low (lines_in rs ++ rest) → low ≤ last_line low rs
last_more low [] rest up = omega arith
last_more low (r ∷ rs) rest up = let first = up.0 in let more = last_more r.instruction.line rs rest up.1.1 in omega (arith, first, more)

rest_up : (low : ℕ) (rs : List ResolvedInstruction) (rest : List ℕ) → AscendFrom low (lines_in rs ++ rest) → AscendFrom (last_line low rs) rest
rest_up low [] rest up = up
rest_up low (r ∷ rs) rest up = rest_up r.instruction.line rs rest up.1.1

above : (low : ℕ) (before : List ResolvedInstruction) (r : ResolvedInstruction) (after : List ResolvedInstruction) (rest : List ℕ)
    → AscendFrom low (lines_in (before ++ r ∷ after) ++ rest) → low < r.instruction.line
above low [] r after rest up = up.0
above low (b ∷ before) r after rest up = let first = up.0 in let more = above b.instruction.line before r after rest up.1.1 in omega (arith, first, more)

by_last : (low : ℕ) (before : List ResolvedInstruction) (r : ResolvedInstruction) (after : List ResolvedInstruction) (rest : List ℕ)
    → AscendFrom low (lines_in (before ++ r ∷ after) ++ rest) → r.instruction.line ≤ last_line low (before ++ r ∷ after)
by_last low [] r after rest up = last_more r.instruction.line after rest up.1.1
by_last low (b ∷ before) r after rest up = by_last b.instruction.line before r after rest up.1.1

-- the number of the steps that stand before the instructions after this one
abbrev more_before : ℕ → Option (List ℕ) → ℕ
more_before before word = if is_some word then before + 1 else before

long_step : (lines : List Line) (called : List ℕ) (total before line : ℕ) (word : Option (List ℕ)) (titles : Titles) (low : ℕ) → low < line
    → length titles ≤ low + 1 → length (with_step lines called total (before + 1) line word titles) ≤ line + 1
long_step lines called total before line None titles low less short = omega (arith, less, short)
long_step lines called total before line (Some word) titles low less short =
    let long = long_with titles line (step_title called (before + 1) total word (rest_at lines line)) (omega (arith, less, short)) in omega (arith, long)

long_steps : (lines : List Line) (called : List ℕ) (total before : ℕ) (rs : List ResolvedInstruction) (titles : Titles) (rest : List ℕ) (low : ℕ)
    → AscendFrom low (lines_in rs ++ rest) → length titles ≤ low + 1 → length (steps_titled lines called total before rs titles) ≤ last_line low rs + 1
long_steps lines called total before [] titles rest low up short = short
long_steps lines called total before (r ∷ rs) titles rest low up short =
    long_steps lines called total (more_before before (step_word r.instruction.kind)) rs
    (with_step lines called total (before + 1) r.instruction.line (step_word r.instruction.kind) titles) rest r.instruction.line up.1.1
    (long_step lines called total before r.instruction.line (step_word r.instruction.kind) titles low up.0 short)

-- no step of these has this line
abbrev HasNoStep : List ResolvedInstruction → ℕ → Type 0
HasNoStep rs line = (before : List ResolvedInstruction) (r : ResolvedInstruction) (after : List ResolvedInstruction) (word : List ℕ) → rs ≡ before ++ r ∷ after
    → step_word r.instruction.kind ≡ Some word → r.instruction.line ≡ line → ⊥

other_step : (lines : List Line) (called : List ℕ) (total before line : ℕ) (word : Option (List ℕ)) (titles : Titles) (low k : ℕ) → low < line
    → length titles ≤ low + 1 → ((w : List ℕ) → word ≡ Some w → line ≡ k → ⊥)
    → title_at (with_step lines called total (before + 1) line word titles) k ≡ title_at titles k
other_step lines called total before line None titles low k less short never = refl
other_step lines called total before line (Some word) titles low k less short never =
    old_title titles line (step_title called (before + 1) total word (rest_at lines line)) k (omega (arith, less, short)) (never word refl)

steps_other : (lines : List Line) (called : List ℕ) (total before : ℕ) (rs : List ResolvedInstruction) (titles : Titles) (rest : List ℕ) (low k : ℕ)
    → AscendFrom low (lines_in rs ++ rest) → length titles ≤ low + 1 → HasNoStep rs k
    → title_at (steps_titled lines called total before rs titles) k ≡ title_at titles k
steps_other lines called total before [] titles rest low k up short never = refl
steps_other lines called total before (r ∷ rs) titles rest low k up short never =
    steps_other lines called total (more_before before (step_word r.instruction.kind)) rs
    (with_step lines called total (before + 1) r.instruction.line (step_word r.instruction.kind) titles) rest r.instruction.line k up.1.1
    (long_step lines called total before r.instruction.line (step_word r.instruction.kind) titles low up.0 short)
    (λ bs s after word split is at. never (r ∷ bs) s after word (ap (λ xs. r ∷ xs) split) is at)
    ∙ other_step lines called total before r.instruction.line (step_word r.instruction.kind) titles low k up.0 short (λ word is at. never [] r rs word refl is at)

-- all of these have later lines
none_by : (low : ℕ) (rs : List ResolvedInstruction) (rest : List ℕ) (line : ℕ) → AscendFrom low (lines_in rs ++ rest) → line ≤ low → HasNoStep rs line
none_by low rs rest line up le before r after word split is at =
    let more = above low before r after rest (subst (λ xs. AscendFrom low (lines_in xs ++ rest)) split up) in omega (arith, more, at, le)

own_step : (lines : List Line) (called : List ℕ) (total before line : ℕ) (word : Option (List ℕ)) (w : List ℕ) (titles : Titles) (low : ℕ) → low < line
    → length titles ≤ low + 1 → word ≡ Some w
    → title_at (with_step lines called total (before + 1) line word titles) line
    ≡ Some (step_title called (before + (if is_some word then 1 + 0 else 0)) total w (rest_at lines line))
own_step lines called total before line None w titles low less short is = let f : None ≡ Some w = is in absurd cc
own_step lines called total before line (Some word) w titles low less short is =
    let same : word ≡ w = cc in
    subst (λ v. title_at (with_title titles line (step_title called (before + 1) total word (rest_at lines line))) line ≡ Some (step_title called (before + 1) total v (rest_at lines line)))
    same (new_title titles line (step_title called (before + 1) total word (rest_at lines line)) (omega (arith, less, short)))

count_by : (before count : ℕ) (word : Option (List ℕ)) → more_before before word + count ≡ before + (if is_some word then 1 + count else count)
count_by before count None = refl
count_by before count (Some word) = omega arith

steps_at : (lines : List Line) (called : List ℕ) (total before : ℕ) (bs : List ResolvedInstruction) (r : ResolvedInstruction) (after : List ResolvedInstruction)
    (word : List ℕ) (titles : Titles) (rest : List ℕ) (low : ℕ) → AscendFrom low (lines_in (bs ++ r ∷ after) ++ rest) → length titles ≤ low + 1
    → step_word r.instruction.kind ≡ Some word
    → title_at (steps_titled lines called total before (bs ++ r ∷ after) titles) r.instruction.line
    ≡ Some (step_title called (before + step_count (bs ++ r ∷ [])) total word (rest_at lines r.instruction.line))
steps_at lines called total before [] r after word titles rest low up short is =
    steps_other lines called total (more_before before (step_word r.instruction.kind)) after
    (with_step lines called total (before + 1) r.instruction.line (step_word r.instruction.kind) titles) rest r.instruction.line r.instruction.line up.1.1
    (long_step lines called total before r.instruction.line (step_word r.instruction.kind) titles low up.0 short)
    (none_by r.instruction.line after rest r.instruction.line up.1.1 (omega arith))
    ∙ own_step lines called total before r.instruction.line (step_word r.instruction.kind) word titles low up.0 short is
steps_at lines called total before (b ∷ bs) r after word titles rest low up short is =
    steps_at lines called total (more_before before (step_word b.instruction.kind)) bs r after word
    (with_step lines called total (before + 1) b.instruction.line (step_word b.instruction.kind) titles) rest b.instruction.line up.1.1
    (long_step lines called total before b.instruction.line (step_word b.instruction.kind) titles low up.0 short) is
    ∙ ap (λ n. Some (step_title called n total word (rest_at lines r.instruction.line))) (count_by before (step_count (bs ++ r ∷ [])) (step_word b.instruction.kind))

-- ---- stages

-- no step of these stages has this line
abbrev HaveNoStep : List ResolvedStage → ℕ → Type 0
HaveNoStep stages line = (number : ℕ) (stage : ResolvedStage) (before : List ResolvedInstruction) (r : ResolvedInstruction) (word : List ℕ)
    → IsStep stages number stage before r word → r.instruction.line ≡ line → ⊥

later_step : (s : ResolvedStage) (stages : List ResolvedStage) (number : ℕ) (stage : ResolvedStage) (before : List ResolvedInstruction) (r : ResolvedInstruction)
    (word : List ℕ) → IsStep stages number stage before r word → IsStep (s ∷ stages) (suc number) stage before r word
later_step s stages number stage before r word step = record { there = step.there; after = step.after; stands = step.stands; says = step.says }

stages_other : (lines : List Line) (names : Names) (count number : ℕ) (stages : List ResolvedStage) (titles : Titles) (low k : ℕ)
    → AscendFrom low (lines_of stages) → length titles ≤ low + 1 → HaveNoStep stages k
    → title_at (stages_titled lines names count number stages titles) k ≡ title_at titles k
stages_other lines names count number [] titles low k up short never = refl
stages_other lines names count number (stage ∷ stages) titles low k up short never =
    let above_from = up.0 in
    let more : length titles ≤ stage.line + 1 = omega (arith, above_from, short) in
    stages_other lines names count (number + 1) stages (stage_titled lines (called_at names count number) stage titles) (last_line stage.line stage.instructions) k
    (rest_up stage.line stage.instructions (lines_of stages) up.1.1)
    (long_steps lines (called_at names count number) (steps_of stage) (base_count stage.base) stage.instructions titles (lines_of stages) stage.line up.1.1 more)
    (λ n s before r word step at. never (suc n) s before r word (later_step stage stages n s before r word step) at)
    ∙ steps_other lines (called_at names count number) (steps_of stage) (base_count stage.base) stage.instructions titles (lines_of stages) stage.line k up.1.1 more
    (λ before r after word split is at. never 0 stage before r word (record { there = refl; after = after; stands = split; says = is }) at)

stages_above : (low : ℕ) (stages : List ResolvedStage) (number : ℕ) (stage : ResolvedStage) (before : List ResolvedInstruction) (r : ResolvedInstruction)
    (word : List ℕ) → AscendFrom low (lines_of stages) → IsStep stages number stage before r word → low < r.instruction.line
stages_above low [] number stage before r word up step = let f : None ≡ Some stage = step.there in absurd cc
stages_above low (s ∷ stages) zero stage before r word up step =
    let there : Some s ≡ Some stage = step.there in
    let same : s ≡ stage = cc in
    let first = up.0 in
    let more = above s.line before r step.after (lines_of stages)
    (subst (λ xs. AscendFrom s.line (lines_in xs ++ lines_of stages)) (ap (λ (t : ResolvedStage). t.instructions) same ∙ step.stands) up.1.1) in
    omega (arith, first, more)
stages_above low (s ∷ stages) (suc number) stage before r word up step =
    let first = up.0 in
    let last = last_more s.line s.instructions (lines_of stages) up.1.1 in
    let more = stages_above (last_line s.line s.instructions) stages number stage before r word (rest_up s.line s.instructions (lines_of stages) up.1.1)
    (record { there = step.there; after = step.after; stands = step.stands; says = step.says }) in
    omega (arith, first, last, more)

-- the title of a step of a stage that is called so, in which these stand before it
abbrev IsTitledSo : List Line → List ℕ → ResolvedStage → List ResolvedInstruction → ResolvedInstruction → List ℕ → Titles → Type 0
IsTitledSo lines called stage before r word titles =
    title_at titles r.instruction.line ≡ Some (step_title called (steps_up_to stage before r) (steps_of stage) word (rest_at lines r.instruction.line))

first_at : (lines : List Line) (names : Names) (count number : ℕ) (stage : ResolvedStage) (stages : List ResolvedStage) (titles : Titles) (low : ℕ)
    (before : List ResolvedInstruction) (r : ResolvedInstruction) (after : List ResolvedInstruction) (word : List ℕ)
    → AscendFrom low (lines_of (stage ∷ stages)) → length titles ≤ low + 1 → stage.instructions ≡ before ++ r ∷ after
    → step_word r.instruction.kind ≡ Some word
    → IsTitledSo lines (called_at names count number) stage before r word (stages_titled lines names count number (stage ∷ stages) titles)
first_at lines names count number stage stages titles low before r after word up short split is =
    let above_from = up.0 in
    let more : length titles ≤ stage.line + 1 = omega (arith, above_from, short) in
    let here : AscendFrom stage.line (lines_in (before ++ r ∷ after) ++ lines_of stages) = subst (λ xs. AscendFrom stage.line (lines_in xs ++ lines_of stages)) split up.1.1 in
    let le : r.instruction.line ≤ last_line stage.line stage.instructions =
    subst (λ xs. r.instruction.line ≤ last_line stage.line xs) (sym split) (by_last stage.line before r after (lines_of stages) here) in
    let rest = rest_up stage.line stage.instructions (lines_of stages) up.1.1 in
    stages_other lines names count (number + 1) stages (stage_titled lines (called_at names count number) stage titles) (last_line stage.line stage.instructions) r.instruction.line
    rest
    (long_steps lines (called_at names count number) (steps_of stage) (base_count stage.base) stage.instructions titles (lines_of stages) stage.line up.1.1 more)
    (λ n s bs other w step at. (let above_last = stages_above (last_line stage.line stage.instructions) stages n s bs other w rest step in omega (arith, above_last, at, le)))
    ∙ subst (λ xs. title_at (steps_titled lines (called_at names count number) (steps_of stage) (base_count stage.base) xs titles) r.instruction.line
    ≡ Some (step_title (called_at names count number) (steps_up_to stage before r) (steps_of stage) word (rest_at lines r.instruction.line))) (sym split)
    (steps_at lines (called_at names count number) (steps_of stage) (base_count stage.base) before r after word titles (lines_of stages) stage.line here more is)

stages_at : (lines : List Line) (names : Names) (count number : ℕ) (stages : List ResolvedStage) (titles : Titles) (low n : ℕ) (stage : ResolvedStage)
    (before : List ResolvedInstruction) (r : ResolvedInstruction) (word : List ℕ)
    → AscendFrom low (lines_of stages) → length titles ≤ low + 1 → IsStep stages n stage before r word
    → IsTitledSo lines (called_at names count (number + n)) stage before r word (stages_titled lines names count number stages titles)
stages_at lines names count number [] titles low n stage before r word up short step = let f : None ≡ Some stage = step.there in absurd cc
stages_at lines names count number (s ∷ stages) titles low zero stage before r word up short step =
    let there : Some s ≡ Some stage = step.there in
    let same : s ≡ stage = cc in
    let here : number ≡ number + 0 = omega arith in
    subst (λ m. IsTitledSo lines (called_at names count m) stage before r word (stages_titled lines names count number (s ∷ stages) titles)) here
    (subst (λ t. IsTitledSo lines (called_at names count number) t before r word (stages_titled lines names count number (s ∷ stages) titles)) same
    (first_at lines names count number s stages titles low before r step.after word up short (ap (λ (t : ResolvedStage). t.instructions) same ∙ step.stands) step.says))
stages_at lines names count number (s ∷ stages) titles low (suc n) stage before r word up short step =
    let above_from = up.0 in
    let more : length titles ≤ s.line + 1 = omega (arith, above_from, short) in
    let next : number + 1 + n ≡ number + suc n = omega arith in
    subst (λ m. IsTitledSo lines (called_at names count m) stage before r word (stages_titled lines names count number (s ∷ stages) titles)) next
    (stages_at lines names count (number + 1) stages (stage_titled lines (called_at names count number) s titles) (last_line s.line s.instructions) n stage before r word
    (rest_up s.line s.instructions (lines_of stages) up.1.1)
    (long_steps lines (called_at names count number) (steps_of s) (base_count s.base) s.instructions titles (lines_of stages) s.line up.1.1 more)
    (record { there = step.there; after = step.after; stands = step.stands; says = step.says }))

-- ---- laws

pub titles_at : (lines : List Line) (names : Names) (stages : List ResolvedStage) (number : ℕ) (stage : ResolvedStage) (before : List ResolvedInstruction)
    (step : ResolvedInstruction) (word : List ℕ) → AreLines (lines_of stages) → IsStep stages number stage before step word
    → title_at (titles_of lines names stages) step.instruction.line
    ≡ Some (step_title (called_at names (length stages) number) (steps_up_to stage before step) (steps_of stage) word (rest_at lines step.instruction.line))
titles_at lines names stages number stage before step word up is =
    let same : 0 + number ≡ number = omega arith in
    subst (λ m. IsTitledSo lines (called_at names (length stages) m) stage before step word (titles_of lines names stages)) same
    (stages_at lines names (length stages) 0 stages [] 0 number stage before step word up (omega arith) is)

pub titles_other : (lines : List Line) (names : Names) (stages : List ResolvedStage) (line : ℕ) → AreLines (lines_of stages) → HaveNoStep stages line
    → title_at (titles_of lines names stages) line ≡ None
titles_other lines names stages line up never = stages_other lines names (length stages) 0 stages [] 0 line up (omega arith) never

-- how many steps there are up to one

one_more : (count : ℕ) (word : Option (List ℕ)) → count ≤ (if is_some word then 1 + count else count)
one_more count None = omega arith
one_more count (Some word) = omega arith

own_counts : (word : Option (List ℕ)) (w : List ℕ) → word ≡ Some w → (if is_some word then 1 + 0 else 0) ≡ 1
own_counts None w is = let f : None ≡ Some w = is in absurd cc
own_counts (Some word) w is = refl

up_to_some : (before : List ResolvedInstruction) (r : ResolvedInstruction) (word : List ℕ) → step_word r.instruction.kind ≡ Some word
    → 1 ≤ step_count (before ++ r ∷ [])
up_to_some [] r word is = let own = own_counts (step_word r.instruction.kind) word is in omega (arith, own)
up_to_some (b ∷ before) r word is =
    let rest = up_to_some before r word is in
    let more = one_more (step_count (before ++ r ∷ [])) (step_word b.instruction.kind) in omega (arith, rest, more)

less_more : (few many : ℕ) (word : Option (List ℕ)) → few ≤ many → (if is_some word then 1 + few else few) ≤ (if is_some word then 1 + many else many)
less_more few many None le = le
less_more few many (Some word) le = omega (arith, le)

up_to_all : (before : List ResolvedInstruction) (r : ResolvedInstruction) (after : List ResolvedInstruction)
    → step_count (before ++ r ∷ []) ≤ step_count (before ++ r ∷ after)
up_to_all [] r after = less_more 0 (step_count after) (step_word r.instruction.kind) (omega arith)
up_to_all (b ∷ before) r after = less_more (step_count (before ++ r ∷ [])) (step_count (before ++ r ∷ after)) (step_word b.instruction.kind) (up_to_all before r after)

pub steps_counted : (stages : List ResolvedStage) (number : ℕ) (stage : ResolvedStage) (before : List ResolvedInstruction) (step : ResolvedInstruction)
    (word : List ℕ) → IsStep stages number stage before step word
    → (1 ≤ steps_up_to stage before step) × (steps_up_to stage before step ≤ steps_of stage)
steps_counted stages number stage before step word is =
    let some = up_to_some before step word is.says in
    let all : step_count (before ++ step ∷ []) ≤ step_count stage.instructions =
    subst (λ xs. step_count (before ++ step ∷ []) ≤ step_count xs) (sym is.stands) (up_to_all before step is.after) in
    (omega (arith, some), omega (arith, all))
