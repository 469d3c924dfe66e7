use Rattle.std.proofs.Common.{◌≡◌, ◌<◌, ◌-◌, ◌∙◌, ℕ, suc, Bool, true, false, Bor, List, [], ap, arith, drop, get_or, length, map, subst, sym}
use Rattle.std.proofs.lemmas.List.{get_or-map, length-map}
use Rattle.std.specs.List.{list_any}
use Rattle.meant.specs.Begun.{begins_stage}
use Rattle.meant.proofs.LineFacts.{last_begins, none_begins, none_before}
use Rattle.meant.proofs.begun.count_before_last.Goals as goal

abbrev texts : List (Bor (List ℕ)) → List (List ℕ)
texts lines = map (λ (line : Bor (List ℕ)). line.now) lines

-- what is known of the line before a place, as of the texts
told : (lines : List (Bor (List ℕ))) (place : ℕ) (found answer : Bool) → place < length lines
    → found ≡ begins_stage (get_or lines place (record { ref_ptr = (0, 0); now = [] })).now → found ≡ answer → begins_stage (get_or (texts lines) place []) ≡ answer
told lines place found answer within is same =
    ap begins_stage (get_or-map (λ (line : Bor (List ℕ)). line.now) lines place (record { ref_ptr = (0, 0); now = [] }) [] within) ∙ sym is ∙ same

within_texts : (lines : List (Bor (List ℕ))) (place : ℕ) → place < length lines → place < length (texts lines)
within_texts lines place within =
    let count : length (texts lines) ≡ length lines = length-map lines (λ (line : Bor (List ℕ)). line.now) in
    omega arith

-- none of those from a place on, said of the place before it
from_next : (lines : List (Bor (List ℕ))) (place : ℕ) → 0 < place → list_any begins_stage (drop place (texts lines)) ≡ false
    → list_any begins_stage (drop (suc (place - 1)) (texts lines)) ≡ false
from_next lines place some none =
    let next : place ≡ suc (place - 1) = omega arith in
    subst (λ (at : ℕ). list_any begins_stage (drop at (texts lines)) ≡ false) next none

pub returns-then-begins_stage-clause-before : goal.returns-then-begins_stage-clause-before
returns-then-begins_stage-clause-before c =
    let lines = c.args.lines.now in
    let at : ℕ = c.lines.place - 1 in
    let within : at < length lines = omega arith in
    last_begins at (texts lines) (within_texts lines at within)
    (told lines at c.begins_stage.result true within c.begins_stage.ensures c.if-begins_stage.true)
    (from_next lines c.lines.place c.lines-test.true c.lines.invariant.1)

pub lines-preserved : goal.lines-preserved
lines-preserved c =
    let lines = c.args.lines.now in
    let at : ℕ = c.lines.place - 1 in
    let within : at < length lines = omega arith in (
      omega arith,
      none_begins at (texts lines) (within_texts lines at within)
          (told lines at c.begins_stage.result false within c.begins_stage.ensures c.if-begins_stage.false)
          (from_next lines c.lines.place c.lines-test.true c.lines.invariant.1),
    )

pub returns-clause-before : goal.returns-clause-before
returns-clause-before c =
    let done : c.lines.place ≡ 0 = omega arith in
    none_before (texts c.args.lines.now) (subst (λ (at : ℕ). list_any begins_stage (drop at (texts c.args.lines.now)) ≡ false) done c.lines.invariant.1)
