use Rattle.std.proofs.Common.{◌≡◌, ◌<◌, ◌≤◌, ◌∙◌, ℕ, true, false, List, [], Bor, length, get_or, map, sym, ap, arith}
use Rattle.std.proofs.lemmas.List.{get_or-map, length-map}
use Rattle.pointed.specs.Word.{is_wrong}
use Rattle.pointed.proofs.FirstFacts.{searched-found, searched-more, searched-none}
use Rattle.pointed.proofs.word.first_wrong.Goals as goal

-- a text that is lent
abbrev text : Bor (List ℕ) → List ℕ
text it = it.now

pub loop-index-preserved : goal.loop-index-preserved
loop-index-preserved c =
    let words = map text c.args.words.now in
    let l : c.loop-index.index < length words = omega (arith, length-map c.args.words.now text, c.loop-index-test.true) in
    let no : is_wrong c.args.subject (get_or words c.loop-index.index []) ≡ false =
    ap (is_wrong c.args.subject) (get_or-map text c.args.words.now c.loop-index.index _ [] c.loop-index-test.true) ∙ sym c.is_wrong.ensures ∙ c.if-is_wrong.false in
    sym (searched-more (λ begun word. is_wrong c.args.subject word) words c.loop-index.index [] l no) ∙ c.loop-index.invariant

pub returns-then-is_wrong : goal.returns-then-is_wrong
returns-then-is_wrong c =
    let words = map text c.args.words.now in
    let l : c.loop-index.index < length words = omega (arith, length-map c.args.words.now text, c.loop-index-test.true) in
    let yes : is_wrong c.args.subject (get_or words c.loop-index.index []) ≡ true =
    ap (is_wrong c.args.subject) (get_or-map text c.args.words.now c.loop-index.index _ [] c.loop-index-test.true) ∙ sym c.is_wrong.ensures ∙ c.if-is_wrong.true in
    sym (searched-found (λ begun word. is_wrong c.args.subject word) words c.loop-index.index [] l yes) ∙ c.loop-index.invariant

pub returns : goal.returns
returns c =
    let words = map text c.args.words.now in
    let l : length words ≤ c.loop-index.index = omega (arith, length-map c.args.words.now text, c.loop-index-test.false) in
    sym (searched-none (λ begun word. is_wrong c.args.subject word) words c.loop-index.index l) ∙ c.loop-index.invariant
