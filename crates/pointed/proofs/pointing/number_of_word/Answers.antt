use Rattle.std.proofs.Common.{◌≡◌, ◌<◌, ◌≤◌, ◌∙◌, ℕ, true, false, List, [], Bor, length, get_or, map, sym, ap, arith}
use Rattle.std.specs.Prelude.{bytes_eq}
use Rattle.std.proofs.lemmas.List.{get_or-map, length-map}
use Rattle.pointed.proofs.FirstFacts.{searched-found, searched-more, searched-none}
use Rattle.pointed.proofs.pointing.number_of_word.Goals as goal

-- a text that is lent
abbrev text : Bor (List ℕ) → List ℕ
text it = it.now

pub loop-index-preserved : goal.loop-index-preserved
loop-index-preserved c =
    let pieces = map text c.args.pieces.now in
    let l : c.loop-index.index < length pieces = omega (arith, length-map c.args.pieces.now text, c.loop-index-test.true) in
    let no : bytes_eq (get_or pieces c.loop-index.index []) c.args.word.now ≡ false =
    ap (λ (it : List ℕ). bytes_eq it c.args.word.now) (get_or-map text c.args.pieces.now c.loop-index.index _ [] c.loop-index-test.true) ∙ sym c.is_word.ensures ∙ c.if-is_word.false in
    sym (searched-more (λ begun piece. bytes_eq piece c.args.word.now) pieces c.loop-index.index [] l no) ∙ c.loop-index.invariant

pub returns-then-is_word : goal.returns-then-is_word
returns-then-is_word c =
    let pieces = map text c.args.pieces.now in
    let l : c.loop-index.index < length pieces = omega (arith, length-map c.args.pieces.now text, c.loop-index-test.true) in
    let yes : bytes_eq (get_or pieces c.loop-index.index []) c.args.word.now ≡ true =
    ap (λ (it : List ℕ). bytes_eq it c.args.word.now) (get_or-map text c.args.pieces.now c.loop-index.index _ [] c.loop-index-test.true) ∙ sym c.is_word.ensures ∙ c.if-is_word.true in
    sym (searched-found (λ begun piece. bytes_eq piece c.args.word.now) pieces c.loop-index.index [] l yes) ∙ c.loop-index.invariant

pub returns : goal.returns
returns c =
    let pieces = map text c.args.pieces.now in
    let l : length pieces ≤ c.loop-index.index = omega (arith, length-map c.args.pieces.now text, c.loop-index-test.false) in
    sym (searched-none (λ begun piece. bytes_eq piece c.args.word.now) pieces c.loop-index.index l) ∙ c.loop-index.invariant
