use Rattle.std.proofs.Common.{◌≡◌, ◌<◌, ◌≤◌, ◌∙◌, ℕ, true, false, List, [], Bor, length, get_or, map, take, sym, ap, arith}
use Rattle.std.proofs.lemmas.List.{get_or-map, length-map, take-map, take_all}
use Rattle.pointed.specs.Word.{is_plain, plain_words}
use Rattle.pointed.proofs.WordFacts.{IsFront, front-more, front-ends, front-all}
use Rattle.pointed.proofs.word.plain_words.Goals as goal

-- a text that is lent
abbrev text : Bor (List ℕ) → List ℕ
text it = it.now

-- as many of the pieces, which are lent
cut : (pieces : List (Bor (List ℕ))) (at count : ℕ) (d : Bor (List ℕ)) → at < length pieces → count ≡ at → is_plain (get_or pieces at d).now ≡ false
    → IsFront is_plain (map text pieces) at → map text (take count pieces) ≡ plain_words (map text pieces)
cut pieces at count d l same isnt front =
    let inside : at < length (map text pieces) = omega (arith, length-map pieces text, l) in
    ap (λ n. map text (take n pieces)) same ∙ sym (take-map text at pieces)
    ∙ front-ends is_plain (map text pieces) at [] inside (ap is_plain (get_or-map text pieces at d [] l) ∙ isnt) front

pub loop-index-preserved : goal.loop-index-preserved
loop-index-preserved c =
    let pieces = map text c.args.pieces.now in
    let l : c.loop-index.index < length pieces = omega (arith, length-map c.args.pieces.now text, c.loop-index-test.true) in
    let yes : is_plain (get_or pieces c.loop-index.index []) ≡ true =
    ap is_plain (get_or-map text c.args.pieces.now c.loop-index.index _ [] c.loop-index-test.true) ∙ sym c.is_plain.ensures ∙ c.if-not-is_plain.false in
    front-more is_plain pieces c.loop-index.index [] l yes c.loop-index.invariant

pub returns-then-not-is_plain : goal.returns-then-not-is_plain
returns-then-not-is_plain c =
    cut c.args.pieces.now c.loop-index.index _ _ c.loop-index-test.true (omega arith) (sym c.is_plain.ensures ∙ c.if-not-is_plain.true) c.loop-index.invariant

pub returns : goal.returns
returns c =
    let pieces = map text c.args.pieces.now in
    let l : length pieces ≤ c.loop-index.index = omega (arith, length-map c.args.pieces.now text, c.loop-index-test.false) in
    sym (take_all c.loop-index.index pieces l) ∙ front-all is_plain pieces c.loop-index.index l c.loop-index.invariant
