use Rattle.std.proofs.Common.{subst, ◌≡◌, ◌++◌, List, ℕ, [], sym, ◌∙◌, ap, map, Bor, arith}
use Rattle.std.proofs.lemmas.Grind.{common_steps}
use Rattle.std.proofs.lemmas.Str.{IsCharBoundary-start, IsCharBoundary-before_ascii, IsCharBoundary-after_ascii}
use Rattle.std.specs.Prelude.{IsCharBoundary}
use Rattle.words.proofs.PartLaws.{words-at}
use Rattle.words.proofs.WordLemmas.{words_from-is, words_from-cut, words_from-more, cut_is_ascii, at_text}
use Rattle.words.proofs.cutting.split.Goals as goal
use Rattle.words.proofs.cutting.split.Goals.{then-cuts+in_ok-push_word, else-cuts}

none_found : (found : List (Bor (List ℕ))) (left all : List (List ℕ)) → found ≡ [] → left ≡ all → map (λ word. word.now) found ++ left ≡ all
none_found found left all h i = ap (λ (ws : List (Bor (List ℕ))). map (λ word. word.now) ws ++ left) h ∙ i

pub loop-index-init : goal.loop-index-init
loop-index-init c = record {
  behind = omega arith;
  cut = IsCharBoundary-start _ c.utf8.text;
  found = none_found c.new-found.result.items _ _ c.new-found.ensures.items (words_from-is c.args.escape c.args.text.now);
}

pub range-requires-clause-end_boundary : goal.range-requires-clause-end_boundary
range-requires-clause-end_boundary c =
    let is = at_text c.args.escape _ c.args.text.now c.loop-index.index c.class_of-class.result c.class_of-class.ensures c.as_bytes-byte-items.ensures.value in
    IsCharBoundary-before_ascii c.args.text.now c.loop-index.index (omega arith) (cut_is_ascii c.args.escape c.loop-index.state c.class_of-class.result _ is (sym c.if-cuts.ensures))

pub loop-index-preserved : goal.loop-index-preserved
loop-index-preserved c =
    let is = at_text c.args.escape _ c.args.text.now c.loop-index.index c.class_of-class.result c.class_of-class.ensures c.as_bytes-byte-items.ensures.value in
    elim c.if-cuts.branch [
      | then-cuts+in_ok-push_word w ↦
          let ascii = cut_is_ascii c.args.escape c.loop-index.state c.class_of-class.result _ is (sym w.if-cuts.ensures) in
          let b = words_from-cut c.args.escape c.loop-index.state c.after-state.result c.class_of-class.result (map (λ word. word.now) c.loop-index.found.items) c.args.text.now c.loop-index.start c.loop-index.index is (sym w.if-cuts.ensures) c.after-state.ensures c.loop-index.invariant.behind (omega arith) in
          record { behind = omega arith; cut = subst (λ n. IsCharBoundary c.args.text.now n) (sym w.start-is) (IsCharBoundary-after_ascii c.args.text.now c.loop-index.index c.utf8.text (omega arith) ascii); found = cc (w.in_ok-push_word.ensures, b) }
      | else-cuts w ↦
          let b = words_from-more c.args.escape c.loop-index.state c.after-state.result c.class_of-class.result (map (λ word. word.now) c.loop-index.found.items) c.args.text.now c.loop-index.start c.loop-index.index is (sym w.if-cuts.ensures) c.after-state.ensures c.loop-index.invariant.behind (omega arith) in
          record { behind = omega arith; cut = subst (λ n. IsCharBoundary c.args.text.now n) (sym w.start-is) c.loop-index.invariant.cut; found = cc b }
    ]

pub returns-clause-words : goal.returns-clause-words
returns-clause-words c = words-at c.args.escape c.args.text.now _ (grind (arith, common_steps))
