use Rattle.std.proofs.Common.{sym, arith}
use Rattle.std.proofs.lemmas.Str.{IsCharBoundary-before_ascii, IsCharBoundary-after_ascii}
use Rattle.words.proofs.WordLemmas.{at_text}
use Rattle.words.proofs.LabelLemmas.{label_from-is, split_is_ascii}
use Rattle.words.proofs.pairs.label_pair.Goals as goal

pub loop-index-init : goal.loop-index-init
loop-index-init c = label_from-is c.args.escape c.args.word.now

pub range-requires-clause-end_boundary : goal.range-requires-clause-end_boundary
range-requires-clause-end_boundary c =
    let is = at_text c.args.escape _ c.args.word.now c.loop-index.index c.class_of-class.result c.class_of-class.ensures c.as_bytes-byte-items.ensures.value in
    IsCharBoundary-before_ascii c.args.word.now c.loop-index.index (omega arith) (split_is_ascii c.args.escape c.loop-index.state c.class_of-class.result _ is (sym c.if-splits.ensures))

pub range_from-requires : goal.range_from-requires
range_from-requires c =
    let is = at_text c.args.escape _ c.args.word.now c.loop-index.index c.class_of-class.result c.class_of-class.ensures c.as_bytes-byte-items.ensures.value in
    λ _. IsCharBoundary-after_ascii c.args.word.now c.loop-index.index c.utf8.word (omega arith) (split_is_ascii c.args.escape c.loop-index.state c.class_of-class.result _ is (sym c.if-splits.ensures))
