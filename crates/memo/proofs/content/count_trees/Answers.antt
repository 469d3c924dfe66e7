use Rattle.std.proofs.Common.{◌≡◌, ◌∙◌, ◌+◌, sym, arith}
use Rattle.std.proofs.lemmas.List.{at_drop_all}
use Rattle.memo.specs.Content.{capped, trees_bytes}
use Rattle.memo.proofs.ContentLemmas.{capped-end}
use Rattle.memo.proofs.content.count_trees.Goals as goal

pub returns : goal.returns
returns c =
    let count = c.loop-tree.count in
    let trees = c.args.trees.now in
    let all : capped (count + 0) ≡ capped (c.args.bytes + trees_bytes trees) =
    sym (at_drop_all (λ ts. capped (count + trees_bytes ts)) trees c.loop-tree.tree-index (omega arith)) ∙ c.loop-tree.invariant in
    capped-end count (capped (c.args.bytes + trees_bytes trees)) c.note_fits.ensures all
