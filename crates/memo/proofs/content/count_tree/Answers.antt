use Rattle.std.proofs.Common.{◌≡◌, ◌+◌, [], subst, rules}
use Rattle.memo.specs.Content.{capped, rows_bytes, tree_bytes}
use Rattle.memo.proofs.ContentLemmas.{capped-end}
use Rattle.memo.proofs.content.count_tree.Goals as goal

pub returns : goal.returns
returns c =
    let count = c.loop-entry.count in
    let none : c.loop-entry.walk.left ≡ [] = search rules in
    let all : capped (count + 0) ≡ capped (c.args.bytes + tree_bytes c.args.tree.now) =
    subst (λ rows. capped (count + rows_bytes rows) ≡ capped (c.args.bytes + tree_bytes c.args.tree.now)) none c.loop-entry.invariant in
    capped-end count (capped (c.args.bytes + tree_bytes c.args.tree.now)) c.note_fits.ensures all
