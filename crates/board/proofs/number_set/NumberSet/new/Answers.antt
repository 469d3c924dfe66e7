use Rattle.std.proofs.Common.{◌≡◌, ◌∙◌, ◌+◌, ap, arith, replicate}
use Rattle.board.proofs.NumberLemmas.{members-none}
use Rattle.board.proofs.number_set.NumberSet.new.Goals as goal

pub returns : goal.returns
returns c =
    let items : c.in_ok-nodes.nodes.items ≡ replicate (c.args.bound + c.args.bound) c.args.bound = c.in_ok-nodes.ensures.items_if_clones_equal (λ y e. e) ∙ ap (λ n. replicate n c.args.bound) (omega arith) in
    members-none c.in_ok-nodes.nodes.items c.args.bound items
