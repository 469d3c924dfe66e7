use Rattle.std.proofs.Common.{arith, ◌≡◌, ◌+◌, ◌/◌, ◌<◌, true, length, drop, ap}
use Rattle.std.specs.Prelude.{slice_set}
use Rattle.std.proofs.lemmas.Bool.{lt-ltb}
use Rattle.std.proofs.lemmas.List.{with_items_is}
use Rattle.board.proofs.NumberLemmas.{members-long, members-set}
use Rattle.board.proofs.number_set.NumberSet.insert.Goals as goal

pub returns : goal.returns
returns c =
    let nodes = c.self.inside.nodes.items in
    let after = c.write.new.nodes in
    let bound : c.len-bound.result / 2 ≡ length nodes / 2 = omega (arith, c.len-bound.ensures, c.self.inside.nodes.ok.0) in
    let long : length after ≡ length nodes = omega (arith, c.write.auto.nodes, c.as_mut_slice.ensures.len, c.self.inside.nodes.ok.0) in
    let number : c.args.number < length nodes / 2 = omega (arith, members-long nodes c.self.invariant.even, ap length c.self.view_is, c.requires) in
    let leaves : drop (length nodes / 2) after ≡ drop (length nodes / 2) (slice_set nodes (length nodes / 2 + c.args.number) c.args.number) = rw (c.as_mut_slice.ensures.value, bound) at c.write.ensures.leaves in
    let set = members-set nodes after c.args.number c.args.number true long leaves (lt-ltb c.args.number (length nodes / 2) number) in
    rw (with_items_is c.self.inside.nodes after (omega (arith, long, c.self.inside.nodes.ok.0)), ← c.self.view_is) set
