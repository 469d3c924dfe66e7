use Rattle.std.proofs.Common.{arith}
use Rattle.std.proofs.lemmas.Grind.{common_steps}
use Rattle.trees.specs.PrivateNode.{lists_of}
use Rattle.trees.proofs.GatheredSteps.{lists-push}
use Rattle.trees.proofs.PartedSteps.{put-away-part}
use Rattle.trees.proofs.spine.put_away.Goals as goal

pub returns-clause-moved : goal.returns-clause-moved
returns-clause-moved c =
    put-away-part (lists_of c.args.parts.now.items) (lists_of c.push.new.self.items) c.args.rows.now.items c.part_of.new.rows.items _ c.requires.full (grind (arith, common_steps)) c.in_ok-part.ensures.part c.in_ok-part.ensures.none_left
    (lists-push c.args.parts.now.items c.push.new.self.items c.in_ok-part.part c.in_ok-push.ensures.items)
