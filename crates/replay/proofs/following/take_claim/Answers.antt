use Rattle.std.proofs.Common.{rules}
use Rattle.replay.proofs.FollowLemmas.{taken-at}
use Rattle.replay.proofs.following.take_claim.Goals as goal

pub returns-clause-found : goal.returns-clause-found
returns-clause-found c =
    taken-at c.args.worker _ c.args.out.now.items _ _ (search rules) c.remove.ensures.value c.remove.ensures.items
