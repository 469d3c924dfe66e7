use Rattle.std.proofs.Common.{◌≡◌, ◌++◌, take, true}
use Rattle.cachemounts.specs.Content.{have_contents}
use Rattle.cachemounts.specs.PrivateContent.{AreEmpty}
use Rattle.cachemounts.proofs.content.new_contents.Given as goal

abbrev pub invariant-loop-hold : goal.invariant-loop-hold
invariant-loop-hold l = record { empty : AreEmpty l.more.items; have : have_contents (l.contents ++ l.more.items) (take l.hold-index l.holds) ≡ true }
