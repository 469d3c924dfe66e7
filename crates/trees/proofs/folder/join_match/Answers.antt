use Rattle.std.proofs.Common.{◌-◌, ℕ, subst}
use Rattle.trees.specs.PrivateNode.{NodeValue, IsDeeper}
use Rattle.trees.specs.PrivateCopy.{MeetInDirectories}
use Rattle.trees.proofs.FolderDone.{match-joined, match-sinks}
use Rattle.trees.proofs.folder.join_match.Goals as goal

pub returns-then-fits : goal.returns-then-fits
returns-then-fits c =
    match-joined c.args.options.now c.args.from.now c.args.dest.now c.args.path.now c.in-Some.folder c.is_directory.result c.args.joined.now c.in-Some.ensures.tree c.requires c.in-Some.ensures.at c.is_directory.ensures c.if-not-is_directory.false
    (subst (λ (n : NodeValue). MeetInDirectories n.below c.in-Some.folder.below) c.lent.ensures (c.meets.ensures c.if-meets.false)) _ (c.fits.ensures c.if-fits.true) c.in_ok-lay_placed.ensures

pub returns-then-is_deeper : goal.returns-then-is_deeper
returns-then-is_deeper c =
    match-sinks c.args.options.now c.args.from.now c.args.dest.now c.args.path.now c.in-Some.folder c.is_directory.result c.args.joined.now c.in-Some.ensures.tree c.requires c.in-Some.ensures.at c.is_directory.ensures c.if-not-is_directory.false
    (subst (λ (n : NodeValue). MeetInDirectories n.below c.in-Some.folder.below) c.lent.ensures (c.meets.ensures c.if-meets.false)) c.requires.few (subst (λ (n : ℕ). IsDeeper (64 - n) c.in-Some.folder.below) c.depth.ensures (c.is_deeper.ensures c.if-is_deeper.true))
