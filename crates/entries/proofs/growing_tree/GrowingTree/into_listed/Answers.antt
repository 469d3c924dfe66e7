use Rattle.std.proofs.Common.{◌≡◌, true, subst}
use Rattle.entries.specs.Listing.{is_listing}
use Rattle.entries.specs.PrivateRuns.{rows_of_runs}
use Rattle.entries.proofs.GrowingFacts.{follow-listing}
use Rattle.entries.proofs.growing_tree.GrowingTree.into_listed.Goals as goal

pub of_runs-requires-clause-listing : goal.of_runs-requires-clause-listing
of_runs-requires-clause-listing c = follow-listing (rows_of_runs c.self.inside.runs.items) c.self.invariant.follow

pub returns-in_err-tree-clause-listing : goal.returns-in_err-tree-clause-listing
returns-in_err-tree-clause-listing c = subst (λ rows. is_listing rows ≡ true) c.self.view_is (follow-listing (rows_of_runs c.self.inside.runs.items) c.self.invariant.follow)
