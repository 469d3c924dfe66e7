use Rattle.std.proofs.Common.{List, subst, sym}
use denote.Param.Send.{sendable}
use Rattle.borrowed.specs.Pulled.{Pulls}
use Rattle.trees.specs.Row.{Row}
use Rattle.entries.specs.Listing.{listing_in}
use Rattle.entries.proofs.Crosses.{growing_send}
use Rattle.entries.proofs.GrowingFacts.{pulls-listing}
use Rattle.entries.proofs.listed_tree.ListedTree.pull.Goals as goal

pub pull_rows-requires-send-S : goal.pull_rows-requires-send-S
pull_rows-requires-send-S g c κs within = search (growing_send, sendable) depth 20

pub returns-then-in_order : goal.returns-then-in_order
returns-then-in_order g c =
    let rows = c.pull_rows.new.rows in
    subst (λ (found : List Row). Pulls c.args.depth listing_in c.args.reader.now c.pull_rows.new.reader found) (sym c.in_ok-into_listed.ensures.value)
    (pulls-listing c.args.depth c.args.reader.now c.pull_rows.new.reader rows c.in_ok-pull_rows.ensures c.into_listed.ensures.listing)
