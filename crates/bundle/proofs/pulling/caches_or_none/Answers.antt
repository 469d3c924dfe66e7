use Rattle.std.proofs.Common.{[], Some, sym, ap, ◌∙◌}
use Rattle.strict.specs.Strict.{rows_in}
use Rattle.entries.specs.Listing.{listing_in}
use Rattle.bundle.specs.Parts.{or_none, caches_in}
use Rattle.bundle.proofs.FoundFacts.{caches_are, made_so, there_is_none}
use Rattle.bundle.proofs.pulling.caches_or_none.Goals as goal

pub returns-in-Some : goal.returns-in-Some
returns-in-Some c = made_so c.caches_of.result _ _ c.caches_of.ensures (λ trees is o are. caches_are c.in-Some.rows o (are ∙ ap Some c.in-Some.is) ∙ ap Some (sym is))

pub returns-in-None : goal.returns-in-None
returns-in-None c o are = ap (or_none [] caches_in) (there_is_none (rows_in listing_in) o (are ∙ ap Some c.in-None.is)) ∙ ap Some (sym c.new.ensures)
