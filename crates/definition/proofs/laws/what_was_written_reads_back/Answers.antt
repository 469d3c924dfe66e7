use Rattle.definition.proofs.RoundTrip.{round-trip, first-round-trip}
use Rattle.definition.proofs.laws.what_was_written_reads_back.Goals as goal

pub returns-clause-back : goal.returns-clause-back
returns-clause-back c = round-trip

pub returns-clause-first : goal.returns-clause-first
returns-clause-first c = first-round-trip
