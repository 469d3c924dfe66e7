use Rattle.std.proofs.Common.{◌∙◌}
use Rattle.entries.proofs.FingerprintFacts.{clear-moved}
use Rattle.entries.proofs.fingerprint.are_ways_clear.Goals as goal

pub returns : goal.returns
returns c = c.all_are_clear.ensures ∙ clear-moved c.args.numbers.items c.in_ok-sought.sought c.in_ok-sought.ensures c.args.rows.now
