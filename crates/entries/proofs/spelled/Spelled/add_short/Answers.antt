use Rattle.std.proofs.Common.{ap, rules, arith}
use Rattle.entries.specs.PrivateKeys.{lent_text}
use Rattle.entries.proofs.SlabFacts.{hex_added}
use Rattle.entries.proofs.spelled.Spelled.add_short.Goals as goal

pub returns-in_ok-add_digits-in-None-Some : goal.returns-in_ok-add_digits-in-None-Some
returns-in_ok-add_digits-in-None-Some c =
    hex_added c.args.self c.in-None-Some.hex.now c.args.bytes.now.items c.add_digits.new.bytes.items c.short_len.result (ap lent_text c.in-None-Some.is-0) (ap lent_text c.in-None-Some.is-1)
    c.short_len.ensures (first_of (grind (arith), search rules)) c.in_ok-add_digits-in-None-Some.ensures.ok
