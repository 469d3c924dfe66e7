use Rattle.lines.proofs.TextLemmas.{without_byte_order_mark-none, without_byte_order_mark-some}
use Rattle.checks.proofs.showing.without_byte_order_mark.Goals as goal

pub returns-in-Some : goal.returns-in-Some
returns-in-Some c = let s = c.in-Some.ensures.cases in without_byte_order_mark-some _ _ _ s.1.split s.2

pub returns-in-None : goal.returns-in-None
returns-in-None c = without_byte_order_mark-none _ c.in-None.ensures.cases
