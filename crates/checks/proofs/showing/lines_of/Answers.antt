use Rattle.std.proofs.Common.{◌≡◌, List, ℕ, map, subst, rules}
use Rattle.std.specs.Prelude.{IfOk}
use Rattle.std.specs.Str.Lines.{lines}
use Rattle.std.proofs.lemmas.Iterator.Consumers.{map_from_collect}
use Rattle.std.proofs.lemmas.Iterator.Splits.{YieldsList-from_lines}
use Rattle.checks.proofs.showing.lines_of.Goals as goal

pub returns : goal.returns
returns c =
    let whole = map_from_collect c.collect.result c.collect.ensures.ran (YieldsList-from_lines c.without_byte_order_mark.result.now (search rules)) in
    subst (λ (text : List ℕ). IfOk c.collect.result (λ found. map (λ line. line.now) found.items ≡ lines text)) c.without_byte_order_mark.ensures whole
