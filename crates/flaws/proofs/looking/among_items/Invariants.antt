use Rattle.std.proofs.Common.{◌≡◌, drop}
use Rattle.borrowed.specs.Lent.{items_data}
use Rattle.flaws.specs.Looks.{among_items}
use Rattle.flaws.proofs.looking.among_items.Given as goal

-- the values that are left decide
abbrev pub invariant-loop-place : goal.invariant-loop-place
invariant-loop-place g l = among_items g.L.Look.looks l.place (items_data (drop l.place l.values)) ≡ among_items g.L.Look.looks 0 (items_data l.values)
