use Rattle.std.proofs.Common.{◌≡◌, drop}
use Rattle.std.specs.List.{list_any}
use Rattle.options.specs.Value.{is_named}
use Rattle.options.proofs.copy.have_name.Given as goal

abbrev pub invariant-loop-flag : goal.invariant-loop-flag
invariant-loop-flag l = list_any (is_named l.name) (drop l.flag-index l.flags) ≡ list_any (is_named l.name) l.flags
