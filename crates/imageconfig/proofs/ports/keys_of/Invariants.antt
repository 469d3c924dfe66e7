use Rattle.std.proofs.Common.{◌≡◌, ◌++◌, drop}
use Rattle.std.specs.List.{filter_map}
use Rattle.imageconfig.specs.Ports.{port_key}
use Rattle.imageconfig.proofs.ports.keys_of.Given as goal

abbrev pub invariant-loop-text : goal.invariant-loop-text
invariant-loop-text l = l.keys ++ filter_map port_key (drop l.text-index l.texts) ≡ filter_map port_key l.texts
