use Rattle.std.proofs.Common.{◌≡◌, map}
use Rattle.options.specs.Lists.{all_some}
use Rattle.options.proofs.ListLaws.{behind}
use Rattle.actions.specs.PrivateMounts.{whole_bind}
use Rattle.actions.proofs.mounts.whole_binds.Given as goal

abbrev pub invariant-loop-bind : goal.invariant-loop-bind
invariant-loop-bind l = behind l.found.items (all_some (map whole_bind l.bind-iterator.rest.items)) ≡ all_some (map whole_bind l.initial.bind-iterator.rest.items)
