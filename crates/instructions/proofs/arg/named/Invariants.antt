use Rattle.std.proofs.Common.{◌≡◌, ◌++◌, true}
use Rattle.std.specs.List.{list_all}
use Rattle.ascii.specs.Names.{is_name}
use Rattle.instructions.specs.Instruction.{argument_names}
use Rattle.instructions.proofs.arg.named.Given as goal

-- those so far and the ones that are left are all, and the names of what is left are names
abbrev pub invariant-loop-draft : goal.invariant-loop-draft
invariant-loop-draft l =
    (l.arguments ++ l.draft-iterator.rest.items ≡ l.initial.draft-iterator.rest.items) × (list_all is_name (argument_names l.draft-iterator.rest.items) ≡ true)
