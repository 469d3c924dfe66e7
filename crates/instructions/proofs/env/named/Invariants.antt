use Rattle.std.proofs.Common.{◌≡◌, ◌++◌, true}
use Rattle.std.specs.List.{list_all}
use Rattle.ascii.specs.Names.{is_name}
use Rattle.instructions.specs.Instruction.{assignment_names}
use Rattle.instructions.proofs.env.named.Given as goal

-- those so far and the ones that are left are all, and the names of what is left are names
abbrev pub invariant-loop-draft : goal.invariant-loop-draft
invariant-loop-draft l =
    (l.assignments ++ l.draft-iterator.rest.items ≡ l.initial.draft-iterator.rest.items) × (list_all is_name (assignment_names l.draft-iterator.rest.items) ≡ true)
