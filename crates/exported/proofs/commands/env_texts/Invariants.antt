use Rattle.std.proofs.Common.{◌≡◌, map, take}
use Rattle.exported.specs.Commands.{variable_text}
use Rattle.exported.proofs.commands.env_texts.Given as goal

-- the variables so far
abbrev pub invariant-loop-variable : goal.invariant-loop-variable
invariant-loop-variable l = l.texts ≡ map variable_text (take l.variable-index l.env)
