-- What the ENV and ARG lines of a stage say, line after line.
use Rattle.std.specs.Prelude.{List, [], ◌∷◌, ◌++◌, Option}
use Rattle.expand.specs.declared.fault.Unexpanded.{Unexpanded}
use Rattle.instructions.specs.declared.instruction.Argument.{Argument}
use Rattle.instructions.specs.declared.instruction.Assignment.{Assignment}
use Rattle.scopes.specs.Scope.{value_in, kept}
use Rattle.scopes.specs.Evaluate.{Values, env_line, env_fault, arg_line, arg_fault}
use Rattle.scopes.specs.declared.declaration.Declaration.{Declaration}

-- a line that says something of names: an ENV with its assignments, or an ARG with its arguments
pub data ScopeLine : Type 0 where
  sets : List Assignment → ScopeLine
  declares : List Argument → ScopeLine

-- what a line says under the scope before it, with these build arguments and this scope before the first FROM
abbrev pub said : Values → Values → Values → ScopeLine → List Declaration
said before args outer (sets assignments) = env_line before assignments
said before args outer (declares arguments) = arg_line before args outer arguments

-- what is against the texts that a line expands under the scope before it, with these build arguments
abbrev pub line_fault : Values → Values → ScopeLine → Option Unexpanded
line_fault before args (sets assignments) = env_fault before assignments
line_fault before args (declares arguments) = arg_fault before args arguments

-- all that lines say, one after another and below what was said before them: each line under what was said above it
-- (Dockerfile reference, environment replacement)
abbrev pub history : Values → Values → List Declaration → List ScopeLine → List Declaration
history args outer above [] = above
history args outer above (line ∷ lines) = history args outer (above ++ said (value_in above) args outer line) lines

-- the scope that calls on lines leave, one after another: each call adds what its line says under the scope that the calls
-- before it left
abbrev pub scope_after : Values → Values → List Declaration → List ScopeLine → List Declaration
scope_after args outer before [] = before
scope_after args outer before (line ∷ lines) = scope_after args outer (kept (before ++ said (value_in before) args outer line)) lines
