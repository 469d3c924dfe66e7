-- What an ENV or ARG line says, and what a call on it answers.
use Rattle.std.specs.Prelude.{◌≡◌, ℕ, List, ◌++◌, map, Option, Some, None, Result, Ok, Err}
use Rattle.plain.specs.declared.fault.Fault.{Fault}
use Rattle.plain.specs.declared.fault.Fault.TheVariants.{Because, Memory}
use Rattle.expand.specs.Value.{Parts, value}
use Rattle.expand.specs.Expanding.{unexpanded, worst}
use Rattle.expand.specs.declared.fault.Unexpanded.{Unexpanded}
use Rattle.instructions.specs.declared.instruction.Argument.{Argument}
use Rattle.instructions.specs.declared.instruction.Assignment.{Assignment}
use Rattle.scopes.specs.declared.declaration.Declaration.{Declaration}
use Rattle.scopes.specs.declared.declaration.Declaration.TheVariants.{Env, Arg}
use Rattle.scopes.specs.Scope.{or_else, kept}
use Rattle.plain.specs.declared.variable.Variable.{Variable}

-- what gives names their values
abbrev pub Values : Type 0
Values = List ℕ → Option (List ℕ)

-- the variable that an assignment sets: its value is that of its word
abbrev pub assigned_variable : Values → Assignment → Variable
assigned_variable before assignment = record { name = assignment.name; value = value before assignment.value }

-- what an ENV line sets: each variable has the value of its word under the scope before the line, which the line itself
-- doesn't change (Dockerfile reference, environment replacement)
abbrev pub env_variables : Values → List Assignment → List Variable
env_variables before assignments = map (assigned_variable before) assignments

-- a variable that is set is an ENV of its name, whether a line sets it or an image does (Dockerfile reference, ENV)
abbrev pub declaration_of : Variable → Declaration
declaration_of variable = Env variable.name variable.value

-- what an ENV line says: the variables that it sets (Dockerfile reference, ENV)
abbrev pub env_line : Values → List Assignment → List Declaration
env_line before assignments = map declaration_of (env_variables before assignments)

-- what an argument has without a build argument: the value of its default under the scope before the line; where it is bare,
-- the value that its name had before the first FROM, which is none for a line that stands there itself (Dockerfile reference,
-- how ARG and FROM interact)
abbrev pub fallback : Values → Option (List ℕ) → Option Parts → Option (List ℕ)
fallback before outer_value (Some word) = Some (value before word)
fallback before outer_value None = outer_value

-- what an ARG line says: each argument has the build argument of its name, or else its fallback; it may have none (Dockerfile
-- reference, ARG)
abbrev pub arg_line : Values → Values → Values → List Argument → List Declaration
arg_line before args outer arguments = map (λ a. Arg a.name (or_else (args a.name) (fallback before (outer a.name) a.default))) arguments

-- what is against the texts that an ENV line expands
abbrev pub env_fault : Values → List Assignment → Option Unexpanded
env_fault before assignments = worst (map (λ a. unexpanded before a.value) assignments)

-- what is against the text that an argument expands: its default, where it has one and no build argument, also where an ENV of
-- its name beats it (own)
abbrev pub default_fault : Values → Option (List ℕ) → Option Parts → Option Unexpanded
default_fault before (Some text) default = None
default_fault before None (Some word) = unexpanded before word
default_fault before None None = None

-- what is against the texts that an ARG line expands
abbrev pub arg_fault : Values → Values → List Argument → Option Unexpanded
arg_fault before args arguments = worst (map (λ a. default_fault before (args a.name) a.default) arguments)

-- what evaluating a line answers, of which this is made, and against whose texts `fault` is: what is made if nothing is against
-- them, else that; want of memory says nothing of the line
abbrev pub Says : {X : Type 0} → X → Option Unexpanded → Result X (Fault Unexpanded) → Type 0
Says made fault (Ok found) = (found ≡ made) × (fault ≡ None)
Says made fault (Err (Because why)) = fault ≡ Some why
Says made fault (Err Memory) = Unit {0}

-- what a call on a line answers, and the scope after it, `fault` being what is against the texts that the line expands: the line
-- is added if nothing is; else that is reported, and the scope is as it was, as it is for want of memory
abbrev pub Declares : List Declaration → List Declaration → Option Unexpanded → List Declaration → Result (Unit {0}) (Fault Unexpanded) → Type 0
Declares old line fault new (Ok u) = (new ≡ kept (old ++ line)) × (fault ≡ None)
Declares old line fault new (Err (Because why)) = (new ≡ old) × (fault ≡ Some why)
Declares old line fault new (Err Memory) = new ≡ old
