-- What evaluating a line gives, before the scope is changed.
use Rattle.std.specs.Prelude.{◌≡◌, ℕ, List, [], ◌∷◌, ◌++◌, Option, None}
use Rattle.expand.specs.Expanding.{worse}
use Rattle.expand.specs.declared.fault.Unexpanded.{Unexpanded}
use Rattle.instructions.specs.declared.instruction.Argument.{Argument}
use Rattle.plain.specs.declared.variable.Variable.{Variable}
use Rattle.scopes.specs.Evaluate.{Values, fallback}
use Rattle.scopes.specs.Scope.{or_else}

-- what a line says so far, and what is against its texts, then the same with one thing more, against whose text this is: it joins
-- what is reported, and if nothing is, the line says the thing too
abbrev pub IsLonger : {X : Type 0} → List X → Option Unexpanded → X → Option Unexpanded → List X → Option Unexpanded → Type 0
IsLonger line before said fault longer after = (after ≡ worse before fault) × (after ≡ None → longer ≡ line ++ said ∷ [])

-- the name of a variable with its value
abbrev pub row_of : Variable → List ℕ × List ℕ
row_of variable = (variable.name, variable.value)

-- the name of an argument with what an ARG line gives it, which may be none
abbrev pub argument_row : Values → Values → Values → Argument → List ℕ × Option (List ℕ)
argument_row before args outer a = (a.name, or_else (args a.name) (fallback before (outer a.name) a.default))
