-- The hash of an environment's variables (own): what is written of them to a hasher, and what the hasher gives. It decides nothing: all
-- that counts is that it is a function of the variables.
use Rattle.std.specs.Prelude.{ℕ, List, ◌++◌, fold}
use Rattle.std.specs.Hash.{HashWrites, str, slice}
use Rattle.std.specs.Hash.DefaultHasher as sip
use Rattle.plain.specs.declared.variable.Variable.{Variable}

-- what is written of a variable (own)
abbrev pub variable_writes : Variable → HashWrites
variable_writes variable = str variable.name ++ str variable.value

-- the hash of variables: SipHash-1-3, with both keys 0, of how many they are and of what is written of each (own)
unfoldable pub variables_hash : List Variable → ℕ
variables_hash variables = sip.finish (fold sip.write sip.initial (slice variable_writes variables))
