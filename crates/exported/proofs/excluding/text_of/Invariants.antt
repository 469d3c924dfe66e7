use Rattle.std.proofs.Common.{◌≡◌, ◌++◌, drop}
use Rattle.std.specs.String.{string_bytes}
use Rattle.paths.specs.Path.{rooted}
use Rattle.exported.proofs.excluding.text_of.Given as goal

-- what was added, and what is left
abbrev pub invariant-loop-name : goal.invariant-loop-name
invariant-loop-name l = string_bytes l.text ++ rooted (drop l.name-index l.names) ≡ rooted l.names
