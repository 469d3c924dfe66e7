use Rattle.std.proofs.Common.{◌≡◌, ◌++◌, drop}
use Rattle.std.specs.String.{string_bytes}
use Rattle.paths.specs.Path.{rooted}
use Rattle.paths.proofs.path.Path.text.Given as goal

-- the text so far, and then the components to come, are the path's text
abbrev pub invariant-loop-part : goal.invariant-loop-part
invariant-loop-part l = string_bytes l.text ++ rooted (drop l.part-index l.part-items) ≡ rooted l.part-items
