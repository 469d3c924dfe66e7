use Rattle.std.proofs.Common.{◌≡◌, ◌++◌}
use Rattle.std.specs.String.{string_bytes}
use Rattle.imagelist.specs.Telling.{images_text}
use Rattle.imagelist.proofs.writing.images_text.Given as goal

-- the text so far, before the lines of the images that are left
abbrev pub invariant-loop-name : goal.invariant-loop-name
invariant-loop-name l = string_bytes l.text ++ images_text l.platform l.name-iterator ≡ images_text l.platform l.initial.name-iterator
