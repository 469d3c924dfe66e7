-- What the code knows while it looks for the images that a file names.
use Rattle.std.specs.Prelude.{◌≡◌, Bool, true, false, List}
use Rattle.scopes.specs.declared.declaration.Declaration.{Declaration}

-- whether a file's lines go on to be judged after an instruction, which they don't if it is a refused ARG: then the scope is the one that is
-- made
abbrev pub GoesOn : Bool → List Declaration → List Declaration → Bool → Type 0
GoesOn is_refused made new true = (is_refused ≡ false) × (new ≡ made)
GoesOn is_refused made new false = is_refused ≡ true
