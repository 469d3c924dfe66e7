-- What a copy of a plan needs beside its tree, so that BuildKit gives that tree.
use Rattle.std.specs.Prelude.{◌≡◌, ◌<◌, ◌≤◌, ℕ, true, Option, Some, None, IfSome, List, [], ◌∷◌}
use Rattle.std.specs.FinMap.{get}
use Rattle.paths.specs.Name.{IsComponent}
use Rattle.trees.specs.declared.copy.CopyOptions.{CopyOptions}
use Rattle.trees.specs.TreeMap.{TreeMap, is_directory, empty_tree}
use Rattle.llb.specs.declared.op.FileSource.{FileSource}
use Rattle.llb.specs.declared.op.FileSource.TheVariants.{Pattern, Data}
use Rattle.plans.specs.Files.{matches_in}
use Rattle.exported.specs.Patterns.{source_path, allows_wildcard}
use Rattle.fileactions.specs.Copies.{Finder}

-- the tree at a place, by the trees of digests
abbrev pub place_tree : (List ℕ → TreeMap) → Option (List ℕ) → TreeMap
place_tree trees None = empty_tree
place_tree trees (Some digest) = trees digest

-- BuildKit finds in a tree the paths to which a pattern relates, if it is told to look for a pattern. It doesn't if a class takes a `/`, since it matches
-- the whole path at once, and if a name isn't UTF-8
abbrev pub FindsAlike : Finder → TreeMap → FileSource → Type 0
FindsAlike finder from (Pattern text) = allows_wildcard text ≡ true → finder (source_path text) from ≡ matches_in from text
FindsAlike finder from (Data name content) = Unit {0}

-- a file of a COPY's own has one name
abbrev pub HasName : FileSource → Type 0
HasName (Pattern text) = Unit {0}
HasName (Data name content) = IsComponent name

-- a copy's mode is one, and its owner can be set
pub record IsSettable (options : CopyOptions) : Type 0 where
  pub mode : IfSome options.mode (λ bits. bits ≤ 4095)
  pub owner : IfSome options.owner (λ owner. (owner.user < 4294967295) × (owner.group < 4294967295))

-- two trees are alike but for the mode and the owner of the root
pub record AreAlike (one other : TreeMap) : Type 0 where
  pub root : is_directory (get one []) ≡ true
  pub below : (c : List ℕ) (cs : List (List ℕ)) → get one (c ∷ cs) ≡ get other (c ∷ cs)
