-- What the sources of a COPY are in the tree that they are copied from (Dockerfile reference, COPY).
use Rattle.std.specs.Prelude.{ℕ, List, map}
use Rattle.std.specs.List.{filter}
use Rattle.std.specs.FinMap.{entries}
use Rattle.globs.specs.Glob.{relates}
use Rattle.trees.specs.TreeMap.{TreeMap}
use Rattle.trees.specs.declared.copy.Source.{Source}
use Rattle.trees.specs.declared.copy.Source.TheVariants.{Found, Data}
use Rattle.llb.specs.declared.op.FileSource.{FileSource}
use Rattle.llb.specs.declared.op.FileSource.TheVariants.{Pattern, Data as FileData}

-- the paths of a tree to which a pattern relates, in path order
abbrev pub matches_in : TreeMap → List ℕ → List (List (List ℕ))
matches_in tree pattern = map (λ row. row.0) (filter (λ row. relates pattern row.0) (entries tree))

-- a source, looked up: the paths that a pattern matches, or the file that the instruction brings along
abbrev pub source_in : TreeMap → FileSource → Source
source_in tree (Pattern text) = Found (matches_in tree text)
source_in tree (FileData name content) = Data name content

-- the sources of a COPY, each looked up
abbrev pub sources_in : TreeMap → List FileSource → List Source
sources_in tree sources = map (source_in tree) sources
