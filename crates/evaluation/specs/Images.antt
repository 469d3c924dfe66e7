-- The images that the needed stages name: how many they are, and their trees.
use Rattle.std.specs.Prelude.{◌≡◌, ℕ, Bool, false, List, [], ◌∷◌, ◌++◌, Option, None, option_map, length, nat_lt, bytes_eq, if◌then◌else◌}
use Rattle.std.specs.List.{list_any}
use Rattle.std.specs.FinMap.{get}
use Rattle.plain.specs.Limits.{most_images}
use Rattle.plain.specs.declared.refusal.Code.{Code}
use Rattle.plain.specs.declared.refusal.Code.TheVariants.{R18}
use Rattle.trees.specs.TreeMap.{TreeMap}
use Rattle.llb.specs.declared.op.Source.TheVariants.{Scratch, Context, Image}
use Rattle.plans.specs.Images.{ImagesValue}
use Rattle.plans.specs.Sources.{SourcesValue}
use Rattle.rows.specs.declared.row.Origin.{Origin}
use Rattle.rows.specs.declared.row.Origin.TheVariants.{Source as SourceOf, Stage as StageOf}

-- names of images, each once, in the order in which they are named first
abbrev pub ImageNames : Type 0
ImageNames = List (List ℕ)

-- an image is among those that are named
abbrev pub is_among : ImageNames → List ℕ → Bool
is_among names name = list_any (bytes_eq name) names

-- the names with one more, unless it is there
abbrev pub with_name : ImageNames → List ℕ → ImageNames
with_name names name = if is_among names name then names else names ++ name ∷ []

-- the names with that of an image that is named
abbrev pub with_origin : ImageNames → Origin → ImageNames
with_origin names (SourceOf Scratch) = names
with_origin names (SourceOf Context) = names
with_origin names (SourceOf (Image name)) = with_name names name
with_origin names (StageOf number) = names

-- the names with those of all images that a line names
abbrev pub with_origins : ImageNames → List Origin → ImageNames
with_origins names [] = names
with_origins names (origin ∷ origins) = with_origins (with_origin names origin) origins

-- the code that is due for a line by which these images are named: R18 if they are more than one build may name (own)
abbrev pub many_codes : ImageNames → Code → Bool
many_codes names R18 = nat_lt most_images (length names)
many_codes names code = false

-- the tree of an image, where it is among those that are named
abbrev pub named_tree : {C : Type 0} → ImagesValue C → ImageNames → List ℕ → Option TreeMap
named_tree images names name = if is_among names name then option_map (λ found. found.tree) (get images name) else None

-- the context, and of the images just the trees of those that are named
pub record AreSources {C : Type 0} (context_tree : TreeMap) (all : ImagesValue C) (names : ImageNames) (sources : SourcesValue) : Type 0 where
  pub same : sources.context ≡ context_tree
  pub trees : (name : List ℕ) → get sources.images name ≡ named_tree all names name
