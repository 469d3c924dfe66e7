-- The images that a build may name: for each name at most one, with its configuration and its tree.
use Rattle.std.specs.Prelude.{refl}
use Rattle.std.specs.Coded.{Coded, code_by, coded×, coded_list, coded_ℕ}
use Rattle.std.specs.FinMap.{FinMap, code}
use Rattle.trees.specs.TreeMap.{TreeMap}
use Rattle.trees.specs.contracts.tree.Tree as tree
use Rattle.plans.specs.declared.images.Image.{Image}
use Rattle.plans.specs.Sources.{name_cmp}

-- what contracts see of images: for each name the image, if it is there (own)
abbrev pub ImagesValue : Type 0 → Type 0
ImagesValue C = FinMap name_cmp (Image C)

-- an image in plain data, for generic code (own)
abbrev pub image_code : {C : Type 0} → Coded C → Coded (Image C)
image_code c = code_by (_ × TreeMap) (coded× c tree.the_row.coded) (λ i. (i.config, i.tree)) (λ t. record { config = t.0; tree = t.1 }) (λ _. refl)

-- images in plain data, for generic code (own)
abbrev pub images_code : {C : Type 0} → Coded C → Coded (ImagesValue C)
images_code c = code (coded_list coded_ℕ) (image_code c)
