-- What stands for an image that a bundle lacks, and what holds of a bundle with such images (own).
use Rattle.std.specs.Prelude.{◌≡◌, ℕ, Bool, true, false, List, Option, Some, None, bytes_eq, if◌then◌else◌}
use Rattle.std.specs.FinMap.{get}
use Rattle.std.specs.List.{list_any}
use Rattle.std.specs.Option.{option_or}
use Rattle.trees.specs.TreeMap.{empty_tree}
use Rattle.plans.specs.Images.{ImagesValue}
use Rattle.plans.specs.declared.images.Image.{Image}
use Rattle.stages.specs.declared.image_name.ImageName.{ImageName}
use Rattle.imageconfig.specs.Reading.{plain}
use Rattle.imageconfig.specs.declared.config.Config.{Config}
use Rattle.bundle.specs.declared.whole.Bundle.{Bundle}
use Rattle.stubs.specs.Naming.{AreNamed}

-- the image that stands for one that isn't there: it has no files, and the configuration that a stage from `scratch` begins with
abbrev pub stub : Image Config
stub = record { config = plain; tree = empty_tree }

-- an image of this name is asked for
abbrev pub is_named : List ImageName → List ℕ → Bool
is_named names name = list_any (λ named. bytes_eq named.name name) names

-- what stands for an image if it is asked for
abbrev pub stub_if : Bool → Option (Image Config)
stub_if is_asked = if is_asked then Some stub else None

-- images with stubs for these names: each image that is there stays, and under each other name that is asked for is a stub
abbrev pub AreStubbed : ImagesValue Config → List ImageName → ImagesValue Config → Type 0
AreStubbed images names stubbed = (name : List ℕ) → get stubbed name ≡ option_or (get images name) (stub_if (is_named names name))

-- a bundle with other images
abbrev pub with_images : Bundle Config → ImagesValue Config → Bundle Config
with_images bundle images = record {
  dockerfile = bundle.dockerfile;
  context = bundle.context;
  images = images;
  digests = bundle.digests;
  args = bundle.args;
  caches = bundle.caches;
  target = bundle.target;
}

-- a bundle with its stubs: under each name of an image that its Dockerfile names and that it lacks it has one, and all else is the same. There is
-- just one such bundle, as the law `each_bundle_has_its_stubs` says
pub record IsStubbed (bundle stubbed : Bundle Config) : Type 0 where
  pub names : List ImageName
  pub named : AreNamed bundle names
  pub images : AreStubbed bundle.images names stubbed.images
  pub rest : stubbed ≡ with_images bundle stubbed.images

-- the bundle that is given in place of one: with any image its stubs stand for those that it lacks, and else it is the bundle itself
abbrev pub IsGivenBy : Bool → Bundle Config → Bundle Config → Type 0
IsGivenBy false bundle given = given ≡ bundle
IsGivenBy true bundle given = IsStubbed bundle given

-- this holds of the bundle that is given in place of one
abbrev pub HoldsBy : Bool → (Bundle Config → Type 0) → Bundle Config → Type 0
HoldsBy false P bundle = P bundle
HoldsBy true P bundle = (stubbed : Bundle Config) × IsStubbed bundle stubbed × P stubbed
