-- What is made of an evaluated table is such as lowering asks for.
use Rattle.std.specs.Prelude.{◌≡◌, Bool, List, Option, Some, None, Ok, slice_get, refl}
use Rattle.std.specs.List.{All}
use Rattle.std.specs.FinMap.{get}
use Rattle.std.proofs.Common.{sym, subst}
use Rattle.trees.specs.TreeMap.{TreeMap}
use Rattle.llb.specs.declared.op.Source.{Source}
use Rattle.llb.specs.declared.op.Source.TheVariants.{Scratch, Context, Image}
use Rattle.plans.specs.Images.{ImagesValue}
use Rattle.plans.specs.declared.images.Image as image
use Rattle.rows.specs.WellFormed.{IsWellFormed, HasTree, RowNames}
use Rattle.rows.specs.declared.row.Origin.{Origin}
use Rattle.rows.specs.declared.row.Origin.TheVariants.{Source as SourceOf, Stage as StageOf}
use Rattle.rows.specs.declared.row.Stage.{Stage}
use Rattle.scopes.specs.Evaluate.{Values}
use Rattle.scopes.specs.Scope.{value_in}
use Rattle.stages.specs.Naming.{names_in}
use Rattle.stages.specs.Needed.{AreNeeded}
use Rattle.stages.specs.Table.{TableValue, IsTable, IsKnown, NamesKnown}
use Rattle.stages.specs.declared.stage.ResolvedStage.{ResolvedStage}
use Rattle.imageconfig.specs.Environment.{IsEnvironment}
use Rattle.imageconfig.specs.declared.config.Config.{Config}
use Rattle.evaluation.specs.Evaluated.{evaluated, IsMade}
use Rattle.evaluation.specs.PrivateNames.{HasFoundNames, IsProperSource, IsProperBase}
use Rattle.evaluation.specs.Reached.{HaveEnvironments}
use Rattle.evaluation.specs.declared.evaluated.Evaluated.{Evaluated}
use Rattle.evaluation.specs.declared.walk.Walk.{Walk}
use Rattle.evaluation.proofs.LawFacts.{Laws}
use Rattle.evaluation.proofs.RowFacts.{walk_kept}
use Rattle.evaluation.proofs.WholeFacts.{all_fit, nothing_known, names_known, rows_named, target_there}

-- where the environment of each image is one, that of each base is

found_proper : (found : Option (image.Image Config)) → ((one : image.Image Config) → found ≡ Some one → IsEnvironment one.config.env) → HasFoundNames found
found_proper None are = tt
found_proper (Some one) are = are one refl

source_proper : (images : ImagesValue Config) (source : Source) → HaveEnvironments images → IsProperSource images source
source_proper images Scratch are = tt
source_proper images Context are = tt
source_proper images (Image name) are = found_proper (get images name) (are name)

base_proper : (images : ImagesValue Config) (base : Origin) → HaveEnvironments images → IsProperBase images base
base_proper images (SourceOf source) are = source_proper images source are
base_proper images (StageOf number) are = tt

proper : (images : ImagesValue Config) (stages : List ResolvedStage) → HaveEnvironments images → All (λ (stage : ResolvedStage). IsProperBase images stage.base) stages
proper images stages are k d within = base_proper images _ are

pub formed : Laws → (args : Values) (images : ImagesValue Config) (context : TreeMap) (needed : List Bool) (table : TableValue) (walk : Walk) (made : Evaluated)
    → IsTable table → AreNeeded table.stages table.target needed → HaveEnvironments images → evaluated args images needed table ≡ Ok walk
    → IsMade images context table.target walk made → IsWellFormed made.rows
formed laws args images context needed table walk made whole are environments went is =
    let fit = all_fit (λ o. Unit {0}) images table needed whole are (proper images table.stages environments) (nothing_known table.stages) in
    subst IsWellFormed (sym is.rows) (walk_kept laws (λ o. Unit {0}) args (value_in table.outer) images needed table.stages walk fit went).formed

pub has_target : Laws → (args : Values) (images : ImagesValue Config) (context : TreeMap) (needed : List Bool) (table : TableValue) (walk : Walk) (made : Evaluated)
    → IsTable table → AreNeeded table.stages table.target needed → HaveEnvironments images → evaluated args images needed table ≡ Ok walk
    → IsMade images context table.target walk made → (stage : Stage) × (slice_get made.rows made.target ≡ Some (Some stage))
has_target laws args images context needed table walk made whole are environments went is =
    let fit = all_fit (λ o. Unit {0}) images table needed whole are (proper images table.stages environments) (nothing_known table.stages) in
    target_there images context table needed walk made is whole are (walk_kept laws (λ o. Unit {0}) args (value_in table.outer) images needed table.stages walk fit went)

pub named : Laws → (args : Values) (images : ImagesValue Config) (context : TreeMap) (needed : List Bool) (table : TableValue) (walk : Walk) (made : Evaluated)
    → IsTable table → AreNeeded table.stages table.target needed → HaveEnvironments images → All (NamesKnown (names_in images)) table.stages
    → evaluated args images needed table ≡ Ok walk → IsMade images context table.target walk made → All (RowNames (HasTree made.sources)) made.rows
named laws args images context needed table walk made whole are environments known went is =
    let fit = all_fit (IsKnown (names_in images)) images table needed whole are (proper images table.stages environments) (names_known images table.stages known) in
    rows_named images context table.target needed table.stages walk made is
    (walk_kept laws (IsKnown (names_in images)) args (value_in table.outer) images needed table.stages walk fit went)
