use Rattle.std.proofs.Common.{◌≡◌, ◌+◌, ◌<◌, ℕ, List, subst, length, take, take_all, slice_index_or, arith, ◌≤◌}
use Rattle.std.specs.List.{All}
use Rattle.std.proofs.lemmas.List.Elements.{All-more}
use Rattle.stages.specs.declared.stage.ResolvedStage.{ResolvedStage}
use Rattle.plans.specs.Images.{ImagesValue}
use Rattle.imageconfig.specs.declared.config.Config.{Config}
use Rattle.evaluation.specs.PrivateNames.{IsProperBase}
use Rattle.evaluation.proofs.state.keep_names.Goals as goal

more : (images : ImagesValue Config) (stages : List ResolvedStage) (k : ℕ) (stage : ResolvedStage) → k < length stages → stage ≡ slice_index_or stages k stage
    → All (λ (s : ResolvedStage). IsProperBase images s.base) (take k stages) → IsProperBase images stage.base → All (λ (s : ResolvedStage). IsProperBase images s.base) (take (k + 1) stages)
more images stages k stage within is are here =
    All-more (λ (s : ResolvedStage). IsProperBase images s.base) stages k stage within are (subst (λ (s : ResolvedStage). IsProperBase images s.base) is here)

whole : (images : ImagesValue Config) (stages : List ResolvedStage) (k : ℕ) → length stages ≤ k
    → All (λ (s : ResolvedStage). IsProperBase images s.base) (take k stages) → All (λ (s : ResolvedStage). IsProperBase images s.base) stages
whole images stages k past are = subst (All (λ (s : ResolvedStage). IsProperBase images s.base)) (take_all k stages past) are

pub loop-stage-preserved : goal.loop-stage-preserved
loop-stage-preserved c = more c.args.images.now c.args.stages.now c.loop-stage.stage-index c.stage-item.result c.loop-stage-test.true c.stage-item.is c.loop-stage.invariant c.keep_base_names.ensures

pub returns : goal.returns
returns c = whole c.args.images.now c.args.stages.now c.loop-stage.stage-index (omega (arith, c.loop-stage-test.false)) c.loop-stage.invariant
