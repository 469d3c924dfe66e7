use Rattle.std.proofs.Common.{ap, subst, ◌∙◌}
use Rattle.trees.specs.Cause.{GivesTree}
use Rattle.trees.specs.Copy.{copied}
use Rattle.plans.specs.Files.{sources_in}
use Rattle.plans.specs.Value.{copied_files}
use Rattle.vertexrun.proofs.files.copied_files.Goals as goal

pub returns : goal.returns
returns c =
    let sources = c.as_slice-2.ensures.value ∙ c.in_ok-sources.ensures ∙ ap (sources_in c.args.from.now) c.as_slice.ensures in
    c.tree_or_cause.ensures (copied_files c.args.files.now c.args.base.now c.args.from.now)
    (subst (λ base. GivesTree (copied base c.args.from.now (sources_in c.args.from.now c.args.files.now.sources) c.args.files.now.dest c.args.files.now.options) c.copied.result) c.in_ok-base.ensures
    (subst (λ found. GivesTree (copied c.in_ok-base.base c.args.from.now found c.args.files.now.dest c.args.files.now.options) c.copied.result) sources c.copied.ensures))
