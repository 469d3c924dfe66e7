use Rattle.evaluation.proofs.EnvironmentFacts.{EnvironmentLaws}
use Rattle.evaluation.proofs.ReachedFacts.{comes_same, comes_seen, ends_same}
use Rattle.evaluation.proofs.laws.configurations_have_the_environment_of_their_scopes.Goals as goal

pub returns : goal.returns
returns c =
    let step = c.scopes_and_configurations_have_the_same_environment.ensures in
    let laws : EnvironmentLaws = record { env = step.env; inherited = step.inherited; arg = step.arg } in
    record { each = comes_same laws; ends = ends_same laws; seen = comes_seen laws }
