use Rattle.evaluation.proofs.ConfigurationFacts.{config_made}
use Rattle.evaluation.proofs.laws.a_configuration_is_what_the_lines_make.Goals as goal

pub returns : goal.returns
returns c = config_made
