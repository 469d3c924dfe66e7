use Rattle.paths.specs.OrderLaws.{path_cmp_total, path_cmp-IsAntisymmetric}
use Rattle.paths.proofs.PathLaws.{path_cmp-append}
use Rattle.paths.proofs.laws.order_is_total.Goals as goal

pub returns-clause-total : goal.returns-clause-total
returns-clause-total c = path_cmp_total

pub returns-clause-exact : goal.returns-clause-exact
returns-clause-exact c = path_cmp-IsAntisymmetric

pub returns-clause-below : goal.returns-clause-below
returns-clause-below c = path_cmp-append
