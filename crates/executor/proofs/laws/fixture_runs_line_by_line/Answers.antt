use Rattle.executor.proofs.FixtureLaws.{commands-lines, held-lines, fixture_out-lines}
use Rattle.executor.proofs.laws.fixture_runs_line_by_line.Goals as goal

pub returns-clause-seen : goal.returns-clause-seen
returns-clause-seen c = commands-lines

pub returns-clause-held : goal.returns-clause-held
returns-clause-held c = held-lines

pub returns-clause-bare : goal.returns-clause-bare
returns-clause-bare c = λ request front first second bare. fixture_out-lines request bare front first second
