use Rattle.executor.proofs.ScriptLaws.{commands-append}
use Rattle.executor.proofs.laws.line_feed_parts_scripts.Goals as goal

pub returns : goal.returns
returns c = commands-append
