use Rattle.executor.proofs.ScriptLaws.{script_of-append}
use Rattle.executor.proofs.laws.last_but_one_tells_script.Goals as goal

pub returns : goal.returns
returns c = script_of-append
