use Rattle.globs.proofs.SpelledOut.{relates-alone}
use Rattle.globs.proofs.laws.a_text_that_is_spelled_out_relates_to_one_path.Goals as goal

pub returns : goal.returns
returns c text utf8 plain path = relates-alone text utf8 plain path
