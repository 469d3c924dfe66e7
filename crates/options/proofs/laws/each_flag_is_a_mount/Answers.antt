use Rattle.options.proofs.FlagLaws.{mounts-length}
use Rattle.options.proofs.laws.each_flag_is_a_mount.Goals as goal

pub returns : goal.returns
returns c = mounts-length
