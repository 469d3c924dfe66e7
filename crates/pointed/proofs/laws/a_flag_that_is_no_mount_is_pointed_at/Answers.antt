use Rattle.pointed.proofs.CodeLaws.{mount-pointed}
use Rattle.pointed.proofs.laws.a_flag_that_is_no_mount_is_pointed_at.Goals as goal

pub returns : goal.returns
returns c = mount-pointed
