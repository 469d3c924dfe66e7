use Rattle.pointed.proofs.CodeLaws.{image-pointed, from-pointed, only-pointed}
use Rattle.pointed.proofs.laws.what_names_no_image_is_pointed_at.Goals as goal

pub returns-clause-image : goal.returns-clause-image
returns-clause-image c = image-pointed

pub returns-clause-source : goal.returns-clause-source
returns-clause-source c = from-pointed

pub returns-clause-mount : goal.returns-clause-mount
returns-clause-mount c = only-pointed
