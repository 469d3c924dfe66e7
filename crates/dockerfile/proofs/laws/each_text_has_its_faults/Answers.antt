use Rattle.dockerfile.proofs.FaultsFacts.{has_faults, faults_same, faults_in_order}
use Rattle.dockerfile.proofs.laws.each_text_has_its_faults.Goals as goal

pub returns : goal.returns
returns c = record { exists = has_faults; unique = faults_same; order = faults_in_order }
