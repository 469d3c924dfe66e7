-- What a fault prints (own).
use Rattle.std.specs.Prelude.{ℕ, List, codes}
use Rattle.answering.specs.declared.status.BuildFault.{BuildFault}
use Rattle.answering.specs.declared.status.BuildFault.TheVariants.{Memory, Device, Clash}

-- the text that a fault prints
abbrev pub fault_text : BuildFault → List ℕ
fault_text Memory = codes "out of memory"
fault_text Device = codes "device failed"
fault_text Clash = codes "address clash"
