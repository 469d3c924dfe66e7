-- What the calls answer by which a bundle is asked, step by step: what is asked for, or the refusal; want of memory says nothing.
use Rattle.std.specs.Prelude.{Result, Ok, Err}
use Rattle.plain.specs.declared.fault.Fault.{Fault}
use Rattle.plain.specs.declared.fault.Fault.TheVariants.{Because, Memory}
use Rattle.plain.specs.declared.refusal.Refusal.{Refusal}
use Rattle.expand.specs.Reasons.{rejection_of}
use Rattle.expand.specs.declared.reason.Rejection.{Rejection}
use Rattle.stages.specs.Table.{TableValue}
use Rattle.imageconfig.specs.declared.config.Config.{Config}
use Rattle.bundle.specs.declared.whole.Bundle.{Bundle}
use Rattle.build.specs.declared.asking.Asked.{Asked}
use Rattle.build.specs.Meaning.{TableAsks, FileAsks}

-- the fault of what is read before any text is expanded
abbrev pub rejection_fault : Fault Refusal → Fault Rejection
rejection_fault (Because refusal) = Because (rejection_of refusal)
rejection_fault Memory = Memory

-- a bundle is asked
abbrev pub IsFileAsked : Bundle Config → Result Asked (Fault Rejection) → Type 0
IsFileAsked bundle (Ok asked) = FileAsks bundle (Ok asked.evaluated)
IsFileAsked bundle (Err (Because refusal)) = FileAsks bundle (Err refusal)
IsFileAsked bundle (Err Memory) = Unit {0}

-- the stages of its Dockerfile are asked, or their refusal is told
abbrev pub IsTableAsked : Bundle Config → Result TableValue Rejection → Result Asked (Fault Rejection) → Type 0
IsTableAsked bundle table (Ok asked) = TableAsks bundle table (Ok asked.evaluated)
IsTableAsked bundle table (Err (Because refusal)) = TableAsks bundle table (Err refusal)
IsTableAsked bundle table (Err Memory) = Unit {0}
