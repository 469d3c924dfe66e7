-- What a teller answers, and that it answers of what a bundle holds (own).
use Rattle.std.specs.Prelude.{◌≡◌, ℕ, List, Option, Result, Ok, Err}
use Rattle.imageconfig.specs.Reading.{config_in}
use Rattle.imageconfig.specs.declared.config.Config.{Config}
use Rattle.bundle.specs.Parts.{parts_of}
use Rattle.bundle.specs.declared.parts.Parts.{Parts}
use Rattle.flaws.specs.Flaws.{flaw_in}
use Rattle.checks.specs.Images.{image_names}
use Rattle.answering.specs.declared.status.Status.{Status}
use Rattle.program.specs.declared.fault.TellFault.{TellFault}
use Rattle.program.specs.declared.fault.TellFault.TheVariants.{Memory, Device, Clash, Unspeakable}
use Rattle.build.specs.Ends.{Answering}
use Rattle.program.specs.declared.told.Told.{Told}
use Rattle.program.specs.Telling.{Stops}

-- what bytes hold, if they are a bundle
abbrev pub held : List ℕ → Option (Parts Config)
held bytes = parts_of config_in bytes

-- bytes hold the same as others: the same bundle with the same names of images, or they are wrong at the same place
pub record HoldsSame (bytes others : List ℕ) : Type 0 where
  pub parts : held bytes ≡ held others
  pub flaw : flaw_in config_in bytes ≡ flaw_in config_in others
  pub names : image_names bytes ≡ image_names others

-- what is told of bytes is told of all that hold the same
abbrev pub Moves : Answering → Type 0
Moves Tells = (bytes bundle : List ℕ) (status : Status) (text : List ℕ) → HoldsSame bytes bundle → Tells bytes status text → Tells bundle status text

-- and so is that nothing is due of them
abbrev pub MovesStops : Stops → Type 0
MovesStops IsStopped = (fault : TellFault) (bytes bundle : List ℕ) → HoldsSame bytes bundle → IsStopped fault bytes → IsStopped fault bundle

-- what is answered to a bundle's bytes: what is due of them, or that nothing is; want of memory says nothing
abbrev pub IsToldBy : Answering → Stops → List ℕ → Result Told TellFault → Type 0
IsToldBy Tells IsStopped bytes (Ok told) = Tells bytes told.status told.text
IsToldBy Tells IsStopped bytes (Err Memory) = Unit {0}
IsToldBy Tells IsStopped bytes (Err Device) = ⊥
IsToldBy Tells IsStopped bytes (Err Clash) = IsStopped Clash bytes
IsToldBy Tells IsStopped bytes (Err Unspeakable) = IsStopped Unspeakable bytes
