-- What was written of a line tells what the line tells.
use Rattle.std.proofs.Common.{◌≡◌, ℕ, List, Option, Result, Ok, Err, refl, ap, ◌∙◌, subst}
use Rattle.std.specs.Io.KnownBytes.{Appends}
use Rattle.plain.specs.declared.fault.Fault.{Fault}
use Rattle.plain.specs.declared.fault.Fault.TheVariants as edge
use Rattle.counted.specs.declared.fault.Device.{Device as DeviceFailed}
use Rattle.counted.specs.Edges.{AppendsBeginning, CountsFault, IsDevice, line_of}
use Rattle.counted.specs.Gathering.{IsWritten}
use Rattle.answering.specs.declared.status.Status.{Status}
use Rattle.answering.specs.declared.status.BuildFault.{BuildFault}
use Rattle.answering.specs.declared.status.BuildFault.TheVariants.{Memory, Device, Clash}
use Rattle.answering.specs.declared.told.Told.{Told}
use Rattle.answering.specs.Told.{TellsText, IsTold}

-- what a line tells it tells of more
pub told_of : (These Those : Told → Type 0) → ((told : Told) → These told → Those told) → (old new : Option (List ℕ)) (before after : ℕ) (result : Result Status BuildFault)
    → IsTold These old before new after result → IsTold Those old before new after result
told_of These Those more old new before after (Ok status) is = (is.0, more is.0 is.1, is.2, is.3, is.4)
told_of These Those more old new before after (Err Memory) is = is
told_of These Those more old new before after (Err Device) is = (is.0, more is.0 is.1, is.2, is.3)
told_of These Those more old new before after (Err Clash) is = absurd is

-- ---- what was written

-- a text that was said whole
pub text_told : (status : Status) (text : List ℕ) (old new : Option (List ℕ)) (before after : ℕ) → Appends old new (line_of text) → after ≡ before
    → IsTold (TellsText status text) old before new after (Ok status)
text_told status text old new before after written count = (record { status = status; line = line_of text }, (refl, refl), refl, written, count)

-- a text of which a beginning was written
pub text_begun : (status : Status) (text : List ℕ) (old new : Option (List ℕ)) (before after : ℕ) (fault : Fault DeviceFailed) → IsWritten old before new after (line_of text) (Err fault)
    → IsTold (TellsText status text) old before new after (Err Device)
text_begun status text old new before after edge.Memory is = absurd is
text_begun status text old new before after (edge.Because device) is = (record { status = status; line = line_of text }, (refl, refl), is.0, is.1)

-- a line of which a beginning was written
pub line_begun : (told : Told) (line : List ℕ) (old new : Option (List ℕ)) (before after : ℕ) (fault : Fault DeviceFailed) → line ≡ told.line → AppendsBeginning old new line
    → IsDevice fault → CountsFault {T = Unit {0}} before after (Err fault) → IsTold (λ other. other ≡ told) old before new after (Err Device)
line_begun told line old new before after edge.Memory is begun device count = absurd device
line_begun told line old new before after (edge.Because gone) is begun device count = (told, refl, subst (AppendsBeginning old new) is begun, count)

-- ---- what a line tells

-- a line that is made of a text
pub line_tells : (status : Status) (text said : List ℕ) (told other : Told) → told.status ≡ status → told.line ≡ line_of said → said ≡ text → other ≡ told → TellsText status text other
line_tells status text said told other is line same one = (ap (λ t. t.status) one ∙ is, ap (λ t. t.line) one ∙ line ∙ ap line_of same)
