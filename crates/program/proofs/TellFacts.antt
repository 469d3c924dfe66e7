-- What was read of a bundle, what is told of it, and what was written of that.
use Rattle.std.proofs.Common.{◌≡◌, ◌<◌, ◌≤◌, inr, ℕ, ◌+◌, Bool, true, false, nat_le, List, [], length, take, Option, Some, None, Result, Ok, Err, refl, sym, ap, ◌∙◌, subst, arith}
use Rattle.std.specs.Result.{IsErrAnd}
use Rattle.std.specs.Io.KnownBytes.{Appends, Consumes}
use Rattle.std.proofs.lemmas.Bool.{lt-leb, leb-true, leb-false}
use Rattle.std.proofs.lemmas.List.{take_all, length-take, length-take-le, take-append-drop}
use Rattle.plain.specs.Limits.{most_bundle_bytes}
use Rattle.plain.specs.declared.fault.Fault.{Fault}
use Rattle.plain.specs.declared.fault.Fault.TheVariants as edge
use Rattle.counted.specs.declared.fault.Device.{Device}
use Rattle.counted.specs.Edges.{AppendsBeginning, LosesBeginning, ReadsFirst, CountsFault, IsDevice}
use Rattle.imageconfig.specs.Reading.{config_in}
use Rattle.bundle.specs.Parts.{parts_within}
use Rattle.flaws.specs.Flaws.{flaw_in}
use Rattle.flaws.specs.declared.flaw.Flaw.TheVariants.{TooLong}
use Rattle.flaws.proofs.WholeFacts.{flaw-long}
use Rattle.checks.specs.Images.{image_names, image_names_within}
use Rattle.answering.specs.declared.status.Status.{Status}
use Rattle.program.specs.declared.fault.TellFault.{TellFault}
use Rattle.program.specs.declared.fault.TellFault.TheVariants as end
use Rattle.program.specs.Faults.{of_edge}
use Rattle.build.specs.Ends.{Answering, Devices, IsAllLeft}
use Rattle.program.specs.Telling.{HasStopped, HasTold, Stops, TellingEnds}
use Rattle.program.specs.PrivateTelling.{held, HoldsSame, IsToldBy, Moves, MovesStops}

-- what was read holds what the whole bundle holds
pub record IsReadOf (left : Option (List ℕ)) (bytes : List ℕ) : Type 0 where
  pub bundle : List ℕ
  pub is : IsAllLeft left bundle
  pub same : HoldsSame bytes bundle

long : (most : ℕ) (bytes : List ℕ) → most < length bytes → parts_within most config_in bytes ≡ None
unfolding parts_within
long most bytes more = rw (lt-leb (length bytes) most more)

nameless : (most : ℕ) (bytes : List ℕ) → most < length bytes → image_names_within most bytes ≡ []
unfolding image_names_within
nameless most bytes more = rw (lt-leb (length bytes) most more)

-- what is the same of all bytes past a limit is the same of bytes that are cut past it
cut_by : {A : Type 0} (f : List ℕ → A) (none : A) (most limit : ℕ) → ((bytes : List ℕ) → most < length bytes → f bytes ≡ none)
    → (all : List ℕ) (b : Bool) → limit ≡ most + 1 → nat_le (length all) most ≡ b → f (take limit all) ≡ f all
cut_by f none most limit past all true is short = ap f (take_all limit all (omega (arith, leb-true (length all) most short)))
cut_by f none most limit past all false is more =
    let within : limit ≤ length all = omega (arith, leb-false (length all) most more) in
    let n : length (take limit all) ≡ limit = length-take-le limit all within in
    past (take limit all) (omega arith) ∙ sym (past all (omega arith))

-- a bundle past the limit isn't read, however little past it was read
cut : (limit : ℕ) (all : List ℕ) → limit ≡ most_bundle_bytes + 1 → HoldsSame (take limit all) all
cut limit all is = record {
  parts = cut_by held None most_bundle_bytes limit (long most_bundle_bytes) all (nat_le (length all) most_bundle_bytes) is refl;
  flaw = cut_by (flaw_in config_in) (Some TooLong) most_bundle_bytes limit (flaw-long config_in most_bundle_bytes) all (nat_le (length all) most_bundle_bytes) is refl;
  names = cut_by image_names [] most_bundle_bytes limit (nameless most_bundle_bytes) all (nat_le (length all) most_bundle_bytes) is refl;
}

pub read_of : (limit : ℕ) (left rest : Option (List ℕ)) (bytes items : List ℕ) → limit ≡ most_bundle_bytes + 1 → bytes ≡ items
    → ReadsFirst limit left rest items → IsReadOf left bytes
read_of limit None rest bytes items is same reads = record { bundle = bytes; is = tt; same = record { parts = refl; flaw = refl; names = refl } }
read_of limit (Some all) rest bytes items is same reads =
    record { bundle = all; is = refl; same = subst (λ given. HoldsSame given all) (sym (same ∙ reads.0)) (cut limit all is) }

-- no more was read than was asked for
pub loses_at_most : (limit : ℕ) (old new : Option (List ℕ)) (bytes : List ℕ) → ReadsFirst limit old new bytes → LosesBeginning limit old new
loses_at_most limit None new bytes reads = ([], omega arith, tt)
loses_at_most limit (Some all) new bytes reads =
    let short : length (take limit all) ≤ limit = omega (arith, length-take limit all) in
    (take limit all, short, subst (λ rest. Consumes (Some all) rest (take limit all)) (sym reads.1) (sym (take-append-drop limit all)))

-- all that is told was written
pub has_told : (Tells : Answering) → Moves Tells → (old new : Devices) (bytes line text : List ℕ) (status : Status)
    → IsReadOf old.left bytes → Tells bytes status text → line ≡ text → Appends old.written new.written line
    → new.failed_reads ≡ old.failed_reads → new.failed_writes ≡ old.failed_writes → HasTold Tells old new status
has_told Tells moves old new bytes line text status read tells is written reads writes = record {
  bundle = read.bundle;
  is = read.is;
  text = text;
  tells = moves bytes read.bundle status text read.same tells;
  written = subst (Appends old.written new.written) is written;
  failed_reads = reads;
  failed_writes = writes;
}

-- a write failed
pub has_begun : (Tells : Answering) (Stopped : Stops) → Moves Tells → (old new : Devices) (bytes line text : List ℕ) (status : Status) (fault : Fault Device)
    → IsReadOf old.left bytes → Tells bytes status text → line ≡ text → AppendsBeginning old.written new.written line
    → new.failed_reads ≡ old.failed_reads → CountsFault {T = Unit {0}} old.failed_writes new.failed_writes (Err fault) → IsDevice fault
    → TellingEnds Tells Stopped old new (Err (of_edge fault))
has_begun Tells Stopped moves old new bytes line text status edge.Memory read tells is written reads writes device = absurd device
has_begun Tells Stopped moves old new bytes line text status (edge.Because failed) read tells is written reads writes device = inr (record {
  bundle = read.bundle;
  is = read.is;
  status = status;
  text = text;
  tells = moves bytes read.bundle status text read.same tells;
  written = subst (AppendsBeginning old.written new.written) is written;
  failed_reads = reads;
  failed_writes = writes;
})

has_stopped : (Tells : Answering) (IsStopped : Stops) → MovesStops IsStopped → (old new : Devices) (bytes : List ℕ) (fault : TellFault) → IsReadOf old.left bytes
    → IsStopped fault bytes → new.written ≡ old.written → new.failed_reads ≡ old.failed_reads → new.failed_writes ≡ old.failed_writes
    → HasStopped (IsStopped fault) old new
has_stopped Tells IsStopped moves old new bytes fault read stops written reads writes = record {
  bundle = read.bundle;
  is = read.is;
  stops = moves fault bytes read.bundle read.same stops;
  unwritten = (written, writes);
  failed_reads = reads;
}

-- nothing was told, and nothing was written
pub faulted : (Tells : Answering) (IsStopped : Stops) → MovesStops IsStopped → (old new : Devices) (bytes : List ℕ) (fault : TellFault) → IsReadOf old.left bytes
    → IsToldBy Tells IsStopped bytes (Err fault) → new.written ≡ old.written → new.failed_reads ≡ old.failed_reads → new.failed_writes ≡ old.failed_writes
    → TellingEnds Tells IsStopped old new (Err fault)
faulted Tells IsStopped moves old new bytes end.Memory read told written reads writes = ((written, writes), reads)
faulted Tells IsStopped moves old new bytes end.Device read told written reads writes = absurd told
faulted Tells IsStopped moves old new bytes end.Clash read told written reads writes = has_stopped Tells IsStopped moves old new bytes end.Clash read told written reads writes
faulted Tells IsStopped moves old new bytes end.Unspeakable read told written reads writes = has_stopped Tells IsStopped moves old new bytes end.Unspeakable read told written reads writes

pub err_and : {T E : Type 0} (r : Result T E) (e : E) → IsErrAnd r (λ f. f ≡ e) → r ≡ Err e
err_and (Ok x) e h = absurd h
err_and (Err f) e h = ap Err h
