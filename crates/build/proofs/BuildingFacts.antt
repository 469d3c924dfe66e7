-- What was read of a bundle, what is told of it, and what was written of that.
use Rattle.std.proofs.Common.{◌≡◌, ◌<◌, ◌≤◌, inl, inr, ℕ, ◌+◌, Bool, true, false, nat_le, List, [], length, take, Option, Some, None, Result, Ok, Err, refl, sym, ap, ◌∙◌, subst, arith}
use Rattle.std.specs.Result.{IsErrAnd}
use Rattle.std.specs.Io.KnownBytes.{Appends, Consumes}
use Rattle.std.proofs.lemmas.Bool.{lt-leb, leb-true, leb-false}
use Rattle.std.proofs.lemmas.List.{take_all, length-take, length-take-le, take-append-drop}
use Rattle.plain.specs.Limits.{most_bundle_bytes}
use Rattle.plain.specs.declared.refusal.Refusal.{Refusal}
use Rattle.expand.specs.declared.reason.Rejection.{Rejection}
use Rattle.plain.specs.declared.fault.Fault.{Fault}
use Rattle.plain.specs.declared.fault.Fault.TheVariants as edge
use Rattle.counted.specs.declared.fault.Device.{Device}
use Rattle.counted.specs.Edges.{AppendsBeginning, LosesBeginning, ReadsFirst, CountsFault, IsDevice, line_of}
use Rattle.imageconfig.specs.Reading.{config_in}
use Rattle.imageconfig.specs.declared.config.Config.{Config}
use Rattle.bundle.specs.Parts.{parts_within, parts_of}
use Rattle.bundle.specs.Reading.{ReadsBundle}
use Rattle.bundle.specs.declared.parts.Parts.{Parts}
use Rattle.plans.specs.Value.{Out}
use Rattle.answering.specs.declared.status.Status.{Status}
use Rattle.answering.specs.declared.told.Told.{Told}
use Rattle.answering.specs.declared.status.BuildFault.{BuildFault}
use Rattle.answering.specs.declared.status.BuildFault.TheVariants.{Memory, Device as FailedDevice, Clash}
use Rattle.answering.specs.Faults.{of_edge}
use Rattle.evaluation.specs.declared.evaluated.Evaluated.{Evaluated}
use Rattle.build.specs.Meaning.{Asks, Answers}
use Rattle.build.specs.Graph.{GraphAnswers, GraphClashes}
use Rattle.build.specs.PrivateShowing.{IsShown}
use Rattle.answering.specs.Told.{IsTold}
use Rattle.build.specs.PrivateTelling.{TellsBundle}
use Rattle.build.specs.Ends.{Devices, IsAllLeft, Answering, AnswersUnder, HasAnswered, EndsBy, Ends, GraphEnds}

-- what bytes hold
abbrev held : List ℕ → Option (Parts Config)
held bytes = parts_of config_in bytes

-- what was read holds what the whole bundle holds
pub record IsReadOf (left : Option (List ℕ)) (bytes : List ℕ) : Type 0 where
  pub bundle : List ℕ
  pub is : IsAllLeft left bundle
  pub same : held bytes ≡ held bundle

long : (most : ℕ) (bytes : List ℕ) → most < length bytes → parts_within most config_in bytes ≡ None
unfolding parts_within
long most bytes more = rw (lt-leb (length bytes) most more)

cut_by : (most limit : ℕ) (all : List ℕ) (b : Bool) → limit ≡ most + 1 → nat_le (length all) most ≡ b
    → parts_within most config_in (take limit all) ≡ parts_within most config_in all
cut_by most limit all true is short = ap (parts_within most config_in) (take_all limit all (omega (arith, leb-true (length all) most short)))
cut_by most limit all false is more =
    let past : limit ≤ length all = omega (arith, leb-false (length all) most more) in
    let n : length (take limit all) ≡ limit = length-take-le limit all past in
    long most (take limit all) (omega arith) ∙ sym (long most all (omega arith))

-- a bundle past the limit isn't read, however little past it was read
cut : (limit : ℕ) (all : List ℕ) → limit ≡ most_bundle_bytes + 1 → held (take limit all) ≡ held all
cut limit all is = cut_by most_bundle_bytes limit all (nat_le (length all) most_bundle_bytes) is refl

pub read_of : (limit : ℕ) (left rest : Option (List ℕ)) (bytes items : List ℕ) → limit ≡ most_bundle_bytes + 1 → bytes ≡ items
    → ReadsFirst limit left rest items → IsReadOf left bytes
read_of limit None rest bytes items is same reads = record { bundle = bytes; is = tt; same = refl }
read_of limit (Some all) rest bytes items is same reads =
    record { bundle = all; is = refl; same = ap held (same ∙ reads.0) ∙ cut limit all is }

-- no more was read than was asked for
pub loses_at_most : (limit : ℕ) (old new : Option (List ℕ)) (bytes : List ℕ) → ReadsFirst limit old new bytes → LosesBeginning limit old new
loses_at_most limit None new bytes reads = ([], omega arith, tt)
loses_at_most limit (Some all) new bytes reads =
    let short : length (take limit all) ≤ limit = omega (arith, length-take limit all) in
    (take limit all, short, subst (λ rest. Consumes (Some all) rest (take limit all)) (sym reads.1) (sym (take-append-drop limit all)))

-- bytes that hold the same give the same bundle, or the same refusal
refused : (bytes others : List ℕ) (refusal : Refusal) → held bytes ≡ held others → ReadsBundle config_in bytes (Err (edge.Because refusal)) → ReadsBundle config_in others (Err (edge.Because refusal))
refused bytes others refusal same (inl none) = inl (sym same ∙ none.0, none.1)
refused bytes others refusal same (inr some) = inr (some.0, (sym same ∙ some.1.0, some.1.1))

asks : (bytes others : List ℕ) (asked : Result Evaluated Rejection) → held bytes ≡ held others → Asks bytes asked → Asks others asked
asks bytes others asked same (inl told) = inl (told.0, refused bytes others told.0 same told.1, told.2)
asks bytes others asked same (inr read) = inr (read.0, (read.1.0, (sym same ∙ read.1.1.0, read.1.1.1)), read.2)

answers : (bytes bundle : List ℕ) (out : Out) (status : Status) (text : List ℕ) → held bytes ≡ held bundle
    → Answers bytes out status text → Answers bundle out status text
answers bytes bundle out status text same a =
    record { asked = a.asked; asks = asks bytes bundle a.asked same a.asks; tells = a.tells }

graph_answers : (bytes bundle : List ℕ) (status : Status) (text : List ℕ) → held bytes ≡ held bundle
    → GraphAnswers bytes status text → GraphAnswers bundle status text
graph_answers bytes bundle status text same a =
    record { asked = a.asked; asks = asks bytes bundle a.asked same a.asks; shows = a.shows }

-- what is told of bytes that hold the same is told of them
abbrev Moves : Answering → Type 0
Moves Said = (bytes bundle : List ℕ) (status : Status) (text : List ℕ) → held bytes ≡ held bundle → Said bytes status text → Said bundle status text

-- a line is an answer, and LF
abbrev IsLine : Answering → List ℕ → Told → Type 0
IsLine Said bytes told = (text : List ℕ) × Said bytes told.status text × (told.line ≡ line_of text)

-- the line was written
answered : (Said : Answering) → Moves Said → (old new : Devices) (bytes line : List ℕ) (told : Told)
    → IsReadOf old.left bytes → IsLine Said bytes told → line ≡ told.line → Appends old.written new.written line
    → new.failed_reads ≡ old.failed_reads → new.failed_writes ≡ old.failed_writes → HasAnswered Said old new told.status
answered Said moves old new bytes line told read tells is written reads writes = record {
  bundle = read.bundle;
  is = read.is;
  text = tells.0;
  answers = moves bytes read.bundle told.status tells.0 read.same tells.1;
  written = subst (Appends old.written new.written) (is ∙ tells.2) written;
  failed_reads = reads;
  failed_writes = writes;
}

-- a write failed
begun : (Said : Answering) (Collides : List ℕ → Type 0) → Moves Said → (old new : Devices) (bytes line : List ℕ) (told : Told) (fault : Fault Device)
    → IsReadOf old.left bytes → IsLine Said bytes told → line ≡ told.line → AppendsBeginning old.written new.written line
    → new.failed_reads ≡ old.failed_reads → CountsFault {T = Unit {0}} old.failed_writes new.failed_writes (Err fault) → IsDevice fault
    → EndsBy Said Collides old new (Err (of_edge fault))
begun Said Collides moves old new bytes line told edge.Memory read tells is written reads writes device = absurd device
begun Said Collides moves old new bytes line told (edge.Because failed) read tells is written reads writes device = inr (record {
  bundle = read.bundle;
  is = read.is;
  status = told.status;
  text = tells.0;
  answers = moves bytes read.bundle told.status tells.0 read.same tells.1;
  written = subst (AppendsBeginning old.written new.written) (is ∙ tells.2) written;
  failed_reads = reads;
  failed_writes = writes;
})

-- how a build ends, of which this was told
pub has_told : (out : Out) (old new : Devices) (bytes : List ℕ) (result : Result Status BuildFault) → IsReadOf old.left bytes
    → IsTold (TellsBundle bytes out) old.written old.failed_writes new.written new.failed_writes result → new.failed_reads ≡ old.failed_reads → Ends out old new result
has_told out old new bytes (Ok status) read ended reads =
    subst (HasAnswered (AnswersUnder out) old new) ended.2
    (answered (AnswersUnder out) (λ bytes bundle status text same a. answers bytes bundle out status text same a) old new bytes ended.0.line ended.0 read ended.1 refl ended.3 reads ended.4)
has_told out old new bytes (Err Memory) read ended reads = ((ended.0, ended.1), reads)
has_told out old new bytes (Err FailedDevice) read ended reads = inr (record {
  bundle = read.bundle;
  is = read.is;
  status = ended.0.status;
  text = ended.1.0;
  answers = answers bytes read.bundle out ended.0.status ended.1.0 read.same ended.1.1;
  written = subst (AppendsBeginning old.written new.written) ended.1.2 ended.2;
  failed_reads = reads;
  failed_writes = ended.3;
})
has_told out old new bytes (Err Clash) read ended reads = absurd ended

-- the same of a graph
pub graph_answered : (old new : Devices) (bytes line : List ℕ) (told : Told)
    → IsReadOf old.left bytes → IsShown bytes (Ok told) → line ≡ told.line → Appends old.written new.written line
    → new.failed_reads ≡ old.failed_reads → new.failed_writes ≡ old.failed_writes → HasAnswered GraphAnswers old new told.status
graph_answered old new bytes line told read tells is written reads writes = answered GraphAnswers graph_answers old new bytes line told read tells is written reads writes

pub graph_begun : (old new : Devices) (bytes line : List ℕ) (told : Told) (fault : Fault Device)
    → IsReadOf old.left bytes → IsShown bytes (Ok told) → line ≡ told.line → AppendsBeginning old.written new.written line
    → new.failed_reads ≡ old.failed_reads → CountsFault {T = Unit {0}} old.failed_writes new.failed_writes (Err fault) → IsDevice fault
    → GraphEnds old new (Err (of_edge fault))
graph_begun old new bytes line told fault read tells is written reads writes device =
    begun GraphAnswers GraphClashes graph_answers old new bytes line told fault read tells is written reads writes device

-- nothing was told of a bundle, and nothing was written
pub graph_faulted : (old new : Devices) (bytes : List ℕ) (fault : BuildFault)
    → IsReadOf old.left bytes → IsShown bytes (Err fault) → new.written ≡ old.written → new.failed_reads ≡ old.failed_reads → new.failed_writes ≡ old.failed_writes
    → GraphEnds old new (Err fault)
graph_faulted old new bytes Memory read told written reads writes = ((written, writes), reads)
graph_faulted old new bytes FailedDevice read told written reads writes = absurd told
graph_faulted old new bytes Clash read told written reads writes = record {
  bundle = read.bundle;
  is = read.is;
  clash = record { made = told.made; asks = asks bytes read.bundle (Ok told.made) read.same told.asks; plan = told.plan; is = told.is; means = told.means; stands = told.stands; clashes = told.clashes };
  unwritten = (written, writes);
  failed_reads = reads;
}

pub err_and : {T E : Type 0} (r : Result T E) (e : E) → IsErrAnd r (λ f. f ≡ e) → r ≡ Err e
err_and (Ok x) e h = absurd h
err_and (Err f) e h = ap Err h
