-- What the program does with a command line: what it writes where, and the status that it ends with (own).
use Rattle.std.specs.Prelude.{◌≡◌, ◌≢◌, ◌⊎◌, ◌<◌, ◌≤◌, ℕ, List, map, Bool, true, false, length, [], ◌++◌, Option, Some, None, is_some, Result, Ok, Err, ⊤, codes}
use Rattle.std.specs.Borrow.{Bor}
use Rattle.plain.specs.declared.fault.Fault.{Fault}
use Rattle.plain.specs.declared.fault.Fault.TheVariants.{Because, Memory}
use Rattle.clap.specs.Words.{subcommand_of, IsAmong}
use Rattle.clap.specs.declared.error.kind.ErrorKind.{ErrorKind}
use Rattle.clap.specs.declared.error.kind.ErrorKind.TheVariants.{DisplayHelp, DisplayVersion}
use Rattle.counted.specs.Edges.{line_of}
use Rattle.command.specs.CommandLine.{whole_command}
use Rattle.command.specs.Sources.{misplaced}
use Rattle.command.specs.Tasks.{IsTaskOf, faults_of}
use Rattle.command.specs.declared.task.Choice.{Choice}
use Rattle.command.specs.declared.task.PackOptions.{PackOptions}
use Rattle.command.specs.declared.task.Source.{Source}
use Rattle.command.specs.declared.task.Task.{Task}
use Rattle.command.specs.declared.task.Task.TheVariants.{Build, Graph, Pack, Why, Llb, Config, Check, Explain}
use Rattle.plain.specs.Limits.{most_bundle_bytes}
use Rattle.plans.specs.Value.{Out}
use Rattle.answering.specs.declared.status.Status.{Status}
use Rattle.answering.specs.declared.status.Status.TheVariants.{Built, Failed, Refused}
use Rattle.program.specs.declared.fault.TellFault.{TellFault}
use Rattle.program.specs.declared.input.Packing.{Packing}
use Rattle.program.specs.declared.input.Packing.TheVariants.{Kept, KeptNames, AllNames}
use Rattle.program.specs.declared.fault.TellFault.TheVariants.{Clash, Device, Memory as NoMemory, Unspeakable}
use Rattle.build.specs.Ends.{Devices, Ends, devices}
use Rattle.answering.specs.Faults.{exit_status}
use Rattle.program.specs.Faults.{EndsAs, fault_text}
use Rattle.packing.specs.Ends.{IsPacking, PacksFolder, PacksText, fault_text as pack_fault_text}
use Rattle.packing.specs.Packed.{Asked}
use Rattle.packing.specs.declared.fault.PackFault.{PackFault}
use Rattle.packing.specs.declared.fault.PackFault.TheVariants.{Memory as PackMemory}
use Rattle.program.specs.declared.arguments.NotText.{NotText}
use Rattle.program.specs.Check.{CheckEnds, file_shown, form_by}
use Rattle.program.specs.Config.{ConfigEnds}
use Rattle.program.specs.Dot.{DrawingEnds}
use Rattle.program.specs.Explain.{ExplainEnds}
use Rattle.program.specs.Llb.{LlbEnds}
use Rattle.program.specs.Saying.{Stream, Says}
use Rattle.program.specs.Why.{WhyEnds}

-- the reader and the writer of a build, and the writer on which is said why there is no whole answer
pub record Streams : Type 0 where
  pub devices : Devices
  pub errors : Stream

-- these devices and this writer for errors (own)
abbrev pub streams : Devices → Stream → Streams
streams devices errors = record { devices = devices; errors = errors }

-- the writer on which answers are written
abbrev pub output_of : Streams → Stream
output_of now = record { written = now.devices.written; failed = now.devices.failed_writes }

-- what is said on the stream for errors of how a build ended: nothing where an answer was written, else why there is none
abbrev pub SaysEnd : Result Status TellFault → Stream → Stream → Type 0
SaysEnd (Ok status) old new = new ≡ old
SaysEnd (Err fault) old new = Says (line_of (fault_text fault)) old new

-- a call that ends so was made, and the program ends with its status
pub record Calls (EndsSo : Devices → Devices → Result Status TellFault → Type 0) (old new : Streams) (status : ℕ) : Type 0 where
  pub ended : Result Status TellFault
  pub ends : EndsSo old.devices new.devices ended
  pub says : SaysEnd ended old.errors new.errors
  pub is : status ≡ exit_status ended

-- that something isn't done is said, and why, or as much of that as there was memory for
pub record SaysBecause (front why : List ℕ) (old new : Stream) : Type 0 where
  pub told : List ℕ
  pub is : (told ≡ []) ⊎ (told ≡ codes ": " ++ why)
  pub says : Says (line_of (front ++ told)) old new

-- the same, of which it isn't said here why
abbrev pub SaysSome : List ℕ → Stream → Stream → Type 0
SaysSome front old new = (why : List ℕ) × SaysBecause front why old new

-- what is said after `device failed`: nothing, or the file's name and what is known of it
abbrev pub IsTold : List ℕ → List ℕ → Type 0
IsTold name told = (told ≡ []) ⊎ ((why : List ℕ) × (told ≡ codes ": " ++ name ++ codes " " ++ why))

-- that a device failed is said, and of the file what is known, or as much of that as there was memory for
pub record SaysNamed (name : List ℕ) (old new : Stream) : Type 0 where
  pub told : List ℕ
  pub is : IsTold name told
  pub says : Says (line_of (fault_text Device ++ told)) old new

-- what is said of how a call on a file of this name ended: what is said of one on the reader, and where a device failed, the file's name too
abbrev pub SaysFileEnd : List ℕ → Result Status TellFault → Stream → Stream → Type 0
SaysFileEnd name ended old new = SaysEnd ended old new ⊎ ((ended ≡ Err Device) × SaysNamed name old new)

-- A call that ends so was made on the file of this name, none of whose reads had failed, and beside which nothing is chosen; the program ends with its
-- status. What the file holds is in no contract: what ended so is said for some bytes that it has left, or for bytes that aren't known.
pub record CallsFile (name : List ℕ) (choice : Choice) (EndsSo : Devices → Devices → Result Status TellFault → Type 0) (output new_output errors new_errors : Stream) (status : ℕ) : Type 0 where
  pub free : misplaced choice ≡ None
  pub left : Option (List ℕ)
  pub left_then : Option (List ℕ)
  pub failed_reads : ℕ
  pub ended : Result Status TellFault
  pub ends : EndsSo (devices left 0 output.written output.failed) (devices left_then failed_reads new_output.written new_output.failed) ended
  pub says : SaysFileEnd name ended errors new_errors
  pub is : status ≡ exit_status ended

-- what is asked for of a folder of which this is chosen
abbrev pub asked_with : Choice → Bool → Bool → Bool → Asked
asked_with choice apply_ignore names pass = record {
  has_file = is_some choice.file;
  images = map (λ image. image.0) choice.images;
  target = choice.target;
  args = choice.args;
  apply_ignore = apply_ignore;
  names = names;
  pass = pass;
}

-- the same where its bundle is read, with the bytes of files or by names alone, and then links and devices are passed over. What the ignore file leaves
-- out is packed only where the folder itself is given to an engine, which has to be told what it isn't given.
abbrev pub asked_for : Choice → Packing → Asked
asked_for choice Kept = asked_with choice true false false
asked_for choice KeptNames = asked_with choice true true true
asked_for choice AllNames = asked_with choice false true true

-- a text is said, and before it what was passed over in a folder
abbrev pub SaysAfterNotes : List ℕ → Stream → Stream → Type 0
SaysAfterNotes text old new = (notes : List ℕ) × Says (notes ++ text) old new

-- what is said of how a call on a folder's bundle ended
abbrev pub end_text : Result Status TellFault → List ℕ
end_text (Ok status) = []
end_text (Err fault) = line_of (fault_text fault)

-- A folder was packed for what is asked, and a call that ends so was made on the text of its bundle, of which no read failed. What was passed over in
-- the folder is said, and the program ends with the call's status.
pub record CallsFolder (asked : Asked) (EndsSo : Devices → Devices → Result Status TellFault → Type 0) (output new_output errors new_errors : Stream) (status : ℕ) : Type 0 where
  pub text : List ℕ
  pub packs : PacksText asked (Ok (Some text))
  pub short : length text ≤ most_bundle_bytes
  pub left_then : Option (List ℕ)
  pub ended : Result Status TellFault
  pub ends : EndsSo (devices (Some text) 0 output.written output.failed) (devices left_then 0 new_output.written new_output.failed) ended
  pub says : SaysAfterNotes (end_text ended) errors new_errors
  pub is : status ≡ exit_status ended

-- what is said of how packing ended: nothing where a bundle was written, else why there is none
abbrev pub SaysPack : Result Status PackFault → Stream → Stream → Type 0
SaysPack (Ok Built) old new = new ≡ old
SaysPack (Ok Failed) old new = new ≡ old
SaysPack (Ok Refused) old new = SaysSome (codes "no Dockerfile") old new
SaysPack (Err PackMemory) old new = Says (line_of (pack_fault_text PackMemory)) old new
SaysPack (Err fault) old new = SaysSome (pack_fault_text fault) old new

-- there is no bundle of a folder: it wasn't packed, or has no Dockerfile, or the bundle is larger than one may be
abbrev pub SaysNoBundle : Result (Option (List ℕ)) PackFault → Stream → Stream → ℕ → Type 0
SaysNoBundle (Ok (Some text)) old new status = (most_bundle_bytes < length text) × SaysSome (codes "cannot pack") old new × (status ≡ 3)
SaysNoBundle (Ok None) old new status = SaysPack (Ok Refused) old new × (status ≡ 2)
SaysNoBundle (Err fault) old new status = SaysPack (Err fault) old new × (status ≡ 3)

-- a folder gave no bundle for what is asked, and it is said why (own)
pub record HasNoBundle (asked : Asked) (old new : Stream) (status : ℕ) : Type 0 where
  pub packed : Result (Option (List ℕ)) PackFault
  pub packs : PacksText asked packed
  pub says : SaysNoBundle packed old new status

-- why a file or a folder can't be opened
abbrev pub IsOpenFault : TellFault → Type 0
IsOpenFault NoMemory = ⊤
IsOpenFault Device = ⊤
IsOpenFault Clash = ⊥
IsOpenFault Unspeakable = ⊥

-- a file or a folder of this name wasn't opened
pub record IsUnopened (name : List ℕ) (old new : Stream) (status : ℕ) : Type 0 where
  pub fault : TellFault
  pub fails : IsOpenFault fault
  pub says : SaysFileEnd name (Err fault) old new
  pub is : status ≡ exit_status (Err fault)

-- what is chosen goes with a folder alone
pub record RefusesChoice (choice : Choice) (old new : Stream) (status : ℕ) : Type 0 where
  pub text : List ℕ
  pub wrong : misplaced choice ≡ Some text
  pub says : SaysBecause (codes "error") text old new
  pub is : status ≡ 2

-- there is nothing of this name that a bundle can be read from; it is said why
abbrev pub IsShut : List ℕ → Choice → Packing → Stream → Stream → ℕ → Type 0
IsShut name choice packing old new status =
    IsUnopened name old new status ⊎ (HasNoBundle (asked_for choice packing) old new status ⊎ RefusesChoice choice old new status)

-- A call that ends so was made on the file of this name, or on the bundle of the folder of this name, of which something may be chosen and
-- which is packed so; or it wasn't made, and nothing was written. What the machine has of that name is in no contract.
abbrev pub CallsPlace : List ℕ → Choice → Packing → (Devices → Devices → Result Status TellFault → Type 0) → Stream → Stream → Stream → Stream → ℕ → Type 0
CallsPlace name choice packing EndsSo output new_output errors new_errors status =
    CallsFile name choice EndsSo output new_output errors new_errors status
    ⊎ (CallsFolder (asked_for choice packing) EndsSo output new_output errors new_errors status
    ⊎ ((new_output ≡ output) × IsShut name choice packing errors new_errors status))

-- nothing was read
pub record IsUnread (old new : Streams) : Type 0 where
  pub left : new.devices.left ≡ old.devices.left
  pub failed_reads : new.devices.failed_reads ≡ old.devices.failed_reads

-- what `pack` asks for of a folder: it applies the ignore file if the words say so, and passes nothing over
abbrev pub asked_by : PackOptions → Asked
asked_by options = asked_with options.choice options.apply_ignore options.names false

-- where a bundle goes to: where answers are written, or to a file of the machine, of which nothing is known; then nothing is written there
abbrev pub PacksInto : Option (List ℕ) → PackOptions → Stream → Stream → Result Status PackFault → Type 0
PacksInto None options output new_output ended =
    PacksFolder (asked_by options) output.written output.failed new_output.written new_output.failed ended
PacksInto (Some file) options output new_output ended = (new_output ≡ output) × IsPacking ended

-- a folder was packed, of which nothing is known, and the program ends with its status
pub record Packs (options : PackOptions) (output new_output errors new_errors : Stream) (status : ℕ) : Type 0 where
  pub ended : Result Status PackFault
  pub packs : PacksInto options.output options output new_output ended
  pub says : SaysPack ended errors new_errors
  pub is : status ≡ exit_status ended

-- what clap says where answers are written, and not as a fault
abbrev pub IsHelp : ErrorKind → Type 0
IsHelp kind = (kind ≡ DisplayHelp) ⊎ (kind ≡ DisplayVersion)

-- some text was said on one stream, and nothing on another
pub record SaysOn (old new other_old other_new : Stream) : Type 0 where
  pub text : List ℕ
  pub some : text ≢ []
  pub says : Says text old new
  pub other : other_new ≡ other_old

-- there was no memory to read the words: that is said on the stream for errors, and nothing is said where answers are written
pub record WantsMemory (output new_output errors new_errors : Stream) (status : ℕ) : Type 0 where
  pub says : Says (codes "out of memory\n") errors new_errors
  pub quiet : new_output ≡ output
  pub is : status ≡ 3

-- What is said of words that clap refuses, by the kind that it tells: help and the version where answers are written, a mistake on the
-- stream for errors.
abbrev pub SaysKind : ErrorKind → Stream → Stream → Stream → Stream → Type 0
SaysKind kind output new_output errors new_errors =
    (IsHelp kind × SaysOn output new_output errors new_errors) ⊎ ((¬ IsHelp kind) × SaysOn errors new_errors output new_output)

-- what happened on the two writers, nothing being read
abbrev pub OnWriters : (Stream → Stream → Stream → Stream → ℕ → Type 0) → Streams → Streams → ℕ → Type 0
OnWriters Said old new status = IsUnread old new × Said (output_of old) (output_of new) old.errors new.errors status

-- A call that ends so was made: on the reader, or on what is named, and then nothing was read from the reader.
abbrev pub CallsBy : Option (List ℕ) → Choice → Packing → (Devices → Devices → Result Status TellFault → Type 0) → Streams → Streams → ℕ → Type 0
CallsBy None choice packing EndsSo old new status = Calls EndsSo old new status
CallsBy (Some name) choice packing EndsSo old new status = OnWriters (CallsPlace name choice packing EndsSo) old new status

-- the same of what the words name; a folder is packed so
abbrev pub CallsOn : Source → Packing → (Devices → Devices → Result Status TellFault → Type 0) → Streams → Streams → ℕ → Type 0
CallsOn source packing EndsSo old new status = CallsBy source.place source.choice packing EndsSo old new status

-- a task was done: a build was run, a graph was drawn or written for BuildKit, a folder was packed, or the target's configuration was printed, all
-- faults of a bundle, which instruction fails, or why paths are kept or left out; a build and its explanation alone read the files of a folder, and what
-- BuildKit is given of it leaves out what the ignore file does, which the graph says of each path
abbrev pub Does : Out → Task → Streams → Streams → ℕ → Type 0
Does out (Build options) old new status = CallsOn options.source Kept (EndsAs (Ends out)) old new status
Does out (Graph options) old new status = CallsOn options.source KeptNames (DrawingEnds options.dot) old new status
Does out (Pack options) old new status = OnWriters (Packs options) old new status
Does out (Why options) old new status = CallsOn options.source KeptNames (WhyEnds options.paths) old new status
Does out (Llb options) old new status = CallsOn options.source AllNames (LlbEnds options) old new status
Does out (Config source) old new status = CallsOn source KeptNames ConfigEnds old new status
Does out (Check options) old new status = CallsOn options.source KeptNames (CheckEnds (file_shown options.source.choice) (form_by options.json)) old new status
Does out (Explain source) old new status = CallsOn source Kept (ExplainEnds (file_shown source.choice) out) old new status

-- a mistake in the words
abbrev pub Mistakes : Stream → Stream → Stream → Stream → ℕ → Type 0
Mistakes output new_output errors new_errors status = SaysOn errors new_errors output new_output × (status ≡ 2)

-- something of this kind is found in the words: a mistake, or that help is asked for
pub record Refuses (words : List (List ℕ)) (old new : Streams) (status : ℕ) : Type 0 where
  pub kind : ErrorKind
  pub is : IsAmong kind (faults_of words)
  pub unread : IsUnread old new
  pub says : SaysKind kind (output_of old) (output_of new) old.errors new.errors
  pub ends : status ≡ 2

-- the words spell a task, which was done
pub record Performs (out : Out) (words : List (List ℕ)) (old new : Streams) (status : ℕ) : Type 0 where
  pub task : Task
  pub spelled : IsTaskOf (subcommand_of whole_command words) task
  pub faultless : faults_of words ≡ []
  pub does : Does out task old new status

-- What the program does with the words of a command line, those after its name, or where there are none: it does the task that
-- they spell; or it says what is wrong with them, or help; or there was no memory to read them.
abbrev pub Runs : Out → Result (List (List ℕ)) (Fault NotText) → Streams → Streams → ℕ → Type 0
Runs out (Err (Because fault)) old new status = OnWriters Mistakes old new status
Runs out (Err Memory) old new status = OnWriters WantsMemory old new status
Runs out (Ok words) old new status = OnWriters WantsMemory old new status ⊎ (Refuses words old new status ⊎ Performs out words old new status)

-- the words that were lent, where there are some
abbrev pub texts_in : Result (Bor (List (Bor (List ℕ)))) (Fault NotText) → Result (List (List ℕ)) (Fault NotText)
texts_in (Ok words) = Ok (map (λ word. word.now) words.now)
texts_in (Err fault) = Err fault
