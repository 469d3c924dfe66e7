-- A call was made on what was opened, or nothing was.
use Rattle.std.proofs.Common.{◌≡◌, ◌∙◌, ap, inl, inr, ℕ, List, [], Option, Some, None, Result, ap₂, sym, subst, unwrap_or}
use Rattle.answering.specs.Faults.{exit_status}
use Rattle.answering.specs.declared.status.Status.{Status}
use Rattle.build.specs.Ends.{Devices, devices}
use Rattle.command.specs.declared.task.Choice.{Choice}
use Rattle.program.specs.declared.fault.TellFault.{TellFault}
use Rattle.program.specs.declared.input.BundleFile.{BundleFile}
use Rattle.program.specs.declared.input.FolderText.{FolderText}
use Rattle.program.specs.declared.input.Input.{Input}
use Rattle.program.specs.declared.input.Input.TheVariants.{Given, File, Folder}
use Rattle.program.specs.declared.input.Packing.{Packing}
use Rattle.program.specs.PrivateInput.{IsNotOpened, IsOfFile, IsOpened, IsTextOf, failures_of}
use Rattle.program.specs.Runs.{CallsBy, SaysAfterNotes, SaysEnd, SaysFileEnd, end_text, streams}
use Rattle.program.specs.Saying.{Stream, stream}

-- how a call ends
abbrev EndsSoType : Type 1
EndsSoType = Devices → Devices → Result Status TellFault → Type 0

-- which reader was opened
pub opened_given : {T : Type 0} (place : Option (List ℕ)) (choice : Choice) (packing : Packing) (input : Input T) → IsOpened place choice packing input → input ≡ Given
    → place ≡ None
opened_given place choice packing input opened is = subst (λ i. IsOpened place choice packing i) is opened

pub opened_file : {T : Type 0} (place : Option (List ℕ)) (choice : Choice) (packing : Packing) (input : Input T) (file : BundleFile T)
    → IsOpened place choice packing input → input ≡ File file → IsOfFile place choice (failures_of file)
opened_file place choice packing input file opened is = subst (λ i. IsOpened place choice packing i) is opened

pub opened_folder : {T : Type 0} (place : Option (List ℕ)) (choice : Choice) (packing : Packing) (input : Input T) (folder : FolderText)
    → IsOpened place choice packing input → input ≡ Folder folder → ((name : List ℕ) × (place ≡ Some name)) × IsTextOf choice packing folder.text
opened_folder place choice packing input folder opened is = subst (λ i. IsOpened place choice packing i) is opened

-- on the reader
pub called_given : (place : Option (List ℕ)) (choice : Choice) (packing : Packing) (EndsSo : EndsSoType) (old new : Devices) (said mid said_then : Stream) (ended : Result Status TellFault) (status : ℕ)
    → place ≡ None → mid ≡ said → EndsSo old new ended → SaysEnd ended mid said_then → status ≡ exit_status ended
    → CallsBy place choice packing EndsSo (streams old said) (streams new said_then) status
called_given place choice packing EndsSo old new said mid said_then ended status none quiet ends says is =
    subst (λ p. CallsBy p choice packing EndsSo (streams old said) (streams new said_then) status) (sym none)
    (record { ended = ended; ends = ends; says = subst (λ s. SaysEnd ended s said_then) quiet says; is = is })

-- on a file
pub called_file : (place : Option (List ℕ)) (choice : Choice) (packing : Packing) (EndsSo : EndsSoType) (left left_then : Option (List ℕ)) (failed failed_then : ℕ)
    (old new : Devices) (said mid said_then : Stream) (ended : Result Status TellFault) (status : ℕ) (name : List ℕ)
    → IsOfFile place choice failed → name ≡ unwrap_or place [] → mid ≡ said → new.left ≡ old.left → new.failed_reads ≡ old.failed_reads
    → EndsSo (devices left failed old.written old.failed_writes) (devices left_then failed_then new.written new.failed_writes) ended
    → SaysFileEnd name ended mid said_then → status ≡ exit_status ended
    → CallsBy place choice packing EndsSo (streams old said) (streams new said_then) status
called_file place choice packing EndsSo left left_then failed failed_then old new said mid said_then ended status name of named quiet unread unfailed ends says is =
    let said_so = subst (λ n. SaysFileEnd n ended mid said_then) (named ∙ ap (λ (p : Option (List ℕ)). unwrap_or p []) of.is) says in
    subst (λ p. CallsBy p choice packing EndsSo (streams old said) (streams new said_then) status) (sym of.is) (
      record { left = unread; failed_reads = unfailed },
      inl (record {
        free = of.free;
        left = left;
        left_then = left_then;
        failed_reads = failed_then;
        ended = ended;
        ends = subst (λ n. EndsSo (devices left n old.written old.failed_writes) (devices left_then failed_then new.written new.failed_writes) ended) of.none ends;
        says = subst (λ s. SaysFileEnd of.name ended s said_then) quiet said_so;
        is = is;
      }),
    )

-- on the bundle of a folder
pub called_folder : (place : Option (List ℕ)) (choice : Choice) (packing : Packing) (EndsSo : EndsSoType) (text left : List ℕ) (left_then : Option (List ℕ))
    (old new : Devices) (said mid said_then : Stream) (ended : Result Status TellFault) (status : ℕ)
    → ((name : List ℕ) × (place ≡ Some name)) × IsTextOf choice packing text → left ≡ text → mid ≡ said → new.left ≡ old.left
    → new.failed_reads ≡ old.failed_reads
    → EndsSo (devices (Some left) 0 old.written old.failed_writes) (devices left_then 0 new.written new.failed_writes) ended
    → SaysAfterNotes (end_text ended) mid said_then → status ≡ exit_status ended
    → CallsBy place choice packing EndsSo (streams old said) (streams new said_then) status
called_folder place choice packing EndsSo text left left_then old new said mid said_then ended status opened is_text quiet unread unfailed ends says is =
    subst (λ p. CallsBy p choice packing EndsSo (streams old said) (streams new said_then) status) (sym opened.0.1) (
      record { left = unread; failed_reads = unfailed },
      inr (inl (record {
        text = text;
        packs = opened.1.packs;
        short = opened.1.short;
        left_then = left_then;
        ended = ended;
        ends = subst (λ bytes. EndsSo (devices (Some bytes) 0 old.written old.failed_writes) (devices left_then 0 new.written new.failed_writes) ended) is_text ends;
        says = subst (λ s. SaysAfterNotes (end_text ended) s said_then) quiet says;
        is = is;
      })),
    )

-- on nothing
pub called_none : (place : Option (List ℕ)) (choice : Choice) (packing : Packing) (EndsSo : EndsSoType) (old new : Devices) (said said_then : Stream) (status : ℕ)
    → new.left ≡ old.left → new.failed_reads ≡ old.failed_reads → new.written ≡ old.written → new.failed_writes ≡ old.failed_writes
    → IsNotOpened place choice packing said said_then status
    → CallsBy place choice packing EndsSo (streams old said) (streams new said_then) status
called_none None choice packing EndsSo old new said said_then status unread unfailed unwritten kept shut = absurd shut
called_none (Some name) choice packing EndsSo old new said said_then status unread unfailed unwritten kept shut =
    (record { left = unread; failed_reads = unfailed }, inr (inr (ap₂ (λ w f. stream w f) unwritten kept, shut)))
