-- How packing a folder ends: what it leaves of its writer, for each of its results (own).
use Rattle.std.specs.Prelude.{◌≡◌, ◌⊎◌, ℕ, ◌+◌, is_some, true, List, Option, Some, None, Result, Ok, Err, ⊤, IsErrAnd, codes}
use Rattle.std.specs.Io.KnownBytes.{Appends}
use Rattle.plain.specs.declared.fault.Fault.{Fault}
use Rattle.plain.specs.declared.fault.Fault.TheVariants.{Because, Memory as Want}
use Rattle.counted.specs.Edges.{AppendsBeginning, IsUnwritten, line_of}
use Rattle.counted.specs.declared.fault.Device.{Device as DeviceReason}
use Rattle.trees.specs.TreeMap.{TreeMap}
use Rattle.ignorefile.specs.declared.line.Line.{Line}
use Rattle.serde_json.specs.Read.{read}
use Rattle.packing.specs.Images.{ImageRow, are_images, names_of}
use Rattle.packing.specs.Leaving.{AreApplied, Gathers, HasIgnore, keeping_of}
use Rattle.packing.specs.Packed.{Asked, IsPlain, bundle_of, given_with, packed_of}
use Rattle.packing.specs.declared.fault.PackFault.{PackFault}
use Rattle.packing.specs.declared.fault.PackFault.TheVariants.{Memory, Device, Ended}
use Rattle.answering.specs.declared.status.Status.{Status}
use Rattle.answering.specs.declared.status.Status.TheVariants.{Built, Failed, Refused}

-- what a fault of writing means
abbrev pub of_edge : Fault DeviceReason → PackFault
of_edge (Because device) = Device
of_edge Want = Memory

-- what is said of a fault
abbrev pub fault_text : PackFault → List ℕ
fault_text Memory = codes "out of memory"
fault_text Device = codes "device failed"
fault_text Ended = codes "cannot pack"

-- a fault that isn't the writer's
abbrev pub IsBefore : PackFault → Type 0
IsBefore Memory = ⊤
IsBefore Device = ⊥
IsBefore Ended = ⊤

-- packing builds a bundle or is refused, and no instruction fails in it
abbrev pub IsPacking : Result Status PackFault → Type 0
IsPacking (Ok Built) = ⊤
IsPacking (Ok Failed) = ⊥
IsPacking (Ok Refused) = ⊤
IsPacking (Err fault) = ⊤

-- What was found for what is asked, of a folder of the machine, of which nothing is known: its tree, of plain files and directories; the Dockerfile
-- that is named, if one is; images of the names that are asked for, each of which a bundle takes; and the ignore file that counts, which stands in
-- the tree: the Dockerfile's own, or, if it is to be applied, the folder's. By its lines, if it is to be applied, the tree has what is kept.
pub record Finding (asked : Asked) : Type 0 where
  pub tree : TreeMap
  pub file : Option (List ℕ)
  pub images : List ImageRow
  pub ignore : Option (List ℕ)
  pub lines : List Line
  pub plain : IsPlain tree
  pub has_file : is_some file ≡ asked.has_file
  pub names : names_of images ≡ asked.images
  pub are_images : are_images images ≡ true
  pub has_ignore : HasIgnore ignore tree
  pub applied : AreApplied asked.apply_ignore ignore lines
  pub gathers : Gathers (keeping_of asked lines) tree

-- a text is that of the bundle of what was found, and is read as that bundle's data
pub record IsBundle (asked : Asked) (text : List ℕ) : Type 0 where
  pub found : Finding asked
  pub is : packed_of found.tree found.file (given_with asked found.images) ≡ Some text
  pub reads : read text ≡ bundle_of found.tree found.file (given_with asked found.images)

-- What packing a folder gives: the text of the bundle of what was found; or none, where no Dockerfile was found; or a fault, where the folder, the
-- Dockerfile that is named or an image couldn't be read whole, or for want of memory.
abbrev pub PacksText : Asked → Result (Option (List ℕ)) PackFault → Type 0
PacksText asked (Ok None) = ⊤
PacksText asked (Ok (Some text)) = IsBundle asked text
PacksText asked (Err fault) = IsBefore fault

-- How writing a bundle's text ends, with the LF that ends it, by what its writer has written and how many of its calls failed: it was written; or
-- nothing was, for want of memory; or a write failed after a beginning.
abbrev pub Writes : List ℕ → Option (List ℕ) → ℕ → Option (List ℕ) → ℕ → Result Status PackFault → Type 0
Writes text old failed new failed_then (Ok Built) = Appends old new (line_of text) × (failed_then ≡ failed)
Writes text old failed new failed_then (Ok Failed) = ⊥
Writes text old failed new failed_then (Ok Refused) = ⊥
Writes text old failed new failed_then (Err Memory) = IsUnwritten old failed new failed_then
Writes text old failed new failed_then (Err Ended) = ⊥
Writes text old failed new failed_then (Err Device) = AppendsBeginning old new (line_of text) × (failed_then ≡ failed + 1)

-- what was found for what is asked was packed, and its bundle written
pub record PacksFound (asked : Asked) (old : Option (List ℕ)) (failed : ℕ) (new : Option (List ℕ)) (failed_then : ℕ) (result : Result Status PackFault) : Type 0 where
  pub text : List ℕ
  pub is : IsBundle asked text
  pub writes : Writes text old failed new failed_then result

-- How packing a folder of the machine ends: the bundle of what was found in it was written; or no Dockerfile was found, and it is refused; or it
-- couldn't be packed whole, or not for want of memory. In both of these nothing was written.
abbrev pub PacksFolder : Asked → Option (List ℕ) → ℕ → Option (List ℕ) → ℕ → Result Status PackFault → Type 0
PacksFolder asked old failed new failed_then result =
    (IsErrAnd result IsBefore × IsUnwritten old failed new failed_then)
    ⊎ (((result ≡ Ok Refused) × IsUnwritten old failed new failed_then) ⊎ PacksFound asked old failed new failed_then result)
