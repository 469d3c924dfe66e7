-- How packing ends.
use Rattle.std.proofs.Common.{◌≡◌, ℕ, List, [], ◌∷◌, ◌++◌, Option, Some, Result, Ok, Err, IsErrAnd, refl, sym, ap, subst, inl, inr}
use Rattle.plain.specs.declared.fault.Fault.{Fault}
use Rattle.plain.specs.declared.fault.Fault.TheVariants.{Because, Memory as Want}
use Rattle.counted.specs.Edges.{AppendsBeginning, CountsFault, IsDevice}
use Rattle.counted.specs.declared.fault.Device.{Device as DeviceReason}
use Rattle.serde_json.specs.Read.{read}
use Rattle.packing.specs.Packed.{Asked, bundle_of, given_with, packed_of}
use Rattle.packing.specs.PrivateFound.{IsFound}
use Rattle.packing.specs.PrivateImages.{image_rows}
use Rattle.packing.specs.declared.fault.PackFault.{PackFault}
use Rattle.answering.specs.declared.status.Status.{Status}
use Rattle.answering.specs.declared.status.Status.TheVariants.{Built, Failed, Refused}
use Rattle.packing.specs.declared.finding.Found.{Found}
use Rattle.packing.specs.Ends.{IsBefore, IsBundle, IsPacking, PacksFolder, Writes, of_edge}

-- a fault before anything is written
pub unwritten : (written : Option (List ℕ)) (failed : ℕ) (fault : PackFault) → IsBefore fault → (asked : Asked) → PacksFolder asked written failed written failed (Err fault)
unwritten written failed fault before asked = inl (before, (refl, refl))

-- what was found was packed
pub packed_found : (asked : Asked) (text : List ℕ) (old : Option (List ℕ)) (failed : ℕ) (new : Option (List ℕ)) (failed_then : ℕ) (result : Result Status PackFault)
    → IsBundle asked text → Writes text old failed new failed_then result → PacksFolder asked old failed new failed_then result
packed_found asked text old failed new failed_then result is writes = inr (inr (record { text = text; is = is; writes = writes }))

-- a bundle is written or not, and no build fails
pub writes_only : (text : List ℕ) (old : Option (List ℕ)) (failed : ℕ) (new : Option (List ℕ)) (failed_then : ℕ) (result : Result Status PackFault)
    → Writes text old failed new failed_then result → IsPacking result
writes_only text old failed new failed_then (Ok Built) writes = tt
writes_only text old failed new failed_then (Ok Failed) writes = absurd writes
writes_only text old failed new failed_then (Ok Refused) writes = absurd writes
writes_only text old failed new failed_then (Err fault) writes = tt

-- there was no Dockerfile
pub none_found : (asked : Asked) (written : Option (List ℕ)) (failed : ℕ) → PacksFolder asked written failed written failed (Ok Refused)
none_found asked written failed = inr (inl (refl, (refl, refl)))

-- a beginning of it was written
pub written_in_part : (text line : List ℕ) (old : Option (List ℕ)) (failed : ℕ) (new : Option (List ℕ)) (failed_then : ℕ) (edge : Fault DeviceReason)
    → line ≡ text ++ 10 ∷ [] → AppendsBeginning old new line → IsDevice edge → CountsFault {T = Unit {0}} failed failed_then (Err edge)
    → Writes text old failed new failed_then (Err (of_edge edge))
written_in_part text line old failed new failed_then (Because device) ends written fails count = (subst (AppendsBeginning old new) ends written, count)
written_in_part text line old failed new failed_then Want ends written fails count = absurd fails

-- a result that is this fault
pub failed_as : (result : Result Status PackFault) (fault : PackFault) → IsErrAnd result (λ found. found ≡ fault) → result ≡ Err fault
failed_as (Ok status) fault e = absurd e
failed_as (Err found) fault e = ap Err e

-- the text of what was found is its bundle
pub found_text : (asked : Asked) (found : Found) (text : List ℕ) → IsFound asked found
    → Some text ≡ packed_of found.files.folder found.files.file (given_with asked (image_rows found.images))
    → read text ≡ bundle_of found.files.folder found.files.file (given_with asked (image_rows found.images)) → IsBundle asked text
found_text asked found text is packed reads = record {
  found = record {
    tree = found.files.folder;
    file = found.files.file;
    images = image_rows found.images;
    ignore = is.context.ignore;
    lines = is.context.is.lines;
    plain = is.plain;
    has_file = is.has_file;
    names = is.names;
    are_images = is.are_images;
    has_ignore = is.context.is.has_ignore;
    applied = is.context.is.applied;
    gathers = is.context.is.gathers;
  };
  is = sym packed;
  reads = reads;
}
