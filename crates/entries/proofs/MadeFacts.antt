-- Entries whose rows are made in batches: what a loop keeps, and how the rows of runs are those of all.
use Rattle.std.proofs.Common.{Vec, Global, Result, Ok, Err, IfOk, OnOk, ◌≡◌, ◌+◌, ◌<◌, ◌≤◌, ℕ, Bool, true, false, List, [], ◌∷◌, ◌++◌, length, take, get_or, flat_map, Some, None, append_assoc, append-nil, refl, ap, sym, subst, ◌∙◌, arith}
use Rattle.std.proofs.lemmas.Bool.{false≢true}
use Rattle.std.specs.List.{AllZip}
use Rattle.std.proofs.lemmas.List.{take_more}
use Rattle.std.proofs.lemmas.Slice.Zip.{all_zipped_more}
use Rattle.rayon.proofs.ListFacts.{AllZip-append}
use Rattle.json.specs.Json.{after_end_array}
use Rattle.json.specs.Token.{Token}
use Rattle.json.proofs.Grammar.{left, skip_value-shorter, after_end_array-shorter}
use Rattle.serde_json.specs.Data.{Members, object}
use Rattle.plain.specs.declared.fault.Fault.{Fault}
use Rattle.strict.specs.declared.fault.NotRead.{NotRead}
use Rattle.trees.specs.Row.{Row}
use Rattle.borrowed.specs.Pulled.{IsNext}
use Rattle.borrowed.proofs.PulledFacts.{ListGoesOn, list_begins, list_goes_on}
use Rattle.entries.specs.Reading.{row_in}
use Rattle.entries.specs.PrivateKeys.{Spells, IsRowOf, AreRowsOf, AddsRows, Reads, StopsAt, ReadsBatch}
use Rattle.entries.specs.declared.spelled.Spelled.{Spelled}

-- ---- making

flat_map-push : (made : List (Vec Row Global)) (more : Vec Row Global) → flat_map (λ run. run.items) (made ++ more ∷ []) ≡ flat_map (λ run. run.items) made ++ more.items
flat_map-push [] more = append-nil more.items
flat_map-push (first ∷ made) more = ap (λ l. first.items ++ l) (flat_map-push made more) ∙ sym (append_assoc first.items (flat_map (λ run. run.items) made) more.items)

pub one_more : (spelled : List Spelled) (i : ℕ) (d : Spelled) (row : Row) (made : List Row) → i < length spelled → AreRowsOf (take i spelled) made → IsRowOf (get_or spelled i d) row
    → AreRowsOf (take (i + 1) spelled) (made ++ row ∷ [])
one_more spelled i d row made less old new =
    subst (λ (l : List Spelled). AreRowsOf l (made ++ row ∷ [])) (sym (take_more spelled i d less)) (all_zipped_more IsRowOf (take i spelled) made (get_or spelled i d) row old new)

-- the rows of a run, if it has some
abbrev pub RunHas : List Spelled → Result (Vec Row Global) (Fault NotRead) → Type 0
RunHas run made = IfOk made (λ rows. AreRowsOf run rows.items)

abbrev pub HasMade : Result (Vec Row Global) (Fault NotRead) → Vec Row Global → Type 0
HasMade run rows = run ≡ Ok rows

-- the rows of all runs are those of what was cut into runs
pub runs_made : (cut : List (List Spelled)) (runs : List (Result (Vec Row Global) (Fault NotRead))) (made : List (Vec Row Global)) → AllZip RunHas cut runs → AllZip HasMade runs made
    → AreRowsOf (flat_map (λ run. run) cut) (flat_map (λ rows. rows.items) made)
runs_made [] [] [] have are = tt
runs_made [] [] (rows ∷ made) have are = absurd are
runs_made [] (run ∷ runs) made have are = absurd have
runs_made (one ∷ cut) [] made have are = absurd have
runs_made (one ∷ cut) (run ∷ runs) [] have are = absurd are
runs_made (one ∷ cut) (run ∷ runs) (rows ∷ made) have are =
    AllZip-append IsRowOf one (flat_map (λ run. run) cut) rows.items (flat_map (λ rows. rows.items) made) (subst (RunHas one) are.0 have.0) (runs_made cut runs made have.1 are.1)

-- what holds of a call that went well, of another clause
pub ok_then : {A E : Type 0} → (r : Result A E) (P Q : Type 0) → (P → Q) → OnOk r P → OnOk r Q
ok_then (Ok x) P Q f p = f p
ok_then (Err e) P Q f p = tt

-- the rows of one run more
pub run_more : (rows : List Row) (made : List (Vec Row Global)) (more : Vec Row Global) → (rows ++ flat_map (λ run. run.items) made) ++ more.items ≡ rows ++ flat_map (λ run. run.items) (made ++ more ∷ [])
run_more rows made more = append_assoc rows (flat_map (λ run. run.items) made) more.items ∙ ap (λ l. rows ++ l) (sym (flat_map-push made more))

-- one run more was added
pub runs_more : (all so_far rest left : List (Result (Vec Row Global) (Fault NotRead))) (run : Result (Vec Row Global) (Fault NotRead)) (rows : Vec Row Global) (made : List (Vec Row Global)) (first now more : List Row)
    → all ≡ so_far ++ rest → rest ≡ run ∷ left → run ≡ Ok rows → AllZip HasMade so_far made → now ≡ first ++ flat_map (λ run. run.items) made → more ≡ now ++ rows.items
    → (before : List (Result (Vec Row Global) (Fault NotRead))) × (made : List (Vec Row Global)) × (all ≡ before ++ left) × AllZip HasMade before made × (more ≡ first ++ flat_map (λ run. run.items) made)
runs_more all so_far rest left run rows made first now more whole next is are added new = (
  so_far ++ run ∷ [],
  made ++ rows ∷ [],
  whole ∙ ap (λ l. so_far ++ l) next ∙ sym (append_assoc so_far (run ∷ []) left),
  AllZip-append HasMade so_far (run ∷ []) made (rows ∷ []) are (is, tt),
  new ∙ ap (λ l. l ++ rows.items) added ∙ run_more first made rows,
)

-- ---- reading

pub reads-length : (depth : ℕ) (first : List Token) (spelled : List Spelled) (last : List Token) → Reads depth first spelled last → length spelled + length last ≤ length first
reads-length depth first [] last reads = omega (arith, ap length reads)
reads-length depth first (one ∷ more) last reads = omega (arith, reads-length depth reads.0 more last reads.5, skip_value-shorter depth first reads.0 (ap left reads.3.1))

-- an entry more is read
pub reads_more : (depth : ℕ) (first : List Token) (spelled : List Spelled) (now last : List Token) (one : Spelled) (found : Members) → Reads depth first spelled now → after_end_array now ≡ None → IsNext depth now last (object found)
    → Spells one found → Reads depth first (spelled ++ one ∷ []) last
reads_more depth first [] now last one found reads going next spells = subst (λ tokens. Reads depth tokens (one ∷ []) last) (sym reads) (last, found, going, next, spells, refl)
reads_more depth first (head ∷ spelled) now last one found reads going next spells =
    (reads.0, reads.1, reads.2, reads.3, reads.4, reads_more depth reads.0 spelled now last one found reads.5 going next spells)

-- a batch is full, and the list goes on behind it
pub full_batch : (depth : ℕ) (first now last : List Token) (spelled : List Spelled) → Reads depth first spelled now → now ≡ last → 0 < length spelled → ReadsBatch depth first last spelled true
full_batch depth first now last spelled reads same some = (now, reads, same, omega (arith, reads-length depth first spelled now reads, ap length same))

-- a list ends with a batch
pub last_batch : (depth : ℕ) (first now last : List Token) (spelled : List Spelled) → Reads depth first spelled now → after_end_array now ≡ Some last → ReadsBatch depth first last spelled false
last_batch depth first now last spelled reads over = (now, reads, over, omega (arith, reads-length depth first spelled now reads, after_end_array-shorter now last over))

-- a list began, and of its items so far some are rows and others wait: whatever rows these get, the list goes on behind them all
abbrev pub Waits : ℕ → List Token → List Token → List Row → List Spelled → Type 0
Waits depth first now rows waiting = (made : List Row) → AreRowsOf waiting made → ListGoesOn depth row_in first now (rows ++ made)

-- what was read behind rows waits
pub all_wait : (depth : ℕ) (first now last : List Token) (rows : List Row) (spelled : List Spelled) → ListGoesOn depth row_in first now rows → Reads depth now spelled last → Waits depth first last rows spelled
all_wait depth first now last rows [] goes reads [] are =
    subst (λ (l : List Row). ListGoesOn depth row_in first last l) (sym (append-nil rows)) (subst (λ (tokens : List Token). ListGoesOn depth row_in first tokens rows) reads goes)
all_wait depth first now last rows [] goes reads (row ∷ made) are = absurd are
all_wait depth first now last rows (one ∷ more) goes reads [] are = absurd are
all_wait depth first now last rows (one ∷ more) goes reads (row ∷ made) are =
    let next = list_goes_on depth row_in first now reads.0 row rows goes reads.2 (object reads.1, reads.3, are.0 reads.1 reads.4) in
    subst (λ (l : List Row). ListGoesOn depth row_in first last l) (append_assoc rows (row ∷ []) made) (all_wait depth first reads.0 last (rows ++ row ∷ []) more next reads.5 made are.1)

-- some items are rows, others wait, and behind these the list goes on or has ended
abbrev pub WaitsAt : ℕ → List Token → List Token → List Row → List Spelled → Bool → Type 0
WaitsAt depth first now rows waiting more = (last : List Token) × Waits depth first last rows waiting × StopsAt last now more

pub first_waits : (depth : ℕ) (first now : List Token) (rows : List Row) (read : List Spelled) (more : Bool) → rows ≡ [] → ReadsBatch depth first now read more → WaitsAt depth first now rows read more
first_waits depth first now rows read more none batch =
    (batch.0, all_wait depth first first batch.0 rows read (subst (λ (l : List Row). ListGoesOn depth row_in first first l) (sym none) (list_begins depth row_in first)) batch.1, batch.2)

-- all that waited got rows
pub all_made : (depth : ℕ) (first last : List Token) (rows all : List Row) (waiting : List Spelled) → Waits depth first last rows waiting → AddsRows waiting rows all → ListGoesOn depth row_in first last all
all_made depth first last rows all waiting waits added = subst (λ (l : List Row). ListGoesOn depth row_in first last l) (sym added.1) (waits added.0 added.2)

-- all that waited got rows, and what was read meanwhile waits
pub next_waits : (depth : ℕ) (first now left : List Token) (rows all : List Row) (waiting read : List Spelled) (going more : Bool) → going ≡ true → WaitsAt depth first now rows waiting going → AddsRows waiting rows all
    → ReadsBatch depth now left read more → WaitsAt depth first left all read more
next_waits depth first now left rows all waiting read true more is at added batch =
    let goes = subst (λ (tokens : List Token). ListGoesOn depth row_in first tokens all) at.2 (all_made depth first at.0 rows all waiting at.1 added) in
    (batch.0, all_wait depth first now batch.0 all read goes batch.1, batch.2)
next_waits depth first now left rows all waiting read false more is at added batch = absurd (false≢true is)

-- the list has ended
pub ended : (depth : ℕ) (first now : List Token) (rows : List Row) (waiting : List Spelled) (more : Bool) → more ≡ false → WaitsAt depth first now rows waiting more
    → (last : List Token) × Waits depth first last rows waiting × (after_end_array last ≡ Some now)
ended depth first now rows waiting true is at = absurd (false≢true (sym is))
ended depth first now rows waiting false is at = at
