-- Lines beside an operation: members but that of a key, and what was put in at the key.
use Rattle.std.proofs.Common.{◌≡◌, ◌≤◌, ◌<◌, ◌+◌, ℕ, Bool, true, false, List, [], ◌∷◌, map, Option, Some, None, String, Global, Ordering, Less, Equal, Greater, string_bytes, nat_cmp, is_eq, cond, length, drop, refl, ap, sym, ◌∙◌, true≢false, arith}
use Rattle.std.specs.Prelude.{if◌then◌else◌, ◌&&◌, codes, nat_lt, nat_le, slice_index_or, suc, zero, is_some}
use Rattle.std.specs.Option.{option_and_then, unwrap_or}
use Rattle.std.specs.Ordering.{match_ordering}
use Rattle.std.specs.Cmp.Lexicographic.{slice_cmp}
use Rattle.std.specs.Map.{remove_entry}
use Rattle.std.specs.BTreeMap.{is_at}
use Rattle.std.proofs.lemmas.Bool.{lt-ltb, le-leb, ltb-true, leb-true, or_parts, or_from}
use Rattle.std.proofs.lemmas.Cmp.{nat_list_cmp_total, tied_itself}
use Rattle.serde_json.specs.Data.{Data, null, boolean, number, string, array, object, Members, no_members, member, put, depth, items_depth, members_depth}
use Rattle.serde_json.specs.Find.{get, get_member}
use Rattle.serde_json.specs.View.{view, items_of, members_view}
use Rattle.serde_json.specs.Written.{has_float, items_have_float, members_have_float}
use Rattle.serde_json.specs.declared.value.Value.{Value}
use Rattle.serde_json.proofs.Views.{get_member-put}
use Rattle.paths.proofs.FrontLaws.{both_hold, both_first, both_second}
use Rattle.plain.specs.Limits.{most_line_number}
use Rattle.llb.specs.Places.{AscendFrom, AreLines}
use Rattle.llb.specs.declared.op.Op.{Op}
use Rattle.llb.specs.declared.op.Op.TheVariants.{Source as SourceOp, Exec as ExecOp, Copy as CopyOp, MakeDirs as MakeDirsOp, Merge as MergeOp}
use Rattle.operations.specs.Texts.{op_data, source_data, exec_data, copy_data, mkdir_data, merge_data}
use Rattle.strict.specs.Strict.{list_in, all_in, short_number_in}
use Rattle.strict.specs.Written.{list_data}
use Rattle.definition.specs.Lines.{ascend, as_lines, lines_in, without, line_data, lined, lined_all, apart, operation_in}

abbrev pub Entry : Type 0
Entry = String Global × Value

-- ---- members but that of a key

without-at : (o : Ordering) (e : Entry) (es rest : List Entry) (w : Members) → members_view rest ≡ w
    → members_view (cond (is_eq o) es (e ∷ rest)) ≡ match_ordering o (member (string_bytes e.0) (view e.1) w) (members_view es) (member (string_bytes e.0) (view e.1) w)
without-at Less e es rest w h = ap (λ (ms : Members). member (string_bytes e.0) (view e.1) ms) h
without-at Equal e es rest w h = refl
without-at Greater e es rest w h = ap (λ (ms : Members). member (string_bytes e.0) (view e.1) ms) h

pub without-entry : (name : List ℕ) (es : List Entry) → members_view (remove_entry (is_at (λ k. slice_cmp nat_cmp name (string_bytes k))) es) ≡ without name (members_view es)
without-entry name [] = refl
without-entry name (e ∷ es) = without-at (slice_cmp nat_cmp name (string_bytes e.0)) e es _ _ (without-entry name es)

-- ---- lines that ascend

pub ascend-are : (low : ℕ) (lines : List ℕ) → ascend low lines ≡ true → AscendFrom low lines
ascend-are low [] h = tt
ascend-are low (line ∷ lines) h =
    let rest = both_second (nat_lt low line) (nat_le line most_line_number && ascend line lines) h in (
      ltb-true low line (both_first (nat_lt low line) (nat_le line most_line_number && ascend line lines) h),
      (leb-true line most_line_number (both_first (nat_le line most_line_number) (ascend line lines) rest), ascend-are line lines (both_second (nat_le line most_line_number) (ascend line lines) rest)),
    )

pub are-ascend : (low : ℕ) (lines : List ℕ) → AscendFrom low lines → ascend low lines ≡ true
are-ascend low [] h = refl
are-ascend low (line ∷ lines) h = both_hold (nat_lt low line) _ (lt-ltb low line h.0) (both_hold (nat_le line most_line_number) _ (le-leb line most_line_number h.1.0) (are-ascend line lines h.1.1))

none_some : {A : Type 0} (x : A) → None ≡ Some x → ⊥
none_some x e = true≢false (sym (ap is_some e))

some_same : {A : Type 0} (x y : A) → Some x ≡ Some y → x ≡ y
some_same x y e = ap (λ o. unwrap_or o x) e

as_lines-are : (numbers lines : List ℕ) → as_lines numbers ≡ Some lines → AreLines lines
as_lines-are numbers lines e = by (ascend 0 numbers) refl e
  where
    by : (b : Bool) → ascend 0 numbers ≡ b → (if b then Some numbers else None) ≡ Some lines → AreLines lines
    by true t e = let same : numbers ≡ lines = some_same numbers lines e in ascend-are 0 lines ((λ i. ascend 0 (sym same i)) ∙ t)
    by false t e = absurd (none_some lines e)

and_then-are : (o : Option (List ℕ)) (lines : List ℕ) → option_and_then as_lines o ≡ Some lines → AreLines lines
and_then-are None lines e = absurd (none_some lines e)
and_then-are (Some numbers) lines e = as_lines-are numbers lines e

-- the lines that an operation says are lines
pub lines-are : (d : Data) (lines : List ℕ) → lines_in d ≡ Some lines → AreLines lines
unfolding lines_in
lines-are d lines e = and_then-are (option_and_then (list_in short_number_in) (get (codes "places") d)) lines e

-- ---- what was put in is found

line-in : (n : ℕ) → n ≤ most_line_number → short_number_in (line_data n) ≡ Some n
unfolding short_number_in
line-in n h = let low : n < 4294967296 = omega arith in ap (λ (b : Bool). if b then Some n else None) (lt-ltb n 4294967296 low)

all-lines-in : (low : ℕ) (lines : List ℕ) → AscendFrom low lines → all_in short_number_in (items_of (map line_data lines)) ≡ Some lines
all-lines-in low [] h = refl
all-lines-in low (n ∷ ns) h = rw (line-in n h.1.0, all-lines-in n ns h.1.1) refl

listed-in : (lines : List ℕ) → AreLines lines → list_in short_number_in (list_data line_data lines) ≡ Some lines
unfolding list_in
listed-in lines h = all-lines-in 0 lines h

pub lines-lined : (lines : List ℕ) (ms : Members) → AreLines lines → lines_in (lined lines (object ms)) ≡ Some lines
unfolding lines_in
lines-lined lines ms h =
    ap (λ (o : Option Data). option_and_then as_lines (option_and_then (list_in short_number_in) o)) (get_member-put (codes "places") (list_data line_data lines) ms)
    ∙ ap (λ (o : Option (List ℕ)). option_and_then as_lines o) (listed-in lines h)
    ∙ ap (λ (b : Bool). if b then Some lines else None) (are-ascend 0 lines h)

-- ---- and so is the operation

same_key : (k : List ℕ) → slice_cmp nat_cmp k k ≡ Equal
same_key k = tied_itself nat_list_cmp_total k

without-put-at : (o : Ordering) (k l : List ℕ) (d e : Data) (ms : Members) → slice_cmp nat_cmp k l ≡ o → match_ordering o (get_member k ms) (Some e) (get_member k ms) ≡ None
    → (get_member k ms ≡ None → without k (put k d ms) ≡ ms)
    → without k (match_ordering o (member k d (member l e ms)) (member l d ms) (member l e (put k d ms))) ≡ member l e ms
without-put-at Less k l d e ms is h later = ap (λ o. match_ordering o (member k d (without k (member l e ms))) (member l e ms) (member k d (without k (member l e ms)))) (same_key k)
without-put-at Equal k l d e ms is h later = absurd (cc)
without-put-at Greater k l d e ms is h later =
    ap (λ o. match_ordering o (member l e (without k (put k d ms))) (put k d ms) (member l e (without k (put k d ms)))) is ∙ ap (λ (more : Members). member l e more) (later h)

-- what was put at a key that wasn't there is taken out again
pub without-put : (k : List ℕ) (d : Data) (ms : Members) → get_member k ms ≡ None → without k (put k d ms) ≡ ms
without-put k d no_members h = ap (λ o. match_ordering o (member k d no_members) no_members (member k d no_members)) (same_key k)
without-put k d (member l e ms) h = without-put-at (slice_cmp nat_cmp k l) k l d e ms refl h (without-put k d ms)

object-back : (lines : List ℕ) (ms : Members) → AreLines lines → get_member (codes "places") ms ≡ None → operation_in true (lined lines (object ms)) ≡ (object ms, lines)
object-back lines ms are none =
    ap (λ (o : Option (List ℕ)). apart o (lined lines (object ms))) (lines-lined lines ms are)
    ∙ ap (λ (more : Members). (object more, lines)) (without-put (codes "places") (list_data line_data lines) ms none)

-- an operation that was written with its lines is read with them
pub operation-back : (inputs : List (List ℕ)) (op : Op) (lines : List ℕ) → AreLines lines → operation_in true (lined lines (op_data inputs op)) ≡ (op_data inputs op, lines)
unfolding source_data exec_data copy_data mkdir_data merge_data
operation-back inputs (SourceOp source) lines are = object-back lines _ are refl
operation-back inputs (ExecOp exec) lines are = object-back lines _ are refl
operation-back inputs (CopyOp files) lines are = object-back lines _ are refl
operation-back inputs (MakeDirsOp path) lines are = object-back lines _ are refl
operation-back inputs MergeOp lines are = object-back lines _ are refl

-- ---- no float, and no deeper

lines-plain : (lines : List ℕ) → items_have_float (items_of (map line_data lines)) ≡ false
lines-plain [] = refl
lines-plain (n ∷ ns) = lines-plain ns

plain-put-at : (o : Ordering) (k l : List ℕ) (d e : Data) (ms : Members) → has_float d ≡ false → members_have_float (member l e ms) ≡ false → members_have_float (put k d ms) ≡ false
    → members_have_float (match_ordering o (member k d (member l e ms)) (member l d ms) (member l e (put k d ms))) ≡ false
plain-put-at Less k l d e ms plain all rest = or_from (has_float d) _ plain all
plain-put-at Equal k l d e ms plain all rest = or_from (has_float d) _ plain (or_parts (has_float e) (members_have_float ms) all).1
plain-put-at Greater k l d e ms plain all rest = or_from (has_float e) _ (or_parts (has_float e) (members_have_float ms) all).0 rest

plain-put : (k : List ℕ) (d : Data) (ms : Members) → has_float d ≡ false → members_have_float ms ≡ false → members_have_float (put k d ms) ≡ false
plain-put k d no_members plain all = or_from (has_float d) false plain refl
plain-put k d (member l e ms) plain all =
    plain-put-at (slice_cmp nat_cmp k l) k l d e ms plain all (plain-put k d ms plain (or_parts (has_float e) (members_have_float ms) all).1)

pub lined-plain : (lines : List ℕ) (d : Data) → has_float d ≡ false → has_float (lined lines d) ≡ false
lined-plain lines null h = refl
lined-plain lines (boolean b) h = refl
lined-plain lines (number n) h = h
lined-plain lines (string s) h = refl
lined-plain lines (array ds) h = h
lined-plain lines (object ms) h = plain-put (codes "places") (list_data line_data lines) ms (lines-plain lines) h

lines-depth : (lines : List ℕ) → items_depth (items_of (map line_data lines)) ≤ 0
lines-depth [] = omega arith
lines-depth (n ∷ ns) = let rest = lines-depth ns in omega arith

depth-put-at : (o : Ordering) (n : ℕ) (k l : List ℕ) (d e : Data) (ms : Members) → depth d ≤ n → members_depth (member l e ms) ≤ n → members_depth (put k d ms) ≤ n
    → members_depth (match_ordering o (member k d (member l e ms)) (member l d ms) (member l e (put k d ms))) ≤ n
depth-put-at Less n k l d e ms low all rest = omega arith
depth-put-at Equal n k l d e ms low all rest = omega arith
depth-put-at Greater n k l d e ms low all rest = omega arith

depth-put : (n : ℕ) (k : List ℕ) (d : Data) (ms : Members) → depth d ≤ n → members_depth ms ≤ n → members_depth (put k d ms) ≤ n
depth-put n k d no_members low all = omega arith
depth-put n k d (member l e ms) low all =
    let rest : members_depth ms ≤ n = omega arith in
    depth-put-at (slice_cmp nat_cmp k l) n k l d e ms low all (depth-put n k d ms low rest)

pub lined-depth : (lines : List ℕ) (d : Data) → depth d ≤ 3 → depth (lined lines d) ≤ 3
lined-depth lines null h = h
lined-depth lines (boolean b) h = h
lined-depth lines (number n) h = h
lined-depth lines (string s) h = h
lined-depth lines (array ds) h = h
lined-depth lines (object ms) h =
    let low : items_depth (items_of (map line_data lines)) ≤ 0 = lines-depth lines in
    let inside : members_depth ms ≤ 2 = omega arith in
    let here : depth (list_data line_data lines) ≤ 2 = omega arith in
    let all = depth-put 2 (codes "places") (list_data line_data lines) ms here inside in
    omega arith

-- ---- the lines of all

lined_all-after : (places : List (List ℕ)) (n : ℕ) (d : Data) (ds : List Data) → lined_all (drop n places) (d ∷ ds) ≡ lined (slice_index_or places n []) d ∷ lined_all (drop (suc n) places) ds
lined_all-after [] zero d ds = refl
lined_all-after [] (suc n) d ds = refl
lined_all-after (lines ∷ places) zero d ds = refl
lined_all-after (lines ∷ places) (suc n) d ds = lined_all-after places n d ds

pub lined_all-next : (places : List (List ℕ)) (n : ℕ) (d : Data) (ds : List Data) → lined_all (drop n places) (d ∷ ds) ≡ lined (slice_index_or places n []) d ∷ lined_all (drop (n + 1) places) ds
lined_all-next places n d ds = let next : suc n ≡ n + 1 = omega arith in lined_all-after places n d ds ∙ (λ i. lined (slice_index_or places n []) d ∷ lined_all (drop (next i) places) ds)

pub lined_all-length : (places : List (List ℕ)) (ds : List Data) → length (lined_all places ds) ≡ length ds
lined_all-length places [] = refl
lined_all-length [] (d ∷ ds) = ap suc (lined_all-length [] ds)
lined_all-length (lines ∷ places) (d ∷ ds) = ap suc (lined_all-length places ds)
