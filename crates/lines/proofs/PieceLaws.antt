-- The loop over the lines of a piece: what is known of the bytes before one of them, and where the next LF stands, say what is known after it.
use Rattle.std.specs.Prelude.{◌≡◌, ◌<◌, ◌≤◌, ℕ, suc, ◌+◌, ◌-◌, ◌==◌, Bool, true, false, List, [], ◌∷◌, ◌++◌, Option, Some, None, length, take, drop, bytes_eq, if◌then◌else◌, IsUtf8}
use Rattle.std.specs.List.{onto_first}
use Rattle.std.specs.Str.Lines.{lines, strip_carriage_return}
use Rattle.std.proofs.Common.{cond, ◌∙◌, sym, ap, ap₂, subst, inl, inr, append_assoc, arith, get_or}
use Rattle.std.proofs.Math.Seq.{take-append_seam, drop-append_seam, drop-cons}
use Rattle.std.proofs.lemmas.List.{length-append, length-map, length-drop, length-take-le, drop-drop, take-append-drop, take_all}
use Rattle.std.proofs.lemmas.List.Elements.{All-append}
use Rattle.plain.specs.declared.refusal.Refusal.{Refusal}
use Rattle.lines.specs.Faults.{IsLeast}
use Rattle.lines.specs.PrivateRead.{IsReadFrom, IsNextLf, IsAt, StopsAt}
use Rattle.lines.specs.PrivateScan.{state_at, block_lines, below, marks_in, Settles, Stops, IsAtRest}
use Rattle.lines.specs.PrivateSteps.{read_line, after_lines}
use Rattle.lines.specs.Ready.{IsWhole, empty, ended, HasNoLf}
use Rattle.lines.specs.Text.{without_byte_order_mark}
use Rattle.lines.specs.declared.line.Line.{Line}
use Rattle.lines.specs.declared.line.Mark.{Mark}
use Rattle.lines.specs.declared.scan.Progress.{Progress}
use Rattle.lines.specs.declared.scan.Scan.{Scan}
use Rattle.lines.specs.declared.scan.Stop.{Stop}
use Rattle.lines.specs.declared.scan.Stop.TheVariants.{NoMemory, Refused}
use Rattle.lines.specs.declared.state.FileState.{FileState}
use Rattle.lines.proofs.ReadLaws.{not_empty, not_empty_below, whole_append, block_read, step_moved, step_stayed}
use Rattle.lines.proofs.StepLaws.{read_line-count}
use Rattle.lines.proofs.Utf8Lemmas.{utf8_above, utf8_below, utf8_line}
use Rattle.lines.proofs.WholeLemmas.{parts, lines_whole, unmarked_whole, whole_more}

no_lf : HasNoLf []
no_lf = λ k d l. absurd (omega arith)

-- the bytes before one of them

module _ (from : FileState) (begins : Bool) (kept : List Mark) (scan : Scan) (bytes : List ℕ) (at end : ℕ) (a : IsAt from begins kept scan bytes at end) where
  above_is : bytes ≡ (a.front ++ (a.own ++ a.line)) ++ a.rest
  above_is = a.cut ∙ ap (λ (x : List ℕ). a.front ++ x) (sym (append_assoc a.own a.line a.rest)) ∙ sym (append_assoc a.front (a.own ++ a.line) a.rest)

  long : length (a.front ++ (a.own ++ a.line)) ≡ end
  long =
      let t = a.taken in
      let k = a.looked in
      omega (arith, length-append a.front (a.own ++ a.line), length-append a.own a.line)

  rest_is : a.rest ≡ drop end bytes
  rest_is = sym (ap (λ n. drop n bytes) (sym long) ∙ ap (drop (length (a.front ++ (a.own ++ a.line)))) above_is ∙ drop-append_seam (a.front ++ (a.own ++ a.line)) a.rest)

  -- bytes after it without an LF are more of its line
  at_more : (next : ℕ) → end ≤ next → next ≤ length bytes → HasNoLf (take (next - end) (drop end bytes)) → IsAt from begins kept scan bytes at next
  at_more next l m plain =
      let k = a.looked in
      let more = take (next - end) (drop end bytes) in
      let far : end + (next - end) ≡ next = omega arith in
      let two : more ++ drop next bytes ≡ drop end bytes =
      ap (λ (x : List ℕ). more ++ x) (sym (drop-drop (next - end) end bytes ∙ ap (λ n. drop n bytes) far)) ∙ take-append-drop (next - end) (drop end bytes) in
      record {
        front = a.front;
        own = a.own;
        line = a.line ++ more;
        rest = drop next bytes;
        cut = a.cut ∙ ap (λ (x : List ℕ). a.front ++ (a.own ++ (a.line ++ x))) (rest_is ∙ sym two)
            ∙ ap (λ (x : List ℕ). a.front ++ (a.own ++ x)) (sym (append_assoc a.line more (drop next bytes)));
        start = a.start;
        taken = a.taken;
        looked = omega (arith, length-append a.line more, length-take-le (next - end) (drop end bytes) (omega (arith, length-drop end bytes)));
        plain = All-append (λ b. (b == 10) ≡ false) a.line more a.plain plain;
        read = a.read;
      }

  pub at_lf : (next : ℕ) → IsNextLf bytes end (Some next) → IsAt from begins kept scan bytes at next
  at_lf next h = let low = h.1 in at_more next h.0 (omega arith) h.3

  pub at_end : end ≤ length bytes → HasNoLf (drop end bytes) → IsAt from begins kept scan bytes at (length bytes)
  at_end l plain =
      let all : take (length bytes - end) (drop end bytes) ≡ drop end bytes = take_all (length bytes - end) (drop end bytes) (omega (arith, length-drop end bytes)) in
      at_more (length bytes) l (omega arith) (subst HasNoLf (sym all) plain)

-- an LF ends the line before it
module _ (from : FileState) (begins : Bool) (kept : List Mark) (scan : Scan) (bytes : List ℕ) (at end : ℕ) (a : IsAt from begins kept scan bytes at end) (l : end < length bytes) where
  abbrev pub behind : List ℕ
  behind = drop (end + 1) bytes

  cut_more : bytes ≡ a.front ++ (a.own ++ ((a.line ++ get_or bytes end 0 ∷ []) ++ behind))
  cut_more =
      let e : suc end ≡ end + 1 = omega arith in
      a.cut ∙ ap (λ (x : List ℕ). a.front ++ (a.own ++ (a.line ++ x))) (rest_is from begins kept scan bytes at end a ∙ drop-cons bytes end 0 l ∙ ap (λ n. get_or bytes end 0 ∷ drop n bytes) e)
      ∙ ap (λ (x : List ℕ). a.front ++ (a.own ++ x)) (sym (append_assoc a.line (get_or bytes end 0 ∷ []) behind))

  module _ (e : get_or bytes end 0 ≡ 10) where
    abbrev pub block : List ℕ
    block = a.own ++ (a.line ++ 10 ∷ [])

    pub cut_behind : bytes ≡ a.front ++ (block ++ behind)
    cut_behind =
        cut_more ∙ ap (λ c. a.front ++ (a.own ++ ((a.line ++ c ∷ []) ++ behind))) e
        ∙ ap (λ (x : List ℕ). a.front ++ x) (sym (append_assoc a.own (a.line ++ 10 ∷ []) behind))

    size : length block ≡ end + 1 - scan.start
    size =
        let s = a.start in
        let t = a.taken in
        let k = a.looked in
        omega (arith, length-append a.own (a.line ++ 10 ∷ []), length-append a.line (10 ∷ []))

    pub block_is : take (end + 1 - scan.start) (drop scan.start bytes) ≡ block
    block_is =
        ap₂ (λ n k. take n (drop k bytes)) (sym size) (sym a.start)
        ∙ ap (λ (x : List ℕ). take (length block) x) (ap (drop (length a.front)) cut_behind ∙ drop-append_seam a.front (block ++ behind))
        ∙ take-append_seam block behind

    pub line_is : take (end - at) (drop at bytes) ≡ a.line
    line_is =
        let t = a.taken in
        let k = a.looked in
        let n : end - at ≡ length a.line = omega arith in
        let m : length (a.front ++ a.own) ≡ at = omega (arith, length-append a.front a.own) in
        ap₂ (λ i j. take i (drop j bytes)) n (sym m)
        ∙ ap (λ (x : List ℕ). take (length a.line) x) (ap (drop (length (a.front ++ a.own))) (a.cut ∙ sym (append_assoc a.front a.own (a.line ++ a.rest))) ∙ drop-append_seam (a.front ++ a.own) (a.line ++ a.rest))
        ∙ take-append_seam a.line a.rest

    pub block_utf8 : IsUtf8 bytes → IsUtf8 block
    block_utf8 u = utf8_above block behind (whole_more a.own a.line) (utf8_below a.front (block ++ behind) a.read.above (subst IsUtf8 cut_behind u))

    pub line_utf8 : IsUtf8 bytes → IsUtf8 a.line
    line_utf8 u = utf8_line a.line (utf8_below a.own (a.line ++ 10 ∷ []) a.read.whole (block_utf8 u))

    pub block_fits : scan.start + length block ≤ length bytes
    block_fits = let s = a.start in omega (arith, ap length cut_behind, length-append a.front (block ++ behind), length-append block behind)

    abbrev pub state : FileState
    state = after_lines (state_at scan.progress.place scan.progress.room) (block_lines scan.progress.is_first block)

    pub at_next : (next : Scan) → Settles kept scan state (length block) next → IsAt from begins kept next bytes (end + 1) (end + 1)
    at_next next (inl m) =
        let s = a.start in
        let t = a.taken in
        let k = a.looked in
        let o = length-append a.own (a.line ++ 10 ∷ []) in
        let p = length-append a.line (10 ∷ []) in
        let q = length-append a.front block in
        record {
          front = a.front ++ block;
          own = [];
          line = [];
          rest = behind;
          cut = cut_behind ∙ sym (append_assoc a.front block behind);
          start = q ∙ (ap (λ n. n + length block) s ∙ sym m.2);
          taken = omega arith;
          looked = omega arith;
          plain = no_lf;
          read = step_moved from begins scan.lines next.lines scan.progress next.progress (marks_in scan.marks kept) (marks_in next.marks kept) a.front a.own a.line a.read m.0 m.1 m.3 m.4;
        }
    at_next next (inr h) =
        let t = a.taken in
        let k = a.looked in
        let o = length-append a.own (a.line ++ 10 ∷ []) in
        let p = length-append a.line (10 ∷ []) in
        record {
          front = a.front;
          own = block;
          line = [];
          rest = behind;
          cut = cut_behind;
          start = a.start ∙ sym h.1;
          taken = omega arith;
          looked = omega arith;
          plain = no_lf;
          read = subst (λ (ls : List Line). IsReadFrom from begins ls next.progress (marks_in next.marks kept) a.front block) (sym h.2)
              (step_stayed from begins scan.lines scan.progress next.progress (marks_in scan.marks kept) (marks_in next.marks kept) a.front a.own a.line a.read h.0 h.3);
        }

    -- or reading stops there
    pub stops_at : (stop : Stop) → Stops state stop → StopsAt from begins bytes stop
    stops_at NoMemory h = tt
    stops_at (Refused f) h =
        let read : below scan.lines state ≡ after_lines from (block_lines begins (a.front ++ block)) = block_read from begins scan.lines scan.progress (marks_in scan.marks kept) a.front a.own block a.read in (
          a.front ++ block,
          behind,
          cut_behind ∙ sym (append_assoc a.front block behind),
          whole_append a.front block a.read.above (whole_more a.own a.line),
          not_empty_below a.front block (not_empty a.own a.line),
          subst (λ (fs : List Refusal). IsLeast fs f) (ap (λ (s : FileState). s.faults) read) h.0,
          subst (λ (s : FileState). IsAtRest s.position) read h.1,
        )

-- how many lines stand above a block

pub after_lines_count : (r : FileState) (ls : List (List ℕ)) → (after_lines r ls).count ≡ r.count + length ls
after_lines_count r [] = omega arith
after_lines_count r (line ∷ ls) = omega (arith, after_lines_count (read_line r line) ls, read_line-count r line)

parts_by : (c : ℕ) (xs : List (List ℕ)) (n : ℕ) → length xs ≤ n + 1 → length (onto_first c xs) ≤ n + 2
parts_by c [] n h = omega arith
parts_by c (x ∷ xs) n h = omega arith

few_by : (c : ℕ) (text : List ℕ) (b : Bool) → length (parts text) ≤ length text + 1 → length (cond b ([] ∷ parts text) (onto_first c (parts text))) ≤ length (c ∷ text) + 1
few_by c text true h = omega arith
few_by c text false h = omega (arith, parts_by c (parts text) (length text) h)

parts_few : (text : List ℕ) → length (parts text) ≤ length text + 1
parts_few [] = omega arith
parts_few (c ∷ text) = few_by c text (c == 10) (parts_few text)

whole_few : (a : List ℕ) → length (lines (a ++ 10 ∷ [])) ≤ length a + 1
whole_few a = omega (arith, ap length (lines_whole a), length-map (parts a) strip_carriage_return, parts_few a)

lines_few : (a : List ℕ) → IsWhole a → length (lines a) ≤ length a
lines_few _ empty = omega arith
lines_few _ (ended f) = omega (arith, whole_few f, length-append f (10 ∷ []))

mark_short : (a : List ℕ) (b : Bool) → length (if b then drop 3 a else a) ≤ length a
mark_short a true = omega (arith, length-drop 3 a)
mark_short a false = omega arith

first_few : (a : List ℕ) → IsWhole a → length (lines (without_byte_order_mark a)) ≤ length a
first_few _ empty = omega arith
first_few _ (ended f) =
    omega (arith, lines_few (without_byte_order_mark (f ++ 10 ∷ [])) (unmarked_whole f), mark_short (f ++ 10 ∷ []) (bytes_eq (take 3 (f ++ 10 ∷ [])) (239 ∷ 187 ∷ 191 ∷ [])))

pub block_few : (first : Bool) (a : List ℕ) → IsWhole a → length (block_lines first a) ≤ length a
block_few true a w = first_few a w
block_few false a w = lines_few a w

-- so the number of lines above a block is that of the bytes above it at most
pub place_low : (from : FileState) (begins : Bool) (found : List Line) (progress : Progress) (marks : List Mark) (front own : List ℕ) → IsReadFrom from begins found progress marks front own
    → progress.place.count ≤ from.count + length front
place_low from begins found progress marks front own h =
    let is : progress.place.count ≡ (after_lines from (block_lines begins front)).count = ap (λ (s : FileState). s.count) h.state in
    omega (arith, is, after_lines_count from (block_lines begins front), block_few begins front h.above)

-- before the first byte of a piece
pub at_first : (progress : Progress) (kept : List Mark) (bytes own line rest : List ℕ) (looked end : ℕ) (scan : Scan) → scan.progress ≡ progress → scan.start ≡ 0 → scan.marks ≡ None → scan.lines ≡ []
    → bytes ≡ own ++ (line ++ rest) → length own ≡ looked → looked + length line ≡ end → HasNoLf line
    → IsReadFrom (state_at progress.place progress.room) progress.is_first [] progress kept [] own
    → IsAt (state_at progress.place progress.room) progress.is_first kept scan bytes looked end
at_first progress kept bytes own line rest looked end scan p s m f cut size long plain read = record {
  front = [];
  own = own;
  line = line;
  rest = rest;
  cut = cut;
  start = sym s;
  taken = omega arith;
  looked = long;
  plain = plain;
  read = subst (λ (ls : List Line). IsReadFrom (state_at progress.place progress.room) progress.is_first ls scan.progress (marks_in scan.marks kept) [] own) (sym f)
      (subst (λ (o : Option (List Mark)). IsReadFrom (state_at progress.place progress.room) progress.is_first [] scan.progress (marks_in o kept) [] own) (sym m)
      (subst (λ (q : Progress). IsReadFrom (state_at progress.place progress.room) progress.is_first [] q kept [] own) (sym p) read));
}
