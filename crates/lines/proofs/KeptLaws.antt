-- What is kept of a text, from piece to piece.
use Rattle.std.specs.Prelude.{◌≡◌, ◌≢◌, ◌≤◌, ℕ, ◌+◌, ◌-◌, ◌==◌, Bool, true, false, List, [], ◌∷◌, ◌++◌, Some, None, length, take, drop, count_by, IsUtf8, refl}
use Rattle.std.specs.Str.{IsValidUpTo}
use Rattle.std.specs.Str.Lossy.{utf8_error_len}
use Rattle.std.proofs.lemmas.List.Sums.{sum_by-append}
use Rattle.std.proofs.Common.{cond, ◌∙◌, sym, ap, ap₂, subst, inl, append_assoc, arith}
use Rattle.std.proofs.Math.Seq.{take-append_seam, drop-append_seam, take-append-add, drop-append-add}
use Rattle.std.proofs.lemmas.List.{length-append, length-take, length-take-le, length-drop, append-nil, nil_from_length, take-append-drop, drop-append-le, take_all, drop_all}
use Rattle.std.proofs.lemmas.Str.{IsUtf8-append}
use Rattle.plain.specs.declared.refusal.Refusal.{Refusal}
use Rattle.lines.specs.Faults.{IsLeast}
use Rattle.lines.specs.PrivateRead.{IsFirst, IsReadFrom, IsAt, IsTail, StopsAt}
use Rattle.lines.specs.PrivateScan.{state_at, block_lines, below, marks_in, IsAtRest}
use Rattle.lines.specs.PrivateSteps.{initial_state, after_lines}
use Rattle.lines.specs.Reader.{IsCut, IsFine, IsRefusedBy, IsBadAt, IsReadTo, IsStoppedBy, WasReadTo, Knows}
use Rattle.lines.specs.Text.{text_lines}
use Rattle.lines.specs.declared.kept.Known.{Known}
use Rattle.lines.specs.declared.kept.Known.TheVariants.{Fine, Refused, Bad, TooLong}
use Rattle.lines.specs.Ready.{empty, HasNoLf}
use Rattle.lines.specs.declared.kept.Kept.{Kept}
use Rattle.lines.specs.declared.line.Line.{Line}
use Rattle.lines.specs.declared.line.Mark.{Mark}
use Rattle.lines.specs.declared.scan.Progress.{Progress}
use Rattle.lines.specs.declared.scan.Scan.{Scan}
use Rattle.lines.specs.declared.state.FileState.{FileState}
use Rattle.lines.specs.declared.scan.Stop.TheVariants as stop
use Rattle.lines.proofs.ReadLaws.{no_lines, whole_append, block_read, piece_read}
use Rattle.lines.proofs.Utf8Lemmas.{fault_below, told_below}

abbrev pub feeds : List ℕ → ℕ
feeds bytes = count_by (λ b. b == 10) bytes

feeds-append : (a b : List ℕ) → feeds (a ++ b) ≡ feeds a + feeds b
feeds-append a b = sum_by-append (λ c. cond (c == 10) 1 0) a b

-- the bytes that weren't looked at
module _ (kept : Kept) (text piece gone whole tail : List ℕ) (c : IsCut kept text piece gone whole tail) where
  new_bytes : drop kept.valid kept.bytes.items ≡ tail ++ piece
  new_bytes = ap₂ drop (sym c.valid) c.bytes ∙ drop-append_seam whole (tail ++ piece)

  text_is : text ++ piece ≡ (gone ++ whole) ++ (tail ++ piece)
  text_is = ap (λ (x : List ℕ). x ++ piece) c.is ∙ append_assoc (gone ++ whole) tail piece

  -- of which one is bad
  pub bad_known : (new : Kept) (at j line : ℕ) → kept.valid ≤ at → IsValidUpTo (drop kept.valid kept.bytes.items) (at - kept.valid) → utf8_error_len (drop at kept.bytes.items) ≡ Some j
      → line ≡ kept.count + feeds (take (at - kept.valid) (drop kept.valid kept.bytes.items)) + 1 → new.lines.items ≡ [] → IsBadAt line new (text ++ piece)
  bad_known new at j line l v e n none =
      let k = at - kept.valid in
      let valid : IsValidUpTo (tail ++ piece) k = subst (λ (x : List ℕ). IsValidUpTo x k) new_bytes v in
      let size = c.valid in
      let far : length whole + k ≡ at = omega arith in
      let fault : utf8_error_len (drop k (tail ++ piece)) ≡ Some j =
      ap utf8_error_len (sym (ap₂ drop (sym far) c.bytes ∙ drop-append-add whole (tail ++ piece) k)) ∙ e in
      let short = valid.short in
      record {
        front = text ++ piece;
        rest = [];
        at = length (gone ++ whole) + k;
        is = sym (append-nil (text ++ piece));
        within = omega (arith, ap length text_is, length-append (gone ++ whole) (tail ++ piece));
        valid = λ more. subst (λ (x : List ℕ). IsValidUpTo (x ++ more) (length (gone ++ whole) + k)) (sym text_is) (fault_below (gone ++ whole) (tail ++ piece) k j c.utf8 valid fault more);
        told = λ more. subst (λ (x : List ℕ). utf8_error_len (drop (length (gone ++ whole) + k) (x ++ more)) ≢ None) (sym text_is) (told_below (gone ++ whole) (tail ++ piece) k j c.utf8 valid fault more);
        line_is = n ∙ ap (λ m. m + 1) (
            ap₂ (λ a (x : List ℕ). a + feeds (take k x)) c.count new_bytes
            ∙ sym (feeds-append (gone ++ whole) (take k (tail ++ piece)))
            ∙ ap feeds (sym (ap (take (length (gone ++ whole) + k)) text_is ∙ take-append-add (gone ++ whole) (tail ++ piece) k))
            );
        none = none;
      }

  -- of which some are whole characters: `start` bytes are let go of
  pub cut_moved : (new : Kept) (n start : ℕ) → kept.valid ≤ n → n ≤ length kept.bytes.items → start ≤ n → IsUtf8 (take (n - kept.valid) (drop kept.valid kept.bytes.items)) → IsTail (drop n kept.bytes.items)
      → new.bytes.items ≡ drop start kept.bytes.items → new.valid ≡ n - start → new.count ≡ kept.count + feeds (take (n - kept.valid) (drop kept.valid kept.bytes.items))
      → IsCut new (text ++ piece) [] (gone ++ take start (take n kept.bytes.items)) (drop start (take n kept.bytes.items)) (drop n kept.bytes.items)
  cut_moved new n start l m s u t bytes valid count =
      let k = n - kept.valid in
      let size = c.valid in
      let far : length whole + k ≡ n = omega arith in
      let front : take n kept.bytes.items ≡ whole ++ take k (tail ++ piece) = ap₂ take (sym far) c.bytes ∙ take-append-add whole (tail ++ piece) k in
      let both : take start (take n kept.bytes.items) ++ drop start (take n kept.bytes.items) ≡ take n kept.bytes.items = take-append-drop start (take n kept.bytes.items) in
      let all : (gone ++ take start (take n kept.bytes.items)) ++ drop start (take n kept.bytes.items) ≡ (gone ++ whole) ++ take k (tail ++ piece) =
      append_assoc gone (take start (take n kept.bytes.items)) (drop start (take n kept.bytes.items)) ∙ ap (λ (x : List ℕ). gone ++ x) (both ∙ front) ∙ sym (append_assoc gone whole (take k (tail ++ piece))) in
      let rest : drop n kept.bytes.items ≡ drop k (tail ++ piece) = ap₂ drop (sym far) c.bytes ∙ drop-append-add whole (tail ++ piece) k in
      record {
        is = text_is ∙ ap (λ (x : List ℕ). (gone ++ whole) ++ x) (sym (take-append-drop k (tail ++ piece))) ∙ sym (append_assoc (gone ++ whole) (take k (tail ++ piece)) (drop k (tail ++ piece)))
            ∙ ap₂ (λ (x y : List ℕ). x ++ y) (sym all) (sym rest);
        bytes = bytes ∙ ap (drop start) (sym (take-append-drop n kept.bytes.items)) ∙ drop-append-le start (take n kept.bytes.items) (drop n kept.bytes.items) (omega (arith, length-take n kept.bytes.items))
            ∙ ap (λ (x : List ℕ). drop start (take n kept.bytes.items) ++ x) (sym (append-nil (drop n kept.bytes.items)));
        valid = length-drop start (take n kept.bytes.items) ∙ ap (λ i. i - start) (length-take-le n kept.bytes.items m) ∙ sym valid;
        utf8 = subst IsUtf8 (sym all) (IsUtf8-append (gone ++ whole) (take k (tail ++ piece)) c.utf8 (subst (λ (x : List ℕ). IsUtf8 (take k x)) new_bytes u));
        tail_is = t;
        count = count ∙ ap₂ (λ a (x : List ℕ). a + feeds (take k x)) c.count new_bytes ∙ sym (feeds-append (gone ++ whole) (take k (tail ++ piece))) ∙ ap feeds (sym all);
      }

-- the block in progress is read from its place on as a text of its own

below_none : (s : FileState) → below [] s ≡ s
below_none s = let e : s.room + 0 ≡ s.room = omega arith in ap (λ n. record s { room = n }) e

first_of_its_own : (first : Bool) → IsFirst first [] first
first_of_its_own true = (refl, refl)
first_of_its_own false = inl refl

pub restarted : (from : FileState) (begins : Bool) (found : List Line) (progress : Progress) (marks : List Mark) (front own : List ℕ) → IsReadFrom from begins found progress marks front own
    → IsReadFrom (state_at progress.place progress.room) progress.is_first [] progress marks [] own
restarted from begins found progress marks front own h = record {
  above = empty;
  whole = h.whole;
  behind = h.behind;
  first = first_of_its_own progress.is_first;
  state = below_none (state_at progress.place progress.room) ∙ ap (after_lines (state_at progress.place progress.room)) (sym (no_lines progress.is_first));
  reached = h.reached;
}

-- what the lines of a piece gave, after what was given above them

pub read_on : (kept new : Kept) (gone own front more line bytes : List ℕ) (found : List Line) (start : ℕ)
    → IsReadFrom initial_state true kept.lines.items kept.progress kept.marks gone own
    → bytes ≡ front ++ (more ++ line) → length front ≡ start → length more ≡ new.looked → HasNoLf line → new.lines.items ≡ kept.lines.items ++ found
    → IsReadFrom (state_at kept.progress.place kept.progress.room) kept.progress.is_first found new.progress new.marks front more
    → IsReadTo new gone bytes start
read_on kept new gone own front more line bytes found start h cut size looked plain lines i = record {
  front = front;
  own = more;
  line = line;
  cut = cut;
  start_is = size;
  looked = looked;
  plain = plain;
  read = subst (λ (ls : List Line). IsReadFrom initial_state true ls new.progress new.marks (gone ++ front) more) (sym lines)
      (piece_read initial_state true kept.lines.items found kept.progress new.progress kept.marks new.marks gone own front more h i);
}

-- what a scan of bytes gave, once it is kept
pub scan_kept : (kept new : Kept) (scan : Scan) (bytes : List ℕ) (at start : ℕ)
    → IsAt (state_at kept.progress.place kept.progress.room) kept.progress.is_first kept.marks scan bytes at (length bytes)
    → start ≡ scan.start → new.looked + start ≡ at → new.progress ≡ scan.progress → new.marks ≡ marks_in scan.marks kept.marks → new.lines.items ≡ kept.lines.items ++ scan.lines → new.known ≡ Fine
    → (start ≤ length bytes) × ((gone : List ℕ) (own : List ℕ) → IsReadFrom initial_state true kept.lines.items kept.progress kept.marks gone own → WasReadTo new gone bytes start new.known)
scan_kept kept new scan bytes at start a s l p m lines k =
    let size = a.start in
    let taken = a.taken in
    let looked = a.looked in
    let all = ap length a.cut in
    let one = length-append a.front (a.own ++ (a.line ++ a.rest)) in
    let two = length-append a.own (a.line ++ a.rest) in
    let three = length-append a.line a.rest in
    let none : a.rest ≡ [] = nil_from_length a.rest (omega arith) in
    let cut : bytes ≡ a.front ++ (a.own ++ a.line) = a.cut ∙ ap (λ (x : List ℕ). a.front ++ (a.own ++ (a.line ++ x))) none ∙ ap (λ (x : List ℕ). a.front ++ (a.own ++ x)) (append-nil a.line) in
    let read : IsReadFrom (state_at kept.progress.place kept.progress.room) kept.progress.is_first scan.lines new.progress new.marks a.front a.own =
    subst (λ (ms : List Mark). IsReadFrom (state_at kept.progress.place kept.progress.room) kept.progress.is_first scan.lines new.progress ms a.front a.own) (sym m)
    (subst (λ (q : Progress). IsReadFrom (state_at kept.progress.place kept.progress.room) kept.progress.is_first scan.lines q (marks_in scan.marks kept.marks) a.front a.own) (sym p) a.read) in (
      omega arith,
      λ gone own h. subst (WasReadTo new gone bytes start) (sym k)
          (read_on kept new gone own a.front a.own a.line bytes scan.lines start h cut (size ∙ sym s) (omega arith) a.plain lines read),
    )

front_empty : (a b : List ℕ) → a ++ b ≡ [] → b ≡ []
front_empty [] b e = e
front_empty (c ∷ a) b e = absurd (cc)

pub stopped_on : (kept new : Kept) (gone own bytes : List ℕ) (f : Refusal) → IsReadFrom initial_state true kept.lines.items kept.progress kept.marks gone own
    → StopsAt (state_at kept.progress.place kept.progress.room) kept.progress.is_first bytes (stop.Refused f) → new.looked ≡ 0 → new.lines.items ≡ []
    → IsStoppedBy f new gone bytes (length bytes)
stopped_on kept new gone own bytes f h s looked none =
    let front = s.0 in
    let read : below kept.lines.items (after_lines (state_at kept.progress.place kept.progress.room) (block_lines kept.progress.is_first front)) ≡ after_lines initial_state (text_lines (gone ++ front)) =
    block_read initial_state true kept.lines.items kept.progress kept.marks gone own front h in
    record {
      front = front;
      rest = s.1;
      cut = s.2;
      start_is = refl;
      looked = looked;
      whole = whole_append gone front h.above s.3;
      some = λ e. s.4 (front_empty gone front e);
      least = subst (λ (fs : List Refusal). IsLeast fs f) (ap (λ (r : FileState). r.faults) read) s.5;
      at_rest = subst (λ (r : FileState). IsAtRest r.position) read s.6;
      none = none;
    }

-- and that the bytes of complete blocks were let go of

fine_on : (new : Kept) (text gone tail bytes : List ℕ) (start : ℕ) (r : IsReadTo new gone bytes start)
    → IsCut new text [] (gone ++ take start bytes) (drop start bytes) tail → IsFine new text []
fine_on new text gone tail bytes start r c =
    let front : take start bytes ≡ r.front = ap₂ take (sym r.start_is) r.cut ∙ take-append_seam r.front (r.own ++ r.line) in
    let rest : drop start bytes ≡ r.own ++ r.line = ap₂ drop (sym r.start_is) r.cut ∙ drop-append_seam r.front (r.own ++ r.line) in
    record {
      front = gone ++ r.front;
      own = r.own;
      rest = r.line;
      tail = tail;
      cut = subst (λ (x : List ℕ). IsCut new text [] (gone ++ x) (r.own ++ r.line) tail) front (subst (λ (x : List ℕ). IsCut new text [] (gone ++ take start bytes) x tail) rest c);
      looked = r.looked;
      plain = r.plain;
      read = r.read;
    }

refused_on : (f : Refusal) (new : Kept) (text gone tail bytes : List ℕ) (start : ℕ) (r : IsStoppedBy f new gone bytes start)
    → IsCut new text [] (gone ++ take start bytes) (drop start bytes) tail → IsRefusedBy f new text []
refused_on f new text gone tail bytes start r c =
    let front : take start bytes ≡ bytes = ap (λ n. take n bytes) (sym r.start_is) ∙ take_all (length bytes) bytes (omega arith) in
    let rest : drop start bytes ≡ [] = ap (λ n. drop n bytes) (sym r.start_is) ∙ drop_all (length bytes) bytes (omega arith) in
    let is : gone ++ take start bytes ≡ (gone ++ r.front) ++ r.rest = ap (λ (x : List ℕ). gone ++ x) (front ∙ r.cut) ∙ sym (append_assoc gone r.front r.rest) in
    record {
      front = gone ++ r.front;
      rest = r.rest;
      tail = tail;
      cut = subst (λ (x : List ℕ). IsCut new text [] x [] tail) is (subst (λ (x : List ℕ). IsCut new text [] (gone ++ take start bytes) x tail) rest c);
      looked = r.looked;
      whole = r.whole;
      some = r.some;
      least = r.least;
      at_rest = r.at_rest;
      none = r.none;
    }

-- of a text that is refused further bytes are only counted
pub refused_more : (f : Refusal) (kept new : Kept) (text piece : List ℕ) (r : IsRefusedBy f kept text piece) (n : ℕ) (tail : List ℕ)
    → IsCut new (text ++ piece) [] ((r.front ++ r.rest) ++ take n (take n kept.bytes.items)) (drop n (take n kept.bytes.items)) tail
    → n ≤ length kept.bytes.items → new.looked ≡ 0 → new.lines.items ≡ [] → IsRefusedBy f new (text ++ piece) []
refused_more f kept new text piece r n tail c m looked none =
    let size : length (take n kept.bytes.items) ≡ n = length-take-le n kept.bytes.items m in
    let front : take n (take n kept.bytes.items) ≡ take n kept.bytes.items = take_all n (take n kept.bytes.items) (omega arith) in
    let rest : drop n (take n kept.bytes.items) ≡ [] = drop_all n (take n kept.bytes.items) (omega arith) in
    let is : (r.front ++ r.rest) ++ take n (take n kept.bytes.items) ≡ r.front ++ (r.rest ++ take n kept.bytes.items) = ap (λ (x : List ℕ). (r.front ++ r.rest) ++ x) front ∙ append_assoc r.front r.rest (take n kept.bytes.items) in
    record {
      front = r.front;
      rest = r.rest ++ take n kept.bytes.items;
      tail = tail;
      cut = subst (λ (x : List ℕ). IsCut new (text ++ piece) [] x [] tail) is (subst (λ (x : List ℕ). IsCut new (text ++ piece) [] ((r.front ++ r.rest) ++ take n (take n kept.bytes.items)) x tail) rest c);
      looked = looked;
      whole = r.whole;
      some = r.some;
      least = r.least;
      at_rest = r.at_rest;
      none = none;
    }

pub known_on : (known : Known) (new : Kept) (text gone tail bytes : List ℕ) (start : ℕ) → WasReadTo new gone bytes start known
    → IsCut new text [] (gone ++ take start bytes) (drop start bytes) tail → Knows new text [] known
known_on Fine new text gone tail bytes start r c = fine_on new text gone tail bytes start r c
known_on (Refused f) new text gone tail bytes start r c = refused_on f new text gone tail bytes start r c
known_on (Bad line) new text gone tail bytes start r c = absurd r
known_on TooLong new text gone tail bytes start r c = absurd r
