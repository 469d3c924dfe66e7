-- What is known of a text once the bytes that were added are looked at.
use Rattle.std.specs.Prelude.{◌≡◌, ◌≢◌, ◌≤◌, ℕ, ◌+◌, ◌-◌, ◌==◌, true, Some, List, [], ◌++◌, length, take, drop, IsUtf8, refl}
use Rattle.std.specs.Str.{IsValidUpTo}
use Rattle.std.specs.Str.Lossy.{utf8_error_len}
use Rattle.std.proofs.Common.{◌∙◌, sym, ap, ap₂, subst, append_assoc, arith}
use Rattle.std.proofs.Math.Seq.{drop-append_seam, take-append-add}
use Rattle.std.proofs.lemmas.List.{length-append, length-take}
use Rattle.std.proofs.lemmas.List.Sums.{count_by-le-length}
use Rattle.std.proofs.lemmas.Str.{IsUtf8-append}
use Rattle.plain.specs.Limits.{most_dockerfile_bytes}
use Rattle.lines.specs.PrivateRead.{IsReadFrom, IsTail}
use Rattle.lines.specs.PrivateScan.{state_at}
use Rattle.lines.specs.PrivateSteps.{initial_state}
use Rattle.lines.specs.Reader.{IsCut, IsFine, WasReadTo, Knows}
use Rattle.lines.specs.Ready.{HasNoLf}
use Rattle.lines.specs.Text.{IsShort}
use Rattle.lines.specs.declared.kept.Kept.{Kept}
use Rattle.lines.specs.declared.kept.Known.{Known}
use Rattle.lines.specs.declared.kept.Known.TheVariants.{Fine, Refused, Bad, TooLong}
use Rattle.lines.specs.declared.line.Line.{Line}
use Rattle.lines.specs.declared.line.Mark.{Mark}
use Rattle.lines.specs.declared.scan.Progress.{Progress}
use Rattle.lines.proofs.KeptLaws.{feeds, bad_known, cut_moved, restarted, refused_more, known_on}
use Rattle.lines.proofs.PieceLaws.{place_low}
use Rattle.lines.proofs.Utf8Lemmas.{utf8_below}

-- where a text is cut whose bytes are still read

pub record HasCut (kept : Kept) (text piece : List ℕ) : Type 0 where
  pub gone : List ℕ
  pub whole : List ℕ
  pub tail : List ℕ
  pub cut : IsCut kept text piece gone whole tail

pub has_cut : (known : Known) (kept : Kept) (text piece : List ℕ) → Knows kept text piece known → ((line : ℕ) → known ≢ Bad line) → HasCut kept text piece
has_cut Fine kept text piece k n = record { gone = k.front; whole = k.own ++ k.rest; tail = k.tail; cut = k.cut }
has_cut (Refused f) kept text piece k n = record { gone = k.front ++ k.rest; whole = []; tail = k.tail; cut = k.cut }
has_cut (Bad line) kept text piece k n = absurd (n line refl)
has_cut TooLong kept text piece k n = absurd k

pub valid_low : (kept : Kept) (text piece : List ℕ) → HasCut kept text piece → kept.valid ≤ length kept.bytes.items
valid_low kept text piece h =
    let v = h.cut.valid in
    omega (arith, ap length h.cut.bytes, length-append h.whole (h.tail ++ piece))

-- there are no more lines than bytes
pub count_low : (kept : Kept) (text piece : List ℕ) → HasCut kept text piece → IsShort (text ++ piece) → kept.count + length kept.bytes.items ≤ most_dockerfile_bytes + kept.valid
count_low kept text piece h s =
    let v = h.cut.valid in
    let n = h.cut.count in
    let l = count_by-le-length (λ b. b == 10) (h.gone ++ h.whole) in
    omega (
      arith,
      ap length h.cut.bytes,
      length-append h.whole (h.tail ++ piece),
      length-append h.tail piece,
      ap length h.cut.is,
      length-append (h.gone ++ h.whole) h.tail,
      length-append h.gone h.whole,
      length-append text piece,
    )

pub line_low : (kept : Kept) (text piece : List ℕ) (at : ℕ) → HasCut kept text piece → IsShort (text ++ piece) → at ≤ length kept.bytes.items → kept.valid ≤ at
    → kept.count + feeds (take (at - kept.valid) (drop kept.valid kept.bytes.items)) ≤ most_dockerfile_bytes
line_low kept text piece at h s l v =
    let few = count_by-le-length (λ b. b == 10) (take (at - kept.valid) (drop kept.valid kept.bytes.items)) in
    let low = count_low kept text piece h s in
    omega (arith, length-take (at - kept.valid) (drop kept.valid kept.bytes.items))

-- what reading its lines takes

module _ (kept : Kept) (text piece : List ℕ) (r : IsFine kept text piece) where
  new_bytes : drop kept.valid kept.bytes.items ≡ r.tail ++ piece
  new_bytes = ap₂ drop (sym r.cut.valid) r.cut.bytes ∙ drop-append_seam (r.own ++ r.rest) (r.tail ++ piece)

  front_is : (n : ℕ) → kept.valid ≤ n → take n kept.bytes.items ≡ (r.own ++ r.rest) ++ take (n - kept.valid) (r.tail ++ piece)
  front_is n l =
      let v = r.cut.valid in
      let far : length (r.own ++ r.rest) + (n - kept.valid) ≡ n = omega arith in
      ap₂ take (sym far) r.cut.bytes ∙ take-append-add (r.own ++ r.rest) (r.tail ++ piece) (n - kept.valid)

  pub fine_low : (n : ℕ) → IsShort (text ++ piece) → n ≤ length kept.bytes.items → kept.progress.place.count + n ≤ most_dockerfile_bytes
  fine_low n s l =
      let low : kept.progress.place.count ≤ 0 + length r.front = place_low initial_state true kept.lines.items kept.progress kept.marks r.front r.own r.read in
      omega (
        arith,
        ap length r.cut.bytes,
        length-append (r.own ++ r.rest) (r.tail ++ piece),
        length-append r.tail piece,
        ap length r.cut.is,
        length-append (r.front ++ (r.own ++ r.rest)) r.tail,
        length-append r.front (r.own ++ r.rest),
        length-append text piece,
      )

  pub fine_utf8 : (n : ℕ) → kept.valid ≤ n → IsUtf8 (take (n - kept.valid) (drop kept.valid kept.bytes.items)) → IsUtf8 (take n kept.bytes.items)
  fine_utf8 n l u =
      subst IsUtf8 (sym (front_is n l))
      (IsUtf8-append (r.own ++ r.rest) (take (n - kept.valid) (r.tail ++ piece)) (utf8_below r.front (r.own ++ r.rest) r.read.above r.cut.utf8)
      (subst (λ (bs : List ℕ). IsUtf8 (take (n - kept.valid) bs)) new_bytes u))

  pub fine_cut : (n : ℕ) → kept.valid ≤ n
      → (own : List ℕ) × (line : List ℕ) × (rest : List ℕ) × (take n kept.bytes.items ≡ own ++ (line ++ rest)) × (length own ≡ kept.looked)
      × (kept.looked + length line ≡ kept.valid) × HasNoLf line × IsReadFrom (state_at kept.progress.place kept.progress.room) kept.progress.is_first [] kept.progress kept.marks [] own
  fine_cut n l =
      let looked = r.looked in
      let v = r.cut.valid in (
        r.own,
        r.rest,
        take (n - kept.valid) (r.tail ++ piece),
        front_is n l ∙ append_assoc r.own r.rest (take (n - kept.valid) (r.tail ++ piece)),
        looked,
        omega (arith, length-append r.own r.rest),
        r.plain,
        restarted initial_state true kept.lines.items kept.progress kept.marks r.front r.own r.read,
      )

-- what reading them gave, though the bytes of complete blocks are let go of

read_same : (old new : Kept) (front own : List ℕ) → new.progress ≡ old.progress → new.marks ≡ old.marks → new.lines.items ≡ old.lines.items
    → IsReadFrom initial_state true old.lines.items old.progress old.marks front own → IsReadFrom initial_state true new.lines.items new.progress new.marks front own
read_same old new front own p m l r =
    subst (λ (ls : List Line). IsReadFrom initial_state true ls new.progress new.marks front own) (sym l)
    (subst (λ (q : Progress). IsReadFrom initial_state true old.lines.items q new.marks front own) (sym p)
    (subst (λ (ms : List Mark). IsReadFrom initial_state true old.lines.items old.progress ms front own) (sym m) r))

was_read_same : (known : Known) (old new : Kept) (gone bytes : List ℕ) (start : ℕ) → new.looked ≡ old.looked → new.progress ≡ old.progress → new.marks ≡ old.marks → new.lines.items ≡ old.lines.items
    → WasReadTo old gone bytes start known → WasReadTo new gone bytes start known
was_read_same Fine old new gone bytes start k p m l r = record {
  front = r.front;
  own = r.own;
  line = r.line;
  cut = r.cut;
  start_is = r.start_is;
  looked = r.looked ∙ sym k;
  plain = r.plain;
  read = read_same old new (gone ++ r.front) r.own p m l r.read;
}
was_read_same (Refused f) old new gone bytes start k p m l r = record {
  front = r.front;
  rest = r.rest;
  cut = r.cut;
  start_is = r.start_is;
  looked = k ∙ r.looked;
  whole = r.whole;
  some = r.some;
  least = r.least;
  at_rest = r.at_rest;
  none = l ∙ r.none;
}
was_read_same (Bad line) old new gone bytes start k p m l r = absurd r
was_read_same TooLong old new gone bytes start k p m l r = absurd r

-- the bytes up to `n` are whole characters, and those up to `start` are let go of
pub record HasGone (old new : Kept) (n start : ℕ) : Type 0 where
  pub low : old.valid ≤ n
  pub high : n ≤ length old.bytes.items
  pub within : start ≤ n
  pub utf8 : IsUtf8 (take (n - old.valid) (drop old.valid old.bytes.items))
  pub tail : IsTail (drop n old.bytes.items)
  pub bytes : new.bytes.items ≡ drop start old.bytes.items
  pub valid : new.valid ≡ n - start
  pub count : new.count ≡ old.count + feeds (take (n - old.valid) (drop old.valid old.bytes.items))

-- what is kept was moved there, and nothing else of it was changed
abbrev pub HasMoved : Kept → Kept → ℕ → ℕ → Type 0
HasMoved mid new n start = (new.known ≡ mid.known) × (new.looked ≡ mid.looked) × (new.progress ≡ mid.progress) × (new.marks ≡ mid.marks) × (new.lines.items ≡ mid.lines.items)
    × (new.bytes.items ≡ drop start mid.bytes.items) × (new.valid ≡ n - start) × (new.count ≡ mid.count + feeds (take (n - mid.valid) (drop mid.valid mid.bytes.items)))

-- reading changed none of these
abbrev pub HasKept : Kept → Kept → Type 0
HasKept old mid = (mid.bytes.items ≡ old.bytes.items) × (mid.valid ≡ old.valid) × (mid.count ≡ old.count)

pub moves : (old mid : Kept) (n start : ℕ) → old.valid ≤ n → n ≤ length old.bytes.items → start ≤ n → old.count + length old.bytes.items ≤ most_dockerfile_bytes + old.valid → HasKept old mid
    → (mid.valid ≤ n) × (start ≤ n) × (n ≤ length mid.bytes.items) × (mid.count + length mid.bytes.items ≤ most_dockerfile_bytes + mid.valid)
moves old mid n start l h s c k =
    let b = ap length k.0 in
    let v = k.1 in
    let m = k.2 in
    (omega arith, s, omega arith, omega arith)

pub has_gone : (old mid new : Kept) (n start : ℕ) (bytes : List ℕ) → bytes ≡ old.bytes.items
    → (old.valid ≤ n) × (n ≤ length bytes) × IsUtf8 (take (n - old.valid) (drop old.valid bytes)) × IsTail (drop n bytes) → start ≤ n → HasKept old mid → HasMoved mid new n start → HasGone old new n start
has_gone old mid new n start bytes e h s k m = record {
  low = h.0;
  high = subst (λ (bs : List ℕ). n ≤ length bs) e h.1;
  within = s;
  utf8 = subst (λ (bs : List ℕ). IsUtf8 (take (n - old.valid) (drop old.valid bs))) e h.2;
  tail = subst (λ (bs : List ℕ). IsTail (drop n bs)) e h.3;
  bytes = m.5 ∙ ap (drop start) k.0;
  valid = m.6;
  count = m.7 ∙ ap₂ (λ a b. a + b) k.2 (ap₂ (λ v (bs : List ℕ). feeds (take (n - v) (drop v bs))) k.1 k.0);
}

-- of a text with nothing wrong the lines of these bytes were read
pub looked_fine : (old mid new : Kept) (text piece : List ℕ) (n start : ℕ) → Knows old text piece old.known → old.known ≡ Fine → HasGone old new n start
    → ((gone : List ℕ) (own : List ℕ) → IsReadFrom initial_state true old.lines.items old.progress old.marks gone own → WasReadTo mid gone (take n old.bytes.items) start mid.known)
    → HasMoved mid new n start → Knows new (text ++ piece) [] new.known
looked_fine old mid new text piece n start k fine g read m =
    let r : IsFine old text piece = subst (Knows old text piece) fine k in
    let cut = cut_moved old text piece r.front (r.own ++ r.rest) r.tail r.cut new n start g.low g.high g.within g.utf8 g.tail g.bytes g.valid g.count in
    subst (Knows new (text ++ piece) []) (sym m.0)
    (known_on mid.known new (text ++ piece) r.front (drop n old.bytes.items) (take n old.bytes.items) start
    (was_read_same mid.known mid new r.front (take n old.bytes.items) start m.1 m.2 m.3 m.4 (read r.front r.own r.read)) cut)

-- of a text that is refused, nothing
looked_by : (known : Known) (old new : Kept) (text piece : List ℕ) (n : ℕ) → Knows old text piece known → known ≢ Fine → ((line : ℕ) → known ≢ Bad line) → HasGone old new n n
    → new.looked ≡ old.looked → new.lines.items ≡ old.lines.items → Knows new (text ++ piece) [] known
looked_by Fine old new text piece n k f b g looked lines = absurd (f refl)
looked_by (Refused f) old new text piece n k o b g looked lines =
    refused_more f old new text piece k n (drop n old.bytes.items)
    (cut_moved old text piece (k.front ++ k.rest) [] k.tail k.cut new n n g.low g.high g.within g.utf8 g.tail g.bytes g.valid g.count)
    g.high (looked ∙ k.looked) (lines ∙ k.none)
looked_by (Bad line) old new text piece n k f b g looked lines = absurd (b line refl)
looked_by TooLong old new text piece n k f b g looked lines = absurd k

pub looked_other : (old new : Kept) (text piece : List ℕ) (n : ℕ) → Knows old text piece old.known → old.known ≢ Fine → ((line : ℕ) → old.known ≢ Bad line) → HasGone old new n n → HasMoved old new n n
    → Knows new (text ++ piece) [] new.known
looked_other old new text piece n k f b g m = subst (Knows new (text ++ piece) []) (sym m.0) (looked_by old.known old new text piece n k f b g m.1 m.4)

-- a byte of them is bad
pub looked_bad : (old new : Kept) (text piece : List ℕ) (h : HasCut old text piece) (at j line : ℕ) → old.valid ≤ at → IsValidUpTo (drop old.valid old.bytes.items) (at - old.valid)
    → utf8_error_len (drop at old.bytes.items) ≡ Some j → line ≡ old.count + feeds (take (at - old.valid) (drop old.valid old.bytes.items)) + 1
    → new.known ≡ Bad line → new.lines.items ≡ [] → Knows new (text ++ piece) [] new.known
looked_bad old new text piece h at j line l v e n known none =
    subst (Knows new (text ++ piece) []) (sym known) (bad_known old text piece h.gone h.whole h.tail h.cut new at j line l v e n none)
