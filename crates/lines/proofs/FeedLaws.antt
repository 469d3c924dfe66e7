-- What is kept, where a piece is added and where it is taken back.
use Rattle.std.specs.Prelude.{◌≡◌, ◌≢◌, ◌≤◌, ◌<◌, ◌+◌, ◌-◌, ℕ, true, List, [], ◌++◌, Result, Ok, Err, OnOk, OnErr, length, refl}
use Rattle.std.proofs.Common.{◌∙◌, sym, ap, subst, append_assoc, arith}
use Rattle.std.proofs.lemmas.List.{length-append, append-nil}
use Rattle.plain.specs.Limits.{most_dockerfile_bytes}
use Rattle.lines.specs.PrivateRead.{IsReadFrom}
use Rattle.lines.specs.PrivateSteps.{initial_state}
use Rattle.lines.specs.Reader.{IsCut, IsBadAt, IsUnchanged, Knows, IsKeptAs, Holds}
use Rattle.lines.specs.Text.{IsShort}
use Rattle.lines.specs.declared.kept.Kept.{Kept}
use Rattle.lines.specs.declared.kept.Known.{Known}
use Rattle.lines.specs.declared.kept.Known.TheVariants.{Fine, Refused, Bad, TooLong}
use Rattle.lines.specs.declared.line.Line.{Line}
use Rattle.lines.specs.declared.line.Mark.{Mark}
use Rattle.lines.specs.declared.scan.Progress.{Progress}

-- all stays but the bytes, which have some more at their end
pub record HasBytes (old new : Kept) (more : List ℕ) : Type 0 where
  pub count : new.count ≡ old.count
  pub looked : new.looked ≡ old.looked
  pub valid : new.valid ≡ old.valid
  pub progress : new.progress ≡ old.progress
  pub marks : new.marks ≡ old.marks
  pub lines : new.lines.items ≡ old.lines.items
  pub bytes : new.bytes.items ≡ old.bytes.items ++ more

cut_added : (old new : Kept) (text piece more gone whole tail : List ℕ) → HasBytes old new more → IsCut old text piece gone whole tail → IsCut new text (piece ++ more) gone whole tail
cut_added old new text piece more gone whole tail h c = record {
  is = c.is;
  bytes = h.bytes ∙ ap (λ (x : List ℕ). x ++ more) c.bytes ∙ append_assoc whole (tail ++ piece) more ∙ ap (λ (x : List ℕ). whole ++ x) (append_assoc tail piece more);
  valid = c.valid ∙ sym h.valid;
  utf8 = c.utf8;
  tail_is = c.tail_is;
  count = h.count ∙ c.count;
}

read_added : (old new : Kept) (more front own : List ℕ) → HasBytes old new more → IsReadFrom initial_state true old.lines.items old.progress old.marks front own
    → IsReadFrom initial_state true new.lines.items new.progress new.marks front own
read_added old new more front own h r =
    subst (λ (ls : List Line). IsReadFrom initial_state true ls new.progress new.marks front own) (sym h.lines)
    (subst (λ (p : Progress). IsReadFrom initial_state true old.lines.items p new.marks front own) (sym h.progress)
    (subst (λ (ms : List Mark). IsReadFrom initial_state true old.lines.items old.progress ms front own) (sym h.marks) r))

pub known_added : (known : Known) (old new : Kept) (text piece more : List ℕ) → HasBytes old new more → Knows old text piece known → Knows new text (piece ++ more) known
known_added Fine old new text piece more h k = record {
  front = k.front;
  own = k.own;
  rest = k.rest;
  tail = k.tail;
  cut = cut_added old new text piece more k.front (k.own ++ k.rest) k.tail h k.cut;
  looked = k.looked ∙ sym h.looked;
  plain = k.plain;
  read = read_added old new more k.front k.own h k.read;
}
known_added (Refused f) old new text piece more h k = record {
  front = k.front;
  rest = k.rest;
  tail = k.tail;
  cut = cut_added old new text piece more (k.front ++ k.rest) [] k.tail h k.cut;
  looked = h.looked ∙ k.looked;
  whole = k.whole;
  some = k.some;
  least = k.least;
  at_rest = k.at_rest;
  none = h.lines ∙ k.none;
}
known_added (Bad line) old new text piece more h k = record {
  front = k.front;
  rest = k.rest;
  at = k.at;
  is = k.is;
  within = k.within;
  valid = k.valid;
  told = k.told;
  line_is = k.line_is;
  none = h.lines ∙ k.none;
}
known_added TooLong old new text piece more h k = absurd k

all_but : (old new : Kept) → IsUnchanged old new → HasBytes old new []
all_but old new h = record { count = h.2; looked = h.4; valid = h.5; progress = h.6; marks = h.7; lines = h.8; bytes = h.3 ∙ sym (append-nil old.bytes.items) }

-- what is known of a text that isn't too long

pub kept_known : (known : Known) (kept : Kept) (text : List ℕ) → IsKeptAs kept text known → IsShort text → (kept.size ≡ length text) × Knows kept text [] known
kept_known Fine kept text h s = (h.1, h.2)
kept_known (Refused f) kept text h s = (h.1, h.2)
kept_known (Bad line) kept text h s = (h.1, h.2)
kept_known TooLong kept text h s = absurd (h.0 s)

pub kept_short : (known : Known) (kept : Kept) (text : List ℕ) → IsKeptAs kept text known → known ≢ TooLong → IsShort text
kept_short Fine kept text h n = h.0
kept_short (Refused f) kept text h n = h.0
kept_short (Bad line) kept text h n = h.0
kept_short TooLong kept text h n = absurd (n refl)

pub known_kept : (known : Known) (kept : Kept) (text : List ℕ) → IsShort text → kept.size ≡ length text → Knows kept text [] known → IsKeptAs kept text known
known_kept Fine kept text s n k = (s, n, k)
known_kept (Refused f) kept text s n k = (s, n, k)
known_kept (Bad line) kept text s n k = (s, n, k)
known_kept TooLong kept text s n k = absurd k

-- all that is kept stayed
pub kept_same : (known : Known) (old new : Kept) (text : List ℕ) → IsUnchanged old new → IsKeptAs old text known → IsKeptAs new text known
kept_same TooLong old new text h k = (k.0, h.8 ∙ k.1)
kept_same Fine old new text h k = known_kept Fine new text k.0 (h.0 ∙ k.1) (known_added Fine old new text [] [] (all_but old new h) k.2)
kept_same (Refused f) old new text h k = known_kept (Refused f) new text k.0 (h.0 ∙ k.1) (known_added (Refused f) old new text [] [] (all_but old new h) k.2)
kept_same (Bad line) old new text h k = known_kept (Bad line) new text k.0 (h.0 ∙ k.1) (known_added (Bad line) old new text [] [] (all_but old new h) k.2)

-- too long a text stays so

pub long_more : (text piece : List ℕ) → ¬ (IsShort text) → ¬ (IsShort (text ++ piece))
long_more text piece h = λ s. h (omega (arith, length-append text piece))

pub long_kept : (kept : Kept) (text piece : List ℕ) → IsKeptAs kept text TooLong → IsKeptAs kept (text ++ piece) TooLong
long_kept kept text piece h = (long_more text piece h.0, h.1)

-- further bytes after a bad one
pub bad_more : (line : ℕ) (old new : Kept) (text piece : List ℕ) → new.lines.items ≡ old.lines.items → IsBadAt line old text → IsBadAt line new (text ++ piece)
bad_more line old new text piece e k = record {
  front = k.front;
  rest = k.rest ++ piece;
  at = k.at;
  is = ap (λ (x : List ℕ). x ++ piece) k.is ∙ append_assoc k.front k.rest piece;
  within = k.within;
  valid = k.valid;
  told = k.told;
  line_is = k.line_is;
  none = e ∙ k.none;
}

-- what a call of `feed` does, by what is known before it

-- nothing, where the text is too long already
pub feed_long : (kept : Kept) (text piece : List ℕ) → kept.known ≡ TooLong → Holds kept text → Holds kept (text ++ piece)
feed_long kept text piece e h = subst (IsKeptAs kept (text ++ piece)) (sym e) (long_kept kept text piece (subst (IsKeptAs kept text) e h))

pub size_low : (kept : Kept) (text : List ℕ) → Holds kept text → kept.known ≢ TooLong → (kept.size ≡ length text) × (kept.size ≤ most_dockerfile_bytes)
size_low kept text h n =
    let short = kept_short kept.known kept text h n in
    let k = (kept_known kept.known kept text h short).0 in
    (k, omega arith)

-- the piece is too much
pub feed_past : (old new : Kept) (text piece : List ℕ) → Holds old text → old.known ≢ TooLong → most_dockerfile_bytes - old.size < length piece → new.known ≡ TooLong → new.lines.items ≡ [] → Holds new (text ++ piece)
feed_past old new text piece h n l e none =
    let k = size_low old text h n in
    let size = k.0 in
    let low = k.1 in
    subst (IsKeptAs new (text ++ piece)) (sym e) ((λ s. omega (arith, length-append text piece)), none)

-- it is only counted, where a byte above it is bad
pub feed_bad : (line : ℕ) (old new : Kept) (text piece : List ℕ) → Holds old text → old.known ≡ Bad line → length piece ≤ most_dockerfile_bytes - old.size
    → new.known ≡ Bad line → new.size ≡ old.size + length piece → new.lines.items ≡ old.lines.items → Holds new (text ++ piece)
feed_bad line old new text piece h e l known size lines =
    let k : IsKeptAs old text (Bad line) = subst (IsKeptAs old text) e h in
    let short = k.0 in
    let was = k.1 in
    let all = length-append text piece in
    subst (IsKeptAs new (text ++ piece)) (sym known) (omega arith, omega arith, bad_more line old new text piece lines k.2)

-- its bytes are added
pub feed_added : (old new : Kept) (text piece : List ℕ) → Holds old text → old.known ≢ TooLong → length piece ≤ most_dockerfile_bytes - old.size → new.known ≡ old.known → HasBytes old new piece
    → IsShort (text ++ piece) × Knows new text piece new.known
feed_added old new text piece h n l known b =
    let short = kept_short old.known old text h n in
    let k = kept_known old.known old text h short in
    let size = k.0 in
    (omega (arith, length-append text piece), subst (Knows new text piece) (sym known) (known_added old.known old new text [] piece b k.1))

pub feed_looked : (old new : Kept) (text piece : List ℕ) → Holds old text → old.known ≢ TooLong → IsShort (text ++ piece) → new.size ≡ old.size + length piece → Knows new (text ++ piece) [] new.known
    → Holds new (text ++ piece)
feed_looked old new text piece h n short size k =
    let was = (size_low old text h n).0 in
    known_kept new.known new (text ++ piece) short (omega (arith, length-append text piece)) k

-- nothing was changed
pub feed_refused : (old new : Kept) (text : List ℕ) → IsUnchanged old new → Holds old text → Holds new text
feed_refused old new text u h = subst (IsKeptAs new text) (sym u.1) (kept_same old.known old new text u h)

-- so some text is held after it, in any case
pub feed_holds : {T E : Type 0} (answer : Result T E) (old new : Kept) (text piece : List ℕ) → Holds old text → OnOk answer ((text : List ℕ) → Holds old text → Holds new (text ++ piece))
    → OnErr answer ((text : List ℕ) → Holds old text → Holds new text) → (text : List ℕ) × Holds new text
feed_holds (Ok x) old new text piece h o e = (text ++ piece, o text h)
feed_holds (Err x) old new text piece h o e = (text, e text h)
