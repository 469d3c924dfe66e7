-- What a reader holds (own).
use Rattle.std.specs.Prelude.{◌≡◌, ◌≢◌, ◌≤◌, ◌+◌, ◌==◌, ℕ, List, [], ◌++◌, true, length, take, drop, count_by, None, IsUtf8}
use Rattle.std.specs.Str.{IsValidUpTo}
use Rattle.std.specs.Str.Lossy.{utf8_error_len}
use Rattle.plain.specs.declared.refusal.Refusal.{Refusal}
use Rattle.lines.specs.Faults.{IsLeast}
use Rattle.lines.specs.PrivateRead.{IsReadFrom, IsTail}
use Rattle.lines.specs.PrivateScan.{IsAtRest}
use Rattle.lines.specs.PrivateSteps.{initial_state, after_lines}
use Rattle.lines.specs.Ready.{IsWhole, HasNoLf}
use Rattle.lines.specs.Text.{IsShort, text_lines}
use Rattle.lines.specs.declared.kept.Kept.{Kept}
use Rattle.lines.specs.declared.kept.Known.{Known}
use Rattle.lines.specs.declared.kept.Known.TheVariants.{Fine, Refused, Bad, TooLong}

-- a text is cut after its last whole character, and what is kept begins after `gone`; `piece` are bytes that were added since
pub record IsCut (kept : Kept) (text piece gone whole tail : List ℕ) : Type 0 where
  pub is : text ≡ (gone ++ whole) ++ tail
  pub bytes : kept.bytes.items ≡ whole ++ (tail ++ piece)
  pub valid : length whole ≡ kept.valid
  pub utf8 : IsUtf8 (gone ++ whole)
  pub tail_is : IsTail tail
  pub count : kept.count ≡ count_by (λ b. b == 10) (gone ++ whole)

-- nothing is wrong so far: the complete blocks are read, and it is known how far the next one was looked at
pub record IsFine (kept : Kept) (text piece : List ℕ) : Type 0 where
  pub front : List ℕ
  pub own : List ℕ
  pub rest : List ℕ
  pub tail : List ℕ
  pub cut : IsCut kept text piece front (own ++ rest) tail
  pub looked : length own ≡ kept.looked
  pub plain : HasNoLf rest
  pub read : IsReadFrom initial_state true kept.lines.items kept.progress kept.marks front own

-- blocks at the front are refused
pub record IsRefusedBy (f : Refusal) (kept : Kept) (text piece : List ℕ) : Type 0 where
  pub front : List ℕ
  pub rest : List ℕ
  pub tail : List ℕ
  pub cut : IsCut kept text piece (front ++ rest) [] tail
  pub looked : kept.looked ≡ 0
  pub whole : IsWhole front
  pub some : front ≢ []
  pub least : IsLeast (after_lines initial_state (text_lines front)).faults f
  pub at_rest : IsAtRest (after_lines initial_state (text_lines front)).position
  pub none : kept.lines.items ≡ []

-- a byte is bad, whatever follows
pub record IsBadAt (line : ℕ) (kept : Kept) (text : List ℕ) : Type 0 where
  pub front : List ℕ
  pub rest : List ℕ
  pub at : ℕ
  pub is : text ≡ front ++ rest
  pub within : at ≤ length front
  pub valid : (more : List ℕ) → IsValidUpTo (front ++ more) at
  pub told : (more : List ℕ) → utf8_error_len (drop at (front ++ more)) ≢ None
  pub line_is : line ≡ count_by (λ b. b == 10) (take at front) + 1
  pub none : kept.lines.items ≡ []

-- the complete lines of these bytes, which begin where the block in progress did, after `gone`, were taken: `start` bytes of them are
-- those of complete blocks
pub record IsReadTo (kept : Kept) (gone bytes : List ℕ) (start : ℕ) : Type 0 where
  pub front : List ℕ
  pub own : List ℕ
  pub line : List ℕ
  pub cut : bytes ≡ front ++ (own ++ line)
  pub start_is : length front ≡ start
  pub looked : length own ≡ kept.looked
  pub plain : HasNoLf line
  pub read : IsReadFrom initial_state true kept.lines.items kept.progress kept.marks (gone ++ front) own

-- or complete blocks of them are refused
pub record IsStoppedBy (f : Refusal) (kept : Kept) (gone bytes : List ℕ) (start : ℕ) : Type 0 where
  pub front : List ℕ
  pub rest : List ℕ
  pub cut : bytes ≡ front ++ rest
  pub start_is : length bytes ≡ start
  pub looked : kept.looked ≡ 0
  pub whole : IsWhole (gone ++ front)
  pub some : gone ++ front ≢ []
  pub least : IsLeast (after_lines initial_state (text_lines (gone ++ front))).faults f
  pub at_rest : IsAtRest (after_lines initial_state (text_lines (gone ++ front))).position
  pub none : kept.lines.items ≡ []

abbrev pub WasReadTo : Kept → List ℕ → List ℕ → ℕ → Known → Type 0
WasReadTo kept gone bytes start Fine = IsReadTo kept gone bytes start
WasReadTo kept gone bytes start (Refused f) = IsStoppedBy f kept gone bytes start
WasReadTo kept gone bytes start (Bad line) = ⊥
WasReadTo kept gone bytes start TooLong = ⊥

-- all that is kept stays as it was
abbrev pub IsUnchanged : Kept → Kept → Type 0
IsUnchanged old new = (new.size ≡ old.size) × (new.known ≡ old.known) × (new.count ≡ old.count) × (new.bytes.items ≡ old.bytes.items) × (new.looked ≡ old.looked)
    × (new.valid ≡ old.valid) × (new.progress ≡ old.progress) × (new.marks ≡ old.marks) × (new.lines.items ≡ old.lines.items)

-- what is known of a text, with a piece after it that wasn't looked at
abbrev pub Knows : Kept → List ℕ → List ℕ → Known → Type 0
Knows kept text piece Fine = IsFine kept text piece
Knows kept text piece (Refused f) = IsRefusedBy f kept text piece
Knows kept text piece (Bad line) = IsBadAt line kept text
Knows kept text piece TooLong = ⊥

-- what is kept of a text, of which as many bytes were fed
abbrev pub IsKeptAs : Kept → List ℕ → Known → Type 0
IsKeptAs kept text Fine = IsShort text × (kept.size ≡ length text) × IsFine kept text []
IsKeptAs kept text (Refused f) = IsShort text × (kept.size ≡ length text) × IsRefusedBy f kept text []
IsKeptAs kept text (Bad line) = IsShort text × (kept.size ≡ length text) × IsBadAt line kept text
IsKeptAs kept text TooLong = (¬ (IsShort text)) × (kept.lines.items ≡ [])

-- a reader holds the text that it was fed: it has the logical lines of its complete blocks, and the bytes after them, or knows why the
-- text is refused
abbrev pub Holds : Kept → List ℕ → Type 0
Holds kept text = IsKeptAs kept text kept.known
