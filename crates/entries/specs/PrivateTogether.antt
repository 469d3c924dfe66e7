-- How several threads print the entries of a tree, in rounds.
use Rattle.std.specs.Prelude.{◌≡◌, ℕ, ◌+◌, ◌*◌, ◌<◌, Bool, true, false, List, [], length, take, drop, get_or, nat_lt, codes, Option, None, Some}
use Rattle.trees.specs.Row.{Row}
use Rattle.entries.specs.declared.together.Share.{Share}
use Rattle.entries.specs.declared.together.Block.{Block}
use Rattle.entries.specs.declared.together.TheConstants.{SHARES, ROWS}
use Rattle.entries.specs.PrivatePrinting.{rows_text, rest_text}

-- the text of the entries behind so many, with the closing bracket
abbrev pub text_behind_rows : List Row → ℕ → List ℕ
text_behind_rows rows behind = rest_text (nat_lt 0 behind) (drop behind rows)

-- the text that is left where so many entries were said, or all
abbrev pub text_left : List Row → Option ℕ → List ℕ
text_left rows None = codes "]"
text_left rows (Some behind) = text_behind_rows rows behind

-- if there was memory for it, a block is the text of as many entries as a share prints, behind so many
abbrev pub IsBlock : List Row → ℕ → Block → Type 0
IsBlock rows behind block = block.is_whole ≡ true → block.text.items ≡ rows_text (nat_lt 0 behind) (take ROWS (drop behind rows))

-- a share has gone past so many entries, and where it says that no more are to come, none are
pub record IsPast (rows : List Row) (behind : ℕ) (share : Share) : Type 0 where
  pub left : share.walk.left ≡ drop behind rows
  pub ended : share.more ≡ false → drop behind rows ≡ []

-- all shares have gone past so many entries
pub record ArePast (rows : List Row) (behind : ℕ) (shares : List Share) : Type 0 where
  pub count : length shares ≡ SHARES
  pub each : (i : ℕ) (d : Share) → i < SHARES → IsPast rows behind (get_or shares i d)

-- each block has its part of the entries of a round, which begins behind so many
pub record AreBlocks (rows : List Row) (behind : ℕ) (blocks : List Block) : Type 0 where
  pub count : length blocks ≡ SHARES
  pub each : (i : ℕ) (d : Block) → i < SHARES → IsBlock rows (behind + i * ROWS) (get_or blocks i d)

-- each share has printed its part of the entries of a round, which begins behind so many
pub record HavePrinted (rows : List Row) (behind : ℕ) (shares : List Share) : Type 0 where
  pub past : ArePast rows (behind + SHARES * ROWS) shares
  pub each : (i : ℕ) (d : Share) → i < SHARES → IsBlock rows (behind + i * ROWS) (get_or shares i d).block

-- whichever entries all shares have gone past, then each has printed its part of the next round, where others stand before it or none do
pub record PrintsRound (later : Bool) (old new : List Share) : Type 0 where
  pub printed : (rows : List Row) (behind : ℕ) → later ≡ nat_lt 0 behind → ArePast rows behind old → HavePrinted rows behind new
