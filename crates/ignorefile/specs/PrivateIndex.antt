-- The index of an ignore file's lines: positions of those whose every path ends in one name, by that name, of those whose every path ends
-- in a name with the same first byte, by that byte, of those whose paths all lie right in folders of one name, by that name, of those whose
-- paths all have the same number of names, by that number, and of the others.
use Rattle.std.specs.Prelude.{◌≡◌, ◌-◌, ◌<◌, ◌≤◌, ℕ, List, Option, Some, None, [], ◌∷◌, ◌++◌, ◌⊎◌, cond, length, slice_get, IsUtf8}
use Rattle.std.specs.Ordering.{nat_cmp}
use Rattle.std.specs.Map.{lookup}
use Rattle.std.specs.BTreeMap.{is_at}
use Rattle.std.specs.Cmp.Lexicographic.{slice_cmp}
use Rattle.ignorefile.specs.declared.line.Line.{Line}
use Rattle.ignorefile.specs.declared.positions.Positions.{Positions}
use Rattle.ignorefile.specs.PrivateRanks.{EndsIn, LastBegins, LiesIn, HasCount, RelatesAt, Member, AreInOrder}
use Rattle.ignorefile.specs.PrivatePositions.{under}

abbrev pub positions_of : Option (List ℕ) → List ℕ
positions_of None = []
positions_of (Some ns) = ns

-- the positions under a name
abbrev pub named : List (List ℕ × List ℕ) → List ℕ → List ℕ
named entries name = positions_of (lookup (is_at (slice_cmp nat_cmp name)) entries)

-- the positions under the byte that a name begins with; an empty name begins with none
abbrev pub under_begin : Positions → List ℕ → List ℕ
under_begin begins [] = []
under_begin begins (byte ∷ rest) = under begins byte

-- the positions under the last name of a folder's path; the root has none
abbrev pub lying : List (List ℕ × List ℕ) → List (List ℕ) → List ℕ
lying folders [] = []
lying folders (name ∷ []) = named folders name
lying folders (name ∷ other ∷ more) = lying folders (other ∷ more)

-- a line's position is under the name that its paths end in, under the byte that their last names begin with, under the name of the
-- folders that they lie right in, under the number of names that they have, or among the others
abbrev pub StandsIn : Line → ℕ → List (List ℕ × List ℕ) → List (List ℕ × List ℕ) → Positions → Positions → List ℕ → Type 0
StandsIn line n entries folders begins counts others =
    Member n others
    ⊎ (((name : List ℕ) × (EndsIn line name × Member n (named entries name)))
    ⊎ (((byte : ℕ) × (LastBegins line byte × Member n (under begins byte)))
    ⊎ (((name : List ℕ) × (LiesIn line name × Member n (named folders name)))
    ⊎ ((count : ℕ) × (HasCount line count × Member n (under counts count))))))

-- each line stands in the index, nothing else does, and positions rise
pub record IsIndex (lines : List Line) (entries folders : List (List ℕ × List ℕ)) (begins counts : Positions) (others : List ℕ) : Type 0 where
  pub there : (n : ℕ) (line : Line) → slice_get lines n ≡ Some line → StandsIn line n entries folders begins counts others
  pub named_order : (name : List ℕ) → AreInOrder (length lines) (named entries name)
  pub lying_order : (name : List ℕ) → AreInOrder (length lines) (named folders name)
  pub begun_order : (byte : ℕ) → AreInOrder (length lines) (under begins byte)
  pub counted_order : (count : ℕ) → AreInOrder (length lines) (under counts count)
  pub others_order : AreInOrder (length lines) others

-- a position is added to those of a name
pub record IsAdded (old new : List (List ℕ × List ℕ)) (name : List ℕ) (position : ℕ) : Type 0 where
  pub at : (q : List ℕ) → named new q ≡ cond (is_at (slice_cmp nat_cmp name) q) (named old q ++ position ∷ []) (named old q)

-- of the lines that are found by a path's last name, the greatest rank, from a rank on
pub record IsFound (lines : List Line) (entries : List (List ℕ × List ℕ)) (begins : Positions) (path : List (List ℕ)) (above rank : ℕ) : Type 0 where
  pub least : above ≤ rank
  pub hit : above < rank → RelatesAt lines path (rank - 1)
  pub miss : (front : List (List ℕ)) (last : List ℕ) → path ≡ front ++ last ∷ [] → (n : ℕ) → Member n (under_begin begins last) ⊎ (IsUtf8 last → Member n (named entries last)) → rank ≤ n → RelatesAt lines path n → ⊥
