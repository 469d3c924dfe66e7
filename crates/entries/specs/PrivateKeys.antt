-- What stands at the keys that an entry may have.
use Rattle.std.specs.Prelude.{◌≡◌, ℕ, ◌<◌, Bool, true, false, Option, Some, None, List, [], ◌∷◌, ◌++◌, length, bytes_eq, codes, option_map}
use Rattle.std.specs.Borrow.{Bor}
use Rattle.std.specs.List.{AllZip, list_any}
use Rattle.json.specs.Json.{after_end_array}
use Rattle.json.specs.Token.{Token}
use Rattle.serde_json.specs.Data.{Data, Members, object}
use Rattle.serde_json.specs.Find.{as_bool, as_str, get_member}
use Rattle.strict.specs.Strict.{at_most_one, has_only, short_number_in}
use Rattle.borrowed.specs.Lent.{lent_data}
use Rattle.borrowed.specs.Pulled.{IsNext}
use Rattle.trees.specs.Row.{Row}
use Rattle.entries.specs.Reading.{row_in}
use Rattle.entries.specs.declared.spelled.Spelled.{Spelled}
use Rattle.entries.specs.declared.reading.Keys.{Keys}

-- each of them is what is found at its key
pub record AreKeys (keys : Keys) (at : List ℕ → Option Data) : Type 0 where
  pub dir : lent_data keys.dir ≡ at (codes "dir")
  pub gid : lent_data keys.gid ≡ at (codes "gid")
  pub hex : lent_data keys.hex ≡ at (codes "hex")
  pub mode : lent_data keys.mode ≡ at (codes "mode")
  pub path : lent_data keys.path ≡ at (codes "path")
  pub text : lent_data keys.text ≡ at (codes "text")
  pub uid : lent_data keys.uid ≡ at (codes "uid")

-- a key that an entry may have
abbrev pub is_entry_key : List ℕ → Bool
is_entry_key key = list_any (λ known. bytes_eq known key) (codes "dir" ∷ codes "gid" ∷ codes "hex" ∷ codes "mode" ∷ codes "path" ∷ codes "text" ∷ codes "uid" ∷ [])

-- a text that is lent, if there is one
abbrev pub lent_text : Option (Bor (List ℕ)) → Option (List ℕ)
lent_text o = option_map (λ s. s.now) o

-- some members have no other keys, and this is what their values are read as
pub record Spells (spelled : Spelled) (found : Members) : Type 0 where
  pub known : has_only is_entry_key found ≡ true
  pub dir : at_most_one as_bool (get_member (codes "dir") found) ≡ Some spelled.dir
  pub gid : at_most_one short_number_in (get_member (codes "gid") found) ≡ Some spelled.gid
  pub hex : at_most_one as_str (get_member (codes "hex") found) ≡ Some (lent_text spelled.hex)
  pub mode : at_most_one as_str (get_member (codes "mode") found) ≡ Some (lent_text spelled.mode)
  pub path : at_most_one as_str (get_member (codes "path") found) ≡ Some (lent_text spelled.path)
  pub text : at_most_one as_str (get_member (codes "text") found) ≡ Some (lent_text spelled.text)
  pub uid : at_most_one short_number_in (get_member (codes "uid") found) ≡ Some spelled.uid

-- whatever members are spelled so, the object with these is the row
abbrev pub IsRowOf : Spelled → Row → Type 0
IsRowOf spelled row = (found : Members) → Spells spelled found → row_in (object found) ≡ Some row

-- the rows of entries, in their order
abbrev pub AreRowsOf : List Spelled → List Row → Type 0
AreRowsOf spelled rows = AllZip IsRowOf spelled rows

-- behind some rows those of these entries were added
abbrev pub AddsRows : List Spelled → List Row → List Row → Type 0
AddsRows spelled rows more = (made : List Row) × (more ≡ rows ++ made) × AreRowsOf spelled made

-- these entries are the next items of a list, and its tokens go on behind them
abbrev pub Reads : ℕ → List Token → List Spelled → List Token → Type 0
Reads depth first [] left = first ≡ left
Reads depth first (one ∷ more) left = (mid : List Token) × (found : Members) × (after_end_array first ≡ None) × IsNext depth first mid (object found) × Spells one found × Reads depth mid more left

-- behind its items so far a list goes on, or the bracket that closes it was taken
abbrev pub StopsAt : List Token → List Token → Bool → Type 0
StopsAt last left true = last ≡ left
StopsAt last left false = after_end_array last ≡ Some left

-- these entries are the next items of a list, which goes on behind them or not
abbrev pub ReadsBatch : ℕ → List Token → List Token → List Spelled → Bool → Type 0
ReadsBatch depth first left spelled more = (last : List Token) × Reads depth first spelled last × StopsAt last left more × (length left < length first)
