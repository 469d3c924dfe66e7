-- Small files whose bytes lie one after another in a slab.
use Rattle.std.specs.Prelude.{◌≡◌, ℕ, ◌/◌, Option, Some, None, List, [], ◌∷◌, ◌++◌, codes, if◌then◌else◌, length, nat_le}
use Rattle.serde_json.specs.Data.{Members}
use Rattle.serde_json.specs.Find.{get_member}
use Rattle.entries.specs.Reading.{content_of}
use Rattle.entries.specs.PrivateKeys.{Spells, lent_text}
use Rattle.entries.specs.declared.spelled.Spelled.{Spelled}

-- a number, if it is that of few bytes
abbrev pub if_short : ℕ → Option ℕ
if_short len = if nat_le len 512 then Some len else None

-- how many bytes a text or hexadecimal has, if they are few
abbrev pub short_len : Option (List ℕ) → Option (List ℕ) → Option ℕ
short_len (Some text) None = if_short (length text)
short_len None (Some hex) = if_short (length hex / 2)
short_len None None = None
short_len (Some text) (Some hex) = None

-- whatever members are spelled so, these are the file's bytes
abbrev pub IsContentOf : Spelled → List ℕ → Type 0
IsContentOf spelled bytes = (found : Members) → Spells spelled found → content_of (get_member (codes "text") found) (get_member (codes "hex") found) ≡ Some bytes

-- what a slab has of a file, of which so many bytes share it: those, or none
abbrev pub IsOwnOf : Spelled → Option ℕ → List ℕ → Type 0
IsOwnOf spelled None own = own ≡ []
IsOwnOf spelled (Some len) own = (length own ≡ len) × IsContentOf spelled own

abbrev pub IsOwn : Spelled → List ℕ → Type 0
IsOwn spelled own = IsOwnOf spelled (short_len (lent_text spelled.text) (lent_text spelled.hex)) own

-- what a slab has of a file is added
abbrev pub AddsOwn : Spelled → List ℕ → List ℕ → Type 0
AddsOwn spelled old new = (own : List ℕ) × (new ≡ old ++ own) × IsOwn spelled own

-- a slab has the bytes of these files, one after another
abbrev pub AreIn : List Spelled → List ℕ → Type 0
AreIn [] slab = slab ≡ []
AreIn (one ∷ more) slab = (own : List ℕ) × (left : List ℕ) × (slab ≡ own ++ left) × IsOwn one own × AreIn more left
