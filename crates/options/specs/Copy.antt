-- The flags of COPY: `--from=..`, `--chown=..`, `--chmod=..` and `--link`, each at most once (Dockerfile reference, COPY; that no flag
-- is repeated: own).
use Rattle.std.specs.Prelude.{ℕ, ◌||◌, ◌&&◌, Bool, true, not, List, Option, Some, None, option_map, option_and_then, if◌then◌else◌, bytes_eq, codes}
use Rattle.std.specs.List.{find, list_all, list_any}
use Rattle.words.specs.declared.flag.Flag.{Flag}
use Rattle.options.specs.Lists.{has_twice}
use Rattle.options.specs.Numbers.{owner_of, mode_of}
use Rattle.options.specs.Value.{is_named, is_filled, is_truth}
use Rattle.options.specs.declared.copy.CopyFlags.{CopyFlags}
use Rattle.plain.specs.declared.owner.Owner.{Owner}

-- whether `--link` may stand with this value: alone, or with `true` or `false`
abbrev pub takes_link : Option (List ℕ) → Bool
takes_link None = true
takes_link (Some value) = is_truth value

-- the flags whose value is a text: `--from`, `--chown` and `--chmod`
abbrev pub has_text : Flag → Bool
has_text flag = is_named (codes "from") flag || (is_named (codes "chown") flag || is_named (codes "chmod") flag)

-- whether COPY knows a flag, and the flag takes its value: a missing value is taken by `--link` alone, an empty one by none
abbrev pub is_copy_flag : Flag → Bool
is_copy_flag flag = if is_named (codes "link") flag then takes_link flag.value else (has_text flag && is_filled flag.value)

-- whether these are flags of a COPY: each is one that it knows, and none is there twice
unfoldable pub are_copy_flags : List Flag → Bool
are_copy_flags flags = list_all is_copy_flag flags && not (has_twice (λ flag. is_named flag.name) flags)

-- whether `--from` is there
unfoldable pub has_from : List Flag → Bool
has_from flags = list_any (is_named (codes "from")) flags

-- what flags say

-- the value of a name: that of the first flag that has it
abbrev pub value_of : List ℕ → List Flag → Option (List ℕ)
value_of name flags = option_and_then (λ flag. flag.value) (find (is_named name) flags)

-- whether a flag links: `--link` alone and `--link=true` do, `--link=false` doesn't
abbrev pub links_by : Option (List ℕ) → Bool
links_by None = true
links_by (Some value) = bytes_eq value (codes "true")

-- whether flags say that the copy is linked
abbrev pub is_linked : List Flag → Bool
is_linked flags = list_any (λ flag. is_named (codes "link") flag && links_by flag.value) flags

-- what a value is read as, if there is one; nothing where there is one that doesn't read
abbrev pub read_if : {X : Type 0} → (List ℕ → Option X) → Option (List ℕ) → Option (Option X)
read_if read None = Some None
read_if read (Some value) = option_map (λ found. Some found) (read value)

-- what flags say with this owner and this mode, where both are read
abbrev pub flags_with : List Flag → Option (Option Owner) → Option (Option ℕ) → Option CopyFlags
flags_with flags None mode = None
flags_with flags (Some owner) None = None
flags_with flags (Some owner) (Some mode) = Some (record { from = value_of (codes "from") flags; owner = owner; mode = mode; is_linked = is_linked flags })

-- what flags say, where the value of `--chown` is an owner and that of `--chmod` a mode
unfoldable pub copy_flags : List Flag → Option CopyFlags
copy_flags flags = flags_with flags (read_if owner_of (value_of (codes "chown") flags)) (read_if mode_of (value_of (codes "chmod") flags))
