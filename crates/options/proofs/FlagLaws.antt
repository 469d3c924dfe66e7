-- Laws of flags that COPY and RUN know: what they say is well-formed.
use Rattle.std.specs.Prelude.{◌≡◌, ◌≢◌, ◌<◌, ℕ, suc, ◌+◌, ◌-◌, ◌*◌, ◌&&◌, ◌||◌, nat_le, Bool, true, false, not, List, [], ◌∷◌}
use Rattle.std.specs.Prelude.{Option, Some, None, option_map, option_and_then, length, map, if◌then◌else◌, codes, refl}
use Rattle.std.specs.List.{find, list_all, list_any}
use Rattle.std.proofs.Common.{sym, ◌∙◌, ap, subst, true≢false, arith}
use Rattle.std.proofs.lemmas.Bool.Decides.{nat_tests}
use Rattle.std.proofs.lemmas.List.{length-map}
use Rattle.std.proofs.lemmas.Slice.Eq.{bytes_eq-Decides}
use Rattle.options.specs.Copy.{is_copy_flag, are_copy_flags, value_of, read_if, flags_with, copy_flags, has_from}
use Rattle.options.specs.Lists.{all_some, has_twice}
use Rattle.options.specs.Mount.{mount_in, mounts}
use Rattle.options.specs.Numbers.{owner_of, octal_digit, mode_with, mode_of}
use Rattle.options.specs.Value.{is_named, is_filled}
use Rattle.options.specs.declared.copy.CopyFlags.{CopyFlags}
use Rattle.options.specs.declared.mount.Mount.{Mount}
use Rattle.plain.specs.declared.owner.Owner.{Owner}
use Rattle.words.specs.declared.flag.Flag.{Flag}

some_is : {X : Type 0} (a b : X) → Some a ≡ Some b → a ≡ b
some_is a b e = cc

none_is : {X : Type 0} (a : X) → None ≡ Some a → ⊥
none_is a e = cc

-- a RUN has as many mounts as flags

all_some-length_by : {X : Type 0} (x : X) (os : List (Option X)) (xs : List X) (o : Option (List X)) → ((ys : List X) → o ≡ Some ys → length ys ≡ length os)
    → option_map (λ ys. x ∷ ys) o ≡ Some xs → length xs ≡ suc (length os)
all_some-length_by x os xs None rest h = absurd (none_is xs h)
all_some-length_by x os xs (Some ys) rest h = ap length (sym (some_is (x ∷ ys) xs h)) ∙ ap suc (rest ys refl)

all_some-length : {X : Type 0} (os : List (Option X)) (xs : List X) → all_some os ≡ Some xs → length xs ≡ length os
all_some-length [] xs h = ap length (sym (some_is [] xs h))
all_some-length (None ∷ os) xs h = absurd (none_is xs h)
all_some-length (Some x ∷ os) xs h = all_some-length_by x os xs (all_some os) (all_some-length os) h

pub mounts-length : (flags : List Flag) (found : List Mount) → mounts flags ≡ Some found → length found ≡ length flags
unfolding mounts
mounts-length flags found h = all_some-length (map mount_in flags) found h ∙ length-map flags mount_in

-- what `--from` names

and_first : (a b : Bool) → (a && b) ≡ true → a ≡ true
and_first true b h = refl
and_first false b h = h

from_filled : (name : List ℕ) (value : Option (List ℕ)) → name ≡ codes "from" → is_copy_flag (record { name = name; value = value }) ≡ true → is_filled value ≡ true
from_filled name value e h =
    let is : is_copy_flag (record { name = codes "from"; value = value }) ≡ true =
    subst (λ (n : List ℕ). is_copy_flag (record { name = n; value = value }) ≡ true) e h in is

not_empty : (value : Option (List ℕ)) (name : List ℕ) → value ≡ Some name → is_filled value ≡ true → name ≢ []
not_empty value name e h n =
    let bad : is_filled (Some []) ≡ true =
    subst (λ (text : List ℕ). is_filled (Some text) ≡ true) n (subst (λ (v : Option (List ℕ)). is_filled v ≡ true) e h) in true≢false (sym bad)

abbrev Names : Flag → List Flag → Bool → List ℕ → Type 0
Names flag flags named name = option_and_then (λ (f : Flag). f.value) (if named then Some flag else find (is_named (codes "from")) flags) ≡ Some name

from_named_by : (flag : Flag) (flags : List Flag) (name : List ℕ) (known named : Bool) → is_copy_flag flag ≡ known → is_named (codes "from") flag ≡ named
    → (list_all is_copy_flag flags ≡ true → value_of (codes "from") flags ≡ Some name → name ≢ [])
    → (known && list_all is_copy_flag flags) ≡ true → Names flag flags named name → name ≢ []
from_named_by flag flags name false named k n rest all h = absurd (true≢false (sym all))
from_named_by flag flags name true true k n rest all h =
    not_empty flag.value name h (from_filled flag.name flag.value ((bytes_eq-Decides flag.name (codes "from")).0 n) k)
from_named_by flag flags name true false k n rest all h = rest all h

from_named : (flags : List Flag) (name : List ℕ) → list_all is_copy_flag flags ≡ true → value_of (codes "from") flags ≡ Some name → name ≢ []
from_named [] name all h = absurd (none_is name h)
from_named (flag ∷ flags) name all h = from_named_by flag flags name (is_copy_flag flag) (is_named (codes "from") flag) refl refl (from_named flags name) all h

from_said : (flags : List Flag) (said : CopyFlags) (owner : Option (Option Owner)) (mode : Option (Option ℕ)) → flags_with flags owner mode ≡ Some said
    → said.from ≡ value_of (codes "from") flags
from_said flags said None mode h = absurd (none_is said h)
from_said flags said (Some owner) None h = absurd (none_is said h)
from_said flags said (Some owner) (Some mode) h = ap (λ (s : CopyFlags). s.from) (sym (some_is _ said h))

pub from_is_filled : (flags : List Flag) (said : CopyFlags) (name : List ℕ) → are_copy_flags flags ≡ true → copy_flags flags ≡ Some said
    → said.from ≡ Some name → name ≢ []
unfolding are_copy_flags copy_flags
from_is_filled flags said name known h from =
    from_named flags name (and_first (list_all is_copy_flag flags) (not (has_twice (λ flag. is_named flag.name) flags)) known)
    (sym (from_said flags said (read_if owner_of (value_of (codes "chown") flags)) (read_if mode_of (value_of (codes "chmod") flags)) h) ∙ from)

-- where something is said of `--from`, the flag is there

found_there_by : (flag : Flag) (flags : List Flag) (name : List ℕ) (named : Bool)
    → (value_of (codes "from") flags ≡ Some name → list_any (is_named (codes "from")) flags ≡ true) → Names flag flags named name
    → (named || list_any (is_named (codes "from")) flags) ≡ true
found_there_by flag flags name true rest h = refl
found_there_by flag flags name false rest h = rest h

found_there : (flags : List Flag) (name : List ℕ) → value_of (codes "from") flags ≡ Some name → list_any (is_named (codes "from")) flags ≡ true
found_there [] name h = absurd (none_is name h)
found_there (flag ∷ flags) name h = found_there_by flag flags name (is_named (codes "from") flag) (found_there flags name) h

pub from_is_there : (flags : List Flag) (said : CopyFlags) (name : List ℕ) → copy_flags flags ≡ Some said → said.from ≡ Some name → has_from flags ≡ true
unfolding copy_flags has_from
from_is_there flags said name h from =
    found_there flags name
    (sym (from_said flags said (read_if owner_of (value_of (codes "chown") flags)) (read_if mode_of (value_of (codes "chmod") flags)) h) ∙ from)

-- a mode has permission bits alone

octal_small_by : (c d : ℕ) (b : Bool) → (nat_le 48 c && nat_le c 55) ≡ b → (if b then Some (c - 48) else None) ≡ Some d → d < 8
octal_small_by c d true e h = let is = some_is (c - 48) d h in grind (arith, nat_tests)
octal_small_by c d false e h = absurd (none_is d h)

octal_small : (c d : ℕ) → octal_digit c ≡ Some d → d < 8
octal_small c d h = octal_small_by c d (nat_le 48 c && nat_le c 55) refl h

abbrev IsOctal : Option ℕ → Type 0
IsOctal digit = (x : ℕ) → digit ≡ Some x → x < 8

with_small : (first : ℕ) (b c d : Option ℕ) (mode : ℕ) → first < 8 → IsOctal b → IsOctal c → IsOctal d → mode_with first b c d ≡ Some mode → mode < 4096
with_small first None None None mode f h i j is = absurd (none_is mode is)
with_small first None None (Some z) mode f h i j is = absurd (none_is mode is)
with_small first None (Some y) None mode f h i j is = absurd (none_is mode is)
with_small first None (Some y) (Some z) mode f h i j is = absurd (none_is mode is)
with_small first (Some x) None None mode f h i j is = absurd (none_is mode is)
with_small first (Some x) None (Some z) mode f h i j is = absurd (none_is mode is)
with_small first (Some x) (Some y) None mode f h i j is = absurd (none_is mode is)
with_small first (Some x) (Some y) (Some z) mode f h i j is =
    omega (arith, f, h x refl, i y refl, j z refl, some_is (((first * 8 + x) * 8 + y) * 8 + z) mode is)

first_small : (o b c d : Option ℕ) (mode : ℕ) → IsOctal o → IsOctal b → IsOctal c → IsOctal d → option_and_then (λ first. mode_with first b c d) o ≡ Some mode
    → mode < 4096
first_small None b c d mode g h i j is = absurd (none_is mode is)
first_small (Some first) b c d mode g h i j is = with_small first b c d mode (g first refl) h i j is

mode_small : (text : List ℕ) (mode : ℕ) → mode_of text ≡ Some mode → mode < 4096
unfolding mode_of
mode_small [] mode h = absurd (none_is mode h)
mode_small (a ∷ []) mode h = absurd (none_is mode h)
mode_small (a ∷ b ∷ []) mode h = absurd (none_is mode h)
mode_small (a ∷ b ∷ c ∷ []) mode h =
    with_small 0 (octal_digit a) (octal_digit b) (octal_digit c) mode (omega arith) (octal_small a) (octal_small b) (octal_small c) h
mode_small (a ∷ b ∷ c ∷ d ∷ []) mode h =
    first_small (octal_digit a) (octal_digit b) (octal_digit c) (octal_digit d) mode (octal_small a) (octal_small b) (octal_small c) (octal_small d) h
mode_small (a ∷ b ∷ c ∷ d ∷ e ∷ rest) mode h = absurd (none_is mode h)

read_small_by : (o : Option ℕ) (mode : ℕ) → ((m : ℕ) → o ≡ Some m → m < 4096) → option_map (λ x. Some x) o ≡ Some (Some mode) → mode < 4096
read_small_by None mode small h = absurd (none_is (Some mode) h)
read_small_by (Some m) mode small h = subst (λ n. n < 4096) (some_is m mode (some_is (Some m) (Some mode) h)) (small m refl)

read_small : (value : Option (List ℕ)) (mode : ℕ) → read_if mode_of value ≡ Some (Some mode) → mode < 4096
read_small None mode h = let e : None ≡ Some mode = some_is None (Some mode) h in absurd (none_is mode e)
read_small (Some text) mode h = read_small_by (mode_of text) mode (mode_small text) h

mode_said : (flags : List Flag) (said : CopyFlags) (owner : Option (Option Owner)) (mode : Option (Option ℕ)) → flags_with flags owner mode ≡ Some said
    → mode ≡ Some said.mode
mode_said flags said None mode h = absurd (none_is said h)
mode_said flags said (Some owner) None h = absurd (none_is said h)
mode_said flags said (Some owner) (Some mode) h = ap (λ (s : CopyFlags). Some s.mode) (some_is _ said h)

pub mode_fits : (flags : List Flag) (said : CopyFlags) (mode : ℕ) → copy_flags flags ≡ Some said → said.mode ≡ Some mode → mode < 4096
unfolding copy_flags
mode_fits flags said mode h is =
    read_small (value_of (codes "chmod") flags) mode
    (mode_said flags said (read_if owner_of (value_of (codes "chown") flags)) (read_if mode_of (value_of (codes "chmod") flags)) h
    ∙ ap (λ (m : Option ℕ). Some m) is)
