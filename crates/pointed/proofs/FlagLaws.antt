-- Laws of the flag that R07 is about: it is the first one with which the flags aren't those of the instruction.
use Rattle.std.proofs.Common.{◌≡◌, ◌<◌, ◌≤◌, ◌+◌, ◌==◌, ◌&&◌, ◌∙◌, ℕ, zero, suc, Bool, true, false, not, List, [], ◌∷◌, Some, None, length, get_or, take, refl, ap, subst, arith}
use Rattle.std.specs.List.{list_all}
use Rattle.std.proofs.lemmas.Bool.{not-true, not-false}
use Rattle.std.proofs.lemmas.List.{length-take-le, take_all}
use Rattle.std.proofs.lemmas.List.Folds.{list_all_more}
use Rattle.words.specs.declared.flag.Flag.{Flag}
use Rattle.options.specs.Copy.{are_copy_flags}
use Rattle.options.specs.Mount.{are_mount_flags, is_mount_flag}
use Rattle.plain.specs.declared.refusal.Code.TheVariants.{R07}
use Rattle.sentences.specs.declared.subject.Subject.{Subject}
use Rattle.sentences.specs.declared.subject.Subject.TheVariants.{Run, Copy}
use Rattle.pointed.specs.Flag.{are_flags_of, first_flag, is_about}
use Rattle.pointed.proofs.FirstFacts.{IsFirst, NonePass, first-is, none-is}

-- a flag as a default, where a list has one
any : Flag
any = record { name = []; value = None }

abbrev told : Subject → List Flag → Flag → Bool
told subject begun flag = is_about R07 subject begun (flag ∷ [])

-- the flags before the one of this number are the instruction's, and with it they aren't
abbrev IsFirstUnknown : Subject → List Flag → ℕ → Type 0
IsFirstUnknown subject flags number =
    (number < length flags) × (are_flags_of subject (take number flags) ≡ true) × (are_flags_of subject (take (number + 1) flags) ≡ false)

and_mount : (a b : Bool) → (a && true) ≡ b → a ≡ b
and_mount true b e = e
and_mount false b e = e

and_false : (a : Bool) → (a && false) ≡ false
and_false true = refl
and_false false = refl

-- ---- COPY

no-copy-flags : are_copy_flags [] ≡ true
unfolding are_copy_flags
no-copy-flags = refl

copy-before : (flags : List Flag) (number : ℕ) → NonePass (told Copy) flags number → are_copy_flags (take number flags) ≡ true
copy-before flags zero none = no-copy-flags
copy-before flags (suc n) none =
    let more : n + 1 ≡ suc n = omega arith in
    subst (λ (k : ℕ). are_copy_flags (take k flags) ≡ true) more (not-false (are_copy_flags (take (n + 1) flags)) (none n any (omega arith)))

-- ---- RUN

mount-alone : (flag : Flag) (b : Bool) → not (are_mount_flags (flag ∷ [])) ≡ b → is_mount_flag flag ≡ not b
unfolding are_mount_flags
mount-alone flag true e = and_mount (is_mount_flag flag) false (not-true (is_mount_flag flag && true) e)
mount-alone flag false e = and_mount (is_mount_flag flag) true (not-false (is_mount_flag flag && true) e)

mounts-before : (flags : List Flag) (number : ℕ) → number ≤ length flags → NonePass (told Run) flags number → are_mount_flags (take number flags) ≡ true
unfolding are_mount_flags
mounts-before flags zero l none = refl
mounts-before flags (suc n) l none =
    let more : n + 1 ≡ suc n = omega arith in
    let rest : list_all is_mount_flag (take n flags) ≡ true = mounts-before flags n (omega arith) (λ k d m. none k d (omega arith)) in
    let here : is_mount_flag (get_or flags n any) ≡ true = mount-alone (get_or flags n any) false (none n any (omega arith)) in
    subst (λ (k : ℕ). list_all is_mount_flag (take k flags) ≡ true) more
    (list_all_more is_mount_flag flags n any (omega arith) ∙ (λ i. rest i && here i))

mounts-with : (flags : List Flag) (number : ℕ) → number < length flags → not (are_mount_flags (get_or flags number any ∷ [])) ≡ true
    → are_mount_flags (take (number + 1) flags) ≡ false
unfolding are_mount_flags
mounts-with flags number l told =
    list_all_more is_mount_flag flags number any l
    ∙ ap (λ t. list_all is_mount_flag (take number flags) && t) (mount-alone (get_or flags number any) true told)
    ∙ and_false (list_all is_mount_flag (take number flags))

-- ---- all others

first-of-all : (flags : List Flag) (number : ℕ) → IsFirst (λ begun flag. true) flags number
    → (number < length flags) × ((length (take number flags) == 0) ≡ true) × ((length (take (number + 1) flags) == 0) ≡ false)
first-of-all flags zero first =
    let one : length (take 1 flags) ≡ 1 = length-take-le 1 flags (omega (arith, first.inside)) in
    (first.inside, refl, ap (λ n. n == 0) one)
first-of-all flags (suc n) first = absurd (let e : true ≡ false = first.before n any (omega arith) in cc)

none-of-all : (flags : List Flag) → NonePass (λ begun flag. true) flags (length flags) → (length flags == 0) ≡ true
none-of-all [] none = refl
none-of-all (flag ∷ flags) none = absurd (let e : true ≡ false = none 0 flag (omega arith) in cc)

-- ---- what is found is the first one

pub first-unknown : (subject : Subject) (flags : List Flag) (number : ℕ) → first_flag R07 subject flags ≡ Some number → IsFirstUnknown subject flags number
first-unknown Copy flags number e =
    let first = first-is (told Copy) flags number e in
    (first.inside, copy-before flags number first.before, not-true (are_copy_flags (take (number + 1) flags)) (first.passes any))
first-unknown Run flags number e =
    let first = first-is (told Run) flags number e in
    let inside : number < length flags = first.inside in
    (inside, mounts-before flags number (omega (arith, inside)) first.before, mounts-with flags number inside (first.passes any))
first-unknown subject flags number e = first-of-all flags number (first-is (λ begun flag. true) flags number e)

-- and where there is none, all are taken
pub none-unknown : (subject : Subject) (flags : List Flag) → first_flag R07 subject flags ≡ None → are_flags_of subject flags ≡ true
none-unknown Copy flags e =
    subst (λ (them : List Flag). are_copy_flags them ≡ true) (take_all (length flags) flags (omega arith)) (copy-before flags (length flags) (none-is (told Copy) flags e))
none-unknown Run flags e =
    subst (λ (them : List Flag). are_mount_flags them ≡ true) (take_all (length flags) flags (omega arith))
    (mounts-before flags (length flags) (omega arith) (none-is (told Run) flags e))
none-unknown subject flags e = none-of-all flags (none-is (λ begun flag. true) flags e)
