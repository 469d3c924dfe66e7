-- Laws of which word of a line a code is about.
use Rattle.std.proofs.Common.{◌≡◌, ◌<◌, ◌+◌, ◌++◌, ◌&&◌, ◌||◌, ◌⊎◌, ◌∙◌, ℕ, suc, Bool, true, false, not, List, [], ◌∷◌, Option, Some, None, inl, inr, codes, cond, is_some, length, get_or, map, take, refl, sym, ap, subst, arith, if◌then◌else◌}
use Rattle.std.specs.List.{list_all, list_any, take_while}
use Rattle.std.specs.Option.{option_or}
use Rattle.std.specs.Str.{str_eq_ignore_ascii_case}
use Rattle.std.proofs.lemmas.Bool.{not-true}
use Rattle.std.proofs.lemmas.List.{length-append, length-map, map-append, take_at}
use Rattle.std.proofs.lemmas.List.Sums.{take_while-cons}
use Rattle.std.proofs.lemmas.Option.{none-some, same_Some}
use Rattle.ascii.specs.Names.{is_name}
use Rattle.ascii.specs.Pieces.{pieces, first_piece, behind_piece, is_filled}
use Rattle.ascii.proofs.PieceLaws.{cut}
use Rattle.plain.specs.declared.refusal.Code.TheVariants.{R04, R07, R10, R11, R12, R16, R17}
use Rattle.lines.specs.Marks.{is_flag, after_flags}
use Rattle.words.specs.Flag.{behind_flags, flag_of, flag_pieces, flags}
use Rattle.words.specs.declared.flag.Flag.{Flag}
use Rattle.words.proofs.FlagLaws.{pieces-behind_flags}
use Rattle.options.specs.Copy.{copy_flags, has_from}
use Rattle.options.specs.Mount.{mounts}
use Rattle.instructions.specs.Arg.{argument_cut}
use Rattle.sentences.specs.Subject.{subject_of}
use Rattle.sentences.specs.declared.subject.Subject.{Subject}
use Rattle.sentences.specs.declared.subject.Subject.TheVariants.{From, Arg, Env, Expose, Run, Copy}
use Rattle.pointed.specs.First.{first_that}
use Rattle.pointed.specs.Flag.{are_flags_of, first_flag, flag_number, is_followed, only_flag}
use Rattle.pointed.specs.Pointing.{number_of, pointed}
use Rattle.pointed.specs.Spot.{Spot, is_whole}
use Rattle.pointed.specs.Stands.{flag_at, flags_before, pieces_before, IsAfterAs, IsArgumentOf, IsFlagOf, IsOnlyFlagOf, IsPieceOf}
use Rattle.pointed.specs.Word.{bad_port, first_of, first_wrong, has_bad_name, is_no_port, is_plain, only_piece, plain_words, stage_name, word_number}
use Rattle.pointed.proofs.FirstFacts.{IsFirst, first-is}
use Rattle.pointed.proofs.FlagLaws.{first-unknown}
use Rattle.pointed.proofs.FrontFacts.{all-pass, none-before, passes-here, reaches, with-it}
use Rattle.pointed.proofs.PlaceLaws.{IsAfterName, found-is, piece-at}
use Rattle.pointed.proofs.PointedLaws.{trimmed-pieces}
use Rattle.pointed.proofs.SpotFacts.{something}

-- ---- R04

pub name-pointed : (line : List ℕ) (spot : Spot) → pointed R04 line ≡ Some spot → IsPieceOf line 0 spot
unfolding pointed
name-pointed line spot e = piece-at line 0 spot e

-- ---- a word that is a flag

record IsFlagAt (line : List ℕ) (number : ℕ) (spot : Spot) : Type 0 where
  flag : IsFlagOf line spot
  rest : List Flag
  flags_are : flags (behind_piece line) ≡ flags_before spot ++ flag_at spot ∷ rest
  count : length (flags_before spot) ≡ number

flag-place : (line : List ℕ) (number : ℕ) (spot : Spot) → IsAfterName line number spot → number < length (flags (behind_piece line)) → IsFlagAt line number spot
unfolding flags
flag-place line number spot place l =
    let short : length (map flag_of (flag_pieces (behind_piece line))) ≡ length (flag_pieces (behind_piece line)) =
    length-map (flag_pieces (behind_piece line)) flag_of in
    let inside : length (pieces_before spot) < length (flag_pieces (behind_piece line)) = omega (arith, l, short, place.count) in
    let found =
    reaches is_flag (pieces_before spot) spot.word place.place.behind
    (subst (λ ps. length (pieces_before spot) < length (take_while is_flag ps)) place.pieces_are inside) in
    record {
      flag = record { number = number; place = place.place; before = found.before; is = found.is };
      rest = map flag_of found.rest;
      flags_are =
          ap (λ ps. map flag_of (take_while is_flag ps)) place.pieces_are ∙ ap (map flag_of) found.found_is
          ∙ map-append flag_of (pieces_before spot) (spot.word ∷ found.rest);
      count = length-map (pieces_before spot) flag_of ∙ place.count;
    }

-- the word is the first flag that passes a test
record IsFirstFlag (test : Flag → Bool) (line : List ℕ) (spot : Spot) : Type 0 where
  flag : IsFlagOf line spot
  is : test (flag_at spot) ≡ true
  before : list_any test (flags_before spot) ≡ false

flag-first : (test : Flag → Bool) (line : List ℕ) (number : ℕ) (spot : Spot) → IsAfterName line number spot
    → first_that (λ begun flag. test flag) (flags (behind_piece line)) ≡ Some number → IsFirstFlag test line spot
flag-first test line number spot place e =
    let first = first-is (λ begun flag. test flag) (flags (behind_piece line)) number e in
    let here = flag-place line number spot place first.inside in
    let there = subst (λ fs. IsFirst (λ begun flag. test flag) fs number) here.flags_are first in
    record {
      flag = here.flag;
      is = passes-here (λ begun flag. test flag) (flags_before spot) (flag_at spot) here.rest number here.count there;
      before = none-before test (flags_before spot) (flag_at spot) here.rest number here.count there;
    }

-- ---- R07

unknown-number : (subject : Subject) (text : List ℕ) (number : ℕ) → number_of R07 subject text ≡ Some number → first_flag R07 subject (flags text) ≡ Some number
unfolding flag_number
unknown-number Run text number e = e
unknown-number subject text number e = e

abbrev IsFirstUnknown : List ℕ → Spot → Type 0
IsFirstUnknown line spot =
    IsFlagOf line spot × (are_flags_of (subject_of line) (flags_before spot) ≡ true)
    × (are_flags_of (subject_of line) (flags_before spot ++ flag_at spot ∷ []) ≡ false)

unknown-at : (line : List ℕ) (number : ℕ) (spot : Spot) → IsAfterName line number spot → first_flag R07 (subject_of line) (flags (behind_piece line)) ≡ Some number
    → IsFirstUnknown line spot
unknown-at line number spot place e =
    let subject = subject_of line in
    let found = first-unknown subject (flags (behind_piece line)) number e in
    let here = flag-place line number spot place found.0 in
    let front : take number (flags (behind_piece line)) ≡ flags_before spot =
    ap (take number) here.flags_are ∙ take_at (flags_before spot) (flag_at spot ∷ here.rest) number here.count in
    let with : take (number + 1) (flags (behind_piece line)) ≡ flags_before spot ++ flag_at spot ∷ [] =
    ap (take (number + 1)) here.flags_are ∙ with-it (flags_before spot) (flag_at spot) here.rest number here.count in
    (here.flag, ap (are_flags_of subject) (sym front) ∙ found.1, ap (are_flags_of subject) (sym with) ∙ found.2)

pub unknown-pointed : (line : List ℕ) (spot : Spot) → pointed R07 line ≡ Some spot → IsFirstUnknown line spot
unfolding pointed
unknown-pointed line spot e =
    let found = found-is line (number_of R07 (subject_of line) (behind_piece line)) spot e in
    unknown-at line found.at spot found.place (unknown-number (subject_of line) (behind_piece line) found.at found.is)

-- ---- a flag by another code

from_by : (b one other : Bool) → ((b || false) || one) ≡ false → (one ≡ false → other ≡ false) → (b || other) ≡ false
from_by true one other e go = absurd (let no : true ≡ false = e in cc)
from_by false one other e go = go e

no-from : (flags : List Flag) → list_any (λ flag. has_from (flag ∷ [])) flags ≡ false → has_from flags ≡ false
unfolding has_from
no-from [] e = refl
no-from (flag ∷ flags) e = from_by _ (list_any (λ other. has_from (other ∷ [])) flags) (has_from flags) e (no-from flags)

from-number : (text : List ℕ) (number : ℕ) → number_of R12 Copy text ≡ Some number → first_that (λ begun flag. has_from (flag ∷ [])) (flags text) ≡ Some number
unfolding flag_number
from-number text number e = e

pub from-pointed : (line : List ℕ) (spot : Spot) → subject_of line ≡ Copy → pointed R12 line ≡ Some spot
    → IsFlagOf line spot × (has_from (flag_at spot ∷ []) ≡ true) × (has_from (flags_before spot) ≡ false)
unfolding pointed
from-pointed line spot same e =
    let found = found-is line (number_of R12 (subject_of line) (behind_piece line)) spot e in
    let number = from-number (behind_piece line) found.at (ap (λ s. number_of R12 s (behind_piece line)) (sym same) ∙ found.is) in
    let first = flag-first (λ flag. has_from (flag ∷ [])) line found.at spot found.place number in
    (first.flag, first.is, no-from (flags_before spot) first.before)

numbers-number : (text : List ℕ) (number : ℕ) → number_of R16 Copy text ≡ Some number
    → first_that (λ begun flag. not (is_some (copy_flags (flag ∷ [])))) (flags text) ≡ Some number
unfolding flag_number
numbers-number text number e = e

pub numbers-pointed : (line : List ℕ) (spot : Spot) → subject_of line ≡ Copy → pointed R16 line ≡ Some spot
    → IsFlagOf line spot × (is_some (copy_flags (flag_at spot ∷ [])) ≡ false) × (list_all (λ flag. is_some (copy_flags (flag ∷ []))) (flags_before spot) ≡ true)
unfolding pointed
numbers-pointed line spot same e =
    let found = found-is line (number_of R16 (subject_of line) (behind_piece line)) spot e in
    let number = numbers-number (behind_piece line) found.at (ap (λ s. number_of R16 s (behind_piece line)) (sym same) ∙ found.is) in
    let first = flag-first (λ flag. not (is_some (copy_flags (flag ∷ [])))) line found.at spot found.place number in
    (first.flag, not-true (is_some (copy_flags (flag_at spot ∷ []))) first.is, all-pass (λ flag. is_some (copy_flags (flag ∷ []))) (flags_before spot) first.before)

mount-number : (text : List ℕ) (number : ℕ) → number_of R17 Run text ≡ Some number
    → first_that (λ begun flag. not (is_some (mounts (flag ∷ [])))) (flags text) ≡ Some number
unfolding flag_number
mount-number text number e = e

pub mount-pointed : (line : List ℕ) (spot : Spot) → subject_of line ≡ Run → pointed R17 line ≡ Some spot
    → IsFlagOf line spot × (is_some (mounts (flag_at spot ∷ [])) ≡ false) × (list_all (λ flag. is_some (mounts (flag ∷ []))) (flags_before spot) ≡ true)
unfolding pointed
mount-pointed line spot same e =
    let found = found-is line (number_of R17 (subject_of line) (behind_piece line)) spot e in
    let number = mount-number (behind_piece line) found.at (ap (λ s. number_of R17 s (behind_piece line)) (sym same) ∙ found.is) in
    let first = flag-first (λ flag. not (is_some (mounts (flag ∷ [])))) line found.at spot found.place number in
    (first.flag, not-true (is_some (mounts (flag_at spot ∷ []))) first.is, all-pass (λ flag. is_some (mounts (flag ∷ []))) (flags_before spot) first.before)

-- ---- R12 of a RUN

record IsOnly (flags : List Flag) (rest : List ℕ) (number : ℕ) : Type 0 where
  first : number ≡ 0
  one : length flags ≡ 1
  followed : is_followed rest ≡ true

only_by : (flag : Flag) (rest : List ℕ) (number : ℕ) (b : Bool) → is_followed rest ≡ b → (if b then Some 0 else None) ≡ Some number → IsOnly (flag ∷ []) rest number
only_by flag rest number true h e = record { first = sym (same_Some 0 number e); one = refl; followed = h }
only_by flag rest number false h e = absurd (none-some number e)

only-is : (flags : List Flag) (rest : List ℕ) (number : ℕ) → only_flag flags rest ≡ Some number → IsOnly flags rest number
only-is [] rest number e = absurd (none-some number e)
only-is (flag ∷ []) rest number e = only_by flag rest number (is_followed rest) refl e
only-is (flag ∷ other ∷ more) rest number e = absurd (none-some number e)

both : (a b : Bool) → (a && b) ≡ true → (a ≡ true) × (b ≡ true)
both true b e = (refl, e)
both false b e = absurd (let no : false ≡ true = e in cc)

no-more_by : (p : List ℕ) (ps : List (List ℕ)) (next : List ℕ) (more : List (List ℕ)) (b : Bool) → is_flag p ≡ b
    → length (cond b (p ∷ take_while is_flag ps) []) ≡ 0 → (if b then after_flags ps else p ∷ ps) ≡ next ∷ more
    → (p ∷ ps ≡ next ∷ more) × (is_flag next ≡ false)
no-more_by p ps next more true h z e = absurd (omega (arith, z))
no-more_by p ps next more false h z e = (e, ap (λ (qs : List (List ℕ)). is_flag (get_or qs 0 [])) (sym e) ∙ h)

no-more : (ps : List (List ℕ)) (next : List ℕ) (more : List (List ℕ)) → length (take_while is_flag ps) ≡ 0 → after_flags ps ≡ next ∷ more
    → (ps ≡ next ∷ more) × (is_flag next ≡ false)
no-more [] next more z e = absurd (let none : 0 ≡ suc (length more) = ap length e in omega (arith, none))
no-more (p ∷ ps) next more z e = no-more_by p ps next more (is_flag p) refl (sym (ap length (take_while-cons is_flag p ps)) ∙ z) e

-- the pieces after the only flag
after-only : (p : List ℕ) (ps : List (List ℕ)) (next : List ℕ) (more : List (List ℕ)) → is_flag p ≡ true → length (take_while is_flag (p ∷ ps)) ≡ 1
    → after_flags (p ∷ ps) ≡ next ∷ more → (ps ≡ next ∷ more) × (is_flag next ≡ false)
after-only p ps next more h one e =
    let cut_one : suc (length (take_while is_flag ps)) ≡ 1 =
    sym (ap length (take_while-cons is_flag p ps) ∙ ap (λ b. length (cond b (p ∷ take_while is_flag ps) [])) h) ∙ one in
    no-more ps next more (omega (arith, cut_one)) (sym (ap (λ b. if b then after_flags ps else p ∷ ps) h) ∙ e)

none-long : (ps : List (List ℕ)) → length ps ≡ 0 → ps ≡ []
none-long [] e = refl
none-long (p ∷ ps) e = absurd (omega (arith, e))

followed-by : (text : List ℕ) → is_followed (behind_flags text) ≡ true
    → (is_whole (first_piece (behind_flags text)) ≡ true)
    × (after_flags (pieces text) ≡ first_piece (behind_flags text) ∷ pieces (behind_piece (behind_flags text)))
unfolding behind_flags
followed-by text e =
    let rest = behind_flags text in
    let said = both (is_filled (first_piece rest)) (is_whole (first_piece rest)) e in
    (said.1, sym (pieces-behind_flags text) ∙ (cut rest (trimmed-pieces (length (flag_pieces text)) text) (something rest said.0)).first)

only-at : (line : List ℕ) (spot : Spot) → IsAfterName line 0 spot → length (flags (behind_piece line)) ≡ 1 → is_followed (behind_flags (behind_piece line)) ≡ true
    → IsOnlyFlagOf line spot
unfolding flags
only-at line spot place one followed =
    let text = behind_piece line in
    let here = flag-place line 0 spot place (omega (arith, one)) in
    let said = followed-by text followed in
    let none : pieces_before spot ≡ [] = none-long (pieces_before spot) place.count in
    let are : pieces text ≡ spot.word ∷ place.place.behind =
    place.pieces_are ∙ ap (λ (ps : List (List ℕ)). ps ++ spot.word ∷ place.place.behind) none in
    let single : length (take_while is_flag (spot.word ∷ place.place.behind)) ≡ 1 =
    sym (ap (λ ps. length (take_while is_flag ps)) are) ∙ sym (length-map (flag_pieces text) flag_of) ∙ one in
    let after =
    after-only spot.word place.place.behind (first_piece (behind_flags text)) (pieces (behind_piece (behind_flags text))) here.flag.is single
    (sym (ap after_flags are) ∙ said.1) in
    record {
      place = place.place;
      is = here.flag.is;
      next = first_piece (behind_flags text);
      more = pieces (behind_piece (behind_flags text));
      next_is = after.0;
      no_flag = after.1;
      whole = said.0;
    }

only-number : (text : List ℕ) (number : ℕ) → number_of R12 Run text ≡ Some number → only_flag (flags text) (behind_flags text) ≡ Some number
unfolding flag_number
only-number text number e = e

pub only-pointed : (line : List ℕ) (spot : Spot) → subject_of line ≡ Run → pointed R12 line ≡ Some spot → IsOnlyFlagOf line spot
unfolding pointed
only-pointed line spot same e =
    let text = behind_piece line in
    let found = found-is line (number_of R12 (subject_of line) text) spot e in
    let number = only-number text found.at (ap (λ s. number_of R12 s text) (sym same) ∙ found.is) in
    let only = only-is (flags text) (behind_flags text) found.at number in
    only-at line spot (subst (λ (n : ℕ). IsAfterName line n spot) only.first found.place) only.one only.followed

-- ---- a word that is no flag

record IsArgumentAt (line : List ℕ) (spot : Spot) : Type 0 where
  argument : IsArgumentOf line spot
  rest : List (List ℕ)
  words_are : plain_words (pieces (behind_piece line)) ≡ pieces_before spot ++ spot.word ∷ rest

argument-place : (line : List ℕ) (number : ℕ) (spot : Spot) → IsAfterName line number spot → number < length (plain_words (pieces (behind_piece line))) → IsArgumentAt line spot
argument-place line number spot place l =
    let inside : length (pieces_before spot) < length (plain_words (pieces (behind_piece line))) = omega (arith, l, place.count) in
    let found =
    reaches is_plain (pieces_before spot) spot.word place.place.behind
    (subst (λ ps. length (pieces_before spot) < length (take_while is_plain ps)) place.pieces_are inside) in
    record {
      argument = record { number = number; place = place.place; before = found.before; is = found.is };
      rest = found.rest;
      words_are = ap plain_words place.pieces_are ∙ found.found_is;
    }

-- the word is the first one that passes a test
record IsFirstArgument (test : List ℕ → Bool) (line : List ℕ) (spot : Spot) : Type 0 where
  argument : IsArgumentOf line spot
  is : test spot.word ≡ true
  before : list_any test (pieces_before spot) ≡ false

argument-first : (test : List ℕ → Bool) (line : List ℕ) (number : ℕ) (spot : Spot) → IsAfterName line number spot
    → first_that (λ begun word. test word) (plain_words (pieces (behind_piece line))) ≡ Some number → IsFirstArgument test line spot
argument-first test line number spot place e =
    let first = first-is (λ begun word. test word) (plain_words (pieces (behind_piece line))) number e in
    let here = argument-place line number spot place first.inside in
    let there = subst (λ ws. IsFirst (λ begun word. test word) ws number) here.words_are first in
    record {
      argument = here.argument;
      is = passes-here (λ begun word. test word) (pieces_before spot) spot.word here.rest number place.count there;
      before = none-before test (pieces_before spot) spot.word here.rest number place.count there;
    }

-- ---- the name after AS

record IsStageName (words : List (List ℕ)) (number : ℕ) : Type 0 where
  third : number ≡ 2
  inside : 2 < length words
  is : str_eq_ignore_ascii_case (get_or words 1 []) (codes "as") ≡ true

stage_by : (image second name : List ℕ) (more : List (List ℕ)) (number : ℕ) (b : Bool) → str_eq_ignore_ascii_case second (codes "as") ≡ b
    → (if b then Some 2 else None) ≡ Some number → IsStageName (image ∷ second ∷ name ∷ more) number
stage_by image second name more number true h e = record { third = sym (same_Some 2 number e); inside = omega arith; is = h }
stage_by image second name more number false h e = absurd (none-some number e)

stage-is : (words : List (List ℕ)) (number : ℕ) → stage_name words ≡ Some number → IsStageName words number
stage-is [] number e = absurd (none-some number e)
stage-is (image ∷ []) number e = absurd (none-some number e)
stage-is (image ∷ second ∷ []) number e = absurd (none-some number e)
stage-is (image ∷ second ∷ name ∷ more) number e = stage_by image second name more number (str_eq_ignore_ascii_case second (codes "as")) refl e

record IsPair (ps : List (List ℕ)) : Type 0 where
  one : List ℕ
  other : List ℕ
  is : ps ≡ one ∷ other ∷ []

pair-is : (ps : List (List ℕ)) → length ps ≡ 2 → IsPair ps
pair-is [] e = absurd (omega (arith, e))
pair-is (p ∷ []) e = absurd (omega (arith, e))
pair-is (p ∷ q ∷ []) e = record { one = p; other = q; is = refl }
pair-is (p ∷ q ∷ r ∷ rs) e = absurd (omega (arith, e))

stage-at : (line : List ℕ) (number : ℕ) (spot : Spot) → IsAfterName line number spot → stage_name (plain_words (pieces (behind_piece line))) ≡ Some number
    → IsAfterAs line spot
stage-at line number spot place e =
    let words = plain_words (pieces (behind_piece line)) in
    let name = stage-is words number e in
    let inside : 2 < length words = name.inside in
    let third : number ≡ 2 = name.third in
    let here = argument-place line number spot place (omega (arith, inside, third)) in
    let two = pair-is (pieces_before spot) (place.count ∙ third) in
    let are : words ≡ two.one ∷ two.other ∷ spot.word ∷ here.rest = here.words_are ∙ ap (λ (ps : List (List ℕ)). ps ++ spot.word ∷ here.rest) two.is in
    record {
      place = subst (λ (n : ℕ). IsPieceOf line (n + 1) spot) third place.place;
      image = two.one;
      second = two.other;
      before = two.is;
      is = ap (λ (ws : List (List ℕ)). str_eq_ignore_ascii_case (get_or ws 1 []) (codes "as")) (sym are) ∙ name.is;
    }

bad-stage-number : (text : List ℕ) (number : ℕ) → number_of R10 From text ≡ Some number → stage_name (plain_words (pieces text)) ≡ Some number
unfolding word_number
bad-stage-number text number e = e

pub bad-stage-pointed : (line : List ℕ) (spot : Spot) → subject_of line ≡ From → pointed R10 line ≡ Some spot → IsAfterAs line spot
unfolding pointed
bad-stage-pointed line spot same e =
    let text = behind_piece line in
    let found = found-is line (number_of R10 (subject_of line) text) spot e in
    stage-at line found.at spot found.place (bad-stage-number text found.at (ap (λ s. number_of R10 s text) (sym same) ∙ found.is))

no-flag : (subject : Subject) (text : List ℕ) (number : ℕ) → first_that (λ (begun : List Flag) (flag : Flag). false) (flags text) ≡ Some number
    → stage_name (plain_words (pieces text)) ≡ Some number
no-flag subject text number e =
    let first = first-is (λ (begun : List Flag) (flag : Flag). false) (flags text) number e in
    absurd (let no : false ≡ true = first.passes (record { name = []; value = None }) in cc)

twice-number : (subject : Subject) (text : List ℕ) (number : ℕ) → number_of R11 subject text ≡ Some number → stage_name (plain_words (pieces text)) ≡ Some number
unfolding flag_number word_number
twice-number Copy text number e = no-flag Copy text number e
twice-number Run text number e = no-flag Run text number e
twice-number subject text number e = e

pub twice-pointed : (line : List ℕ) (spot : Spot) → pointed R11 line ≡ Some spot → IsAfterAs line spot
unfolding pointed
twice-pointed line spot e =
    let text = behind_piece line in
    let found = found-is line (number_of R11 (subject_of line) text) spot e in
    stage-at line found.at spot found.place (twice-number (subject_of line) text found.at found.is)

-- ---- R10 of ARG and ENV

name-number : (subject : Subject) (text : List ℕ) (number : ℕ) → (subject ≡ Arg) ⊎ (subject ≡ Env) → number_of R10 subject text ≡ Some number
    → first_that (λ begun word. has_bad_name word) (plain_words (pieces text)) ≡ Some number
unfolding word_number
name-number subject text number (inl same) e = ap (λ s. number_of R10 s text) (sym same) ∙ e
name-number subject text number (inr same) e = ap (λ s. number_of R10 s text) (sym same) ∙ e

pub bad-name-pointed : (line : List ℕ) (spot : Spot) → (subject_of line ≡ Arg) ⊎ (subject_of line ≡ Env) → pointed R10 line ≡ Some spot
    → IsArgumentOf line spot × (is_name (argument_cut spot.word).0 ≡ false) × (list_all (λ word. is_name (argument_cut word).0) (pieces_before spot) ≡ true)
unfolding pointed
bad-name-pointed line spot same e =
    let text = behind_piece line in
    let found = found-is line (number_of R10 (subject_of line) text) spot e in
    let first = argument-first has_bad_name line found.at spot found.place (name-number (subject_of line) text found.at same found.is) in
    (first.argument, not-true (is_name (argument_cut spot.word).0) first.is, all-pass (λ word. is_name (argument_cut word).0) (pieces_before spot) first.before)

-- ---- R12 of a FROM

first-of-is : (words : List (List ℕ)) (number : ℕ) → first_of words ≡ Some number → number ≡ 0
first-of-is [] number e = absurd (none-some number e)
first-of-is (word ∷ words) number e = sym (same_Some 0 number e)

image-number : (text : List ℕ) (number : ℕ) → number_of R12 From text ≡ Some number → number ≡ 0
unfolding word_number
image-number text number e = first-of-is (plain_words (pieces text)) number e

pub image-pointed : (line : List ℕ) (spot : Spot) → subject_of line ≡ From → pointed R12 line ≡ Some spot → IsPieceOf line 1 spot
unfolding pointed
image-pointed line spot same e =
    let text = behind_piece line in
    let found = found-is line (number_of R12 (subject_of line) text) spot e in
    let first : found.at ≡ 0 = image-number text found.at (ap (λ s. number_of R12 s text) (sym same) ∙ found.is) in
    subst (λ (n : ℕ). IsPieceOf line (n + 1) spot) first found.place.place

-- ---- R16 of an EXPOSE

abbrev IsPortOf : List ℕ → Spot → Type 0
IsPortOf line spot =
    (IsArgumentOf line spot × (is_no_port spot.word ≡ true) × (list_any is_no_port (pieces_before spot) ≡ false))
    ⊎ (IsPieceOf line 1 spot × (length (pieces line) ≡ 2))

only-piece-is : (ps : List (List ℕ)) (number : ℕ) → only_piece ps ≡ Some number → (number ≡ 0) × (length ps ≡ 1)
only-piece-is [] number e = absurd (none-some number e)
only-piece-is (p ∷ []) number e = (sym (same_Some 0 number e), refl)
only-piece-is (p ∷ q ∷ ps) number e = absurd (none-some number e)

only-piece-at : (line : List ℕ) (spot : Spot) → IsAfterName line 0 spot → length (pieces (behind_piece line)) ≡ 1 → IsPieceOf line 1 spot × (length (pieces line) ≡ 2)
only-piece-at line spot place one =
    let behind = place.place.behind in
    let all : length (pieces line) ≡ length (pieces spot.before) + suc (length behind) =
    ap length place.place.pieces_are ∙ length-append (pieces spot.before) (spot.word ∷ behind) in
    let after : length (pieces (behind_piece line)) ≡ length (pieces_before spot) + suc (length behind) =
    ap length place.pieces_are ∙ length-append (pieces_before spot) (spot.word ∷ behind) in
    let count : length (pieces spot.before) ≡ 0 + 1 = place.place.count in
    let none : length (pieces_before spot) ≡ 0 = place.count in
    (place.place, omega (arith, all, after, one, count, none))

port_by : (line : List ℕ) (number : ℕ) (spot : Spot) (found : Option ℕ) → first_wrong Expose (plain_words (pieces (behind_piece line))) ≡ found
    → IsAfterName line number spot → option_or found (only_piece (pieces (behind_piece line))) ≡ Some number → IsPortOf line spot
port_by line number spot (Some at) h place e =
    let first = argument-first is_no_port line number spot place (h ∙ e) in
    inl (first.argument, first.is, first.before)
port_by line number spot None h place e =
    let only = only-piece-is (pieces (behind_piece line)) number e in
    inr (only-piece-at line spot (subst (λ (n : ℕ). IsAfterName line n spot) only.0 place) only.1)

port-number : (text : List ℕ) (number : ℕ) → number_of R16 Expose text ≡ Some number → bad_port (pieces text) ≡ Some number
unfolding word_number
port-number text number e = e

pub port-pointed : (line : List ℕ) (spot : Spot) → subject_of line ≡ Expose → pointed R16 line ≡ Some spot → IsPortOf line spot
unfolding pointed
port-pointed line spot same e =
    let text = behind_piece line in
    let found = found-is line (number_of R16 (subject_of line) text) spot e in
    port_by line found.at spot (first_wrong Expose (plain_words (pieces text))) refl found.place
    (port-number text found.at (ap (λ s. number_of R16 s text) (sym same) ∙ found.is))
