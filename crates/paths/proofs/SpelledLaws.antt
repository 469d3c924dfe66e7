-- Pieces that are taken one after another as the components of a path, and what the path's text is.
use Rattle.std.proofs.Common.{◌≡◌, ◌≢◌, ◌<◌, ◌≤◌, ℕ, Bool, true, false, ◌&&◌, nat_lt, List, [], ◌∷◌, ◌++◌, ◌==◌, Option, Some, None, Result, Ok, Err, length, refl, sym, subst, ◌∙◌, ap, arith, drop, get_or, length-append, append_assoc}
use Rattle.std.specs.Prelude.{nat_le, IfOk, SomeIff, MatchOption}
use Rattle.std.specs.List.{list_all, join_with_byte}
use Rattle.std.proofs.lemmas.Bool.{and_parts, and_from, ltb-true, lt-ltb, false≢true}
use Rattle.std.proofs.lemmas.Bool.Decides.{Decides-eqb}
use Rattle.std.proofs.lemmas.List.{append-nil}
use Rattle.std.proofs.lemmas.List.Folds.{list_all-append}
use Rattle.std.proofs.lemmas.List.Splits.{join_with_byte-slice_split}
use Rattle.paths.specs.Path.{IsClean, is_whole, is_normal, is_name, are_short, text_of}
use Rattle.paths.specs.Reading.{pieces, is_absolute}
use Rattle.paths.proofs.ReadingLaws.{whole-pieces, whole_names, rooted-join, pieces-join, some_pieces}

-- whether a piece may be the next component of a path of so many
abbrev pub may_follow : ℕ → List ℕ → Bool
may_follow count piece = nat_lt count 64 && (nat_le (length piece) 255 && is_normal piece)

-- the first pieces of a text, which are components, and those that are left
pub record AreTaken (parts more : List (List ℕ)) (text : List ℕ) : Type 0 where
  pub all : pieces text ≡ parts ++ more
  pub clean : IsClean parts

pub taken-none : (text : List ℕ) → AreTaken [] (pieces text) text
taken-none text = record { all = refl; clean = record { names = refl; short = refl; few = omega arith } }

module _ (test : List ℕ → Bool) (parts : List (List ℕ)) (piece : List ℕ) where
  -- a test of all of some pieces, and of one behind them
  more-pass : list_all test parts ≡ true → test piece ≡ true → list_all test (parts ++ piece ∷ []) ≡ true
  more-pass all one = list_all-append test parts (piece ∷ []) ∙ and_from (list_all test parts) (list_all test (piece ∷ [])) all (and_from (test piece) true one refl)

  one-passes : (more : List (List ℕ)) → list_all test (parts ++ piece ∷ more) ≡ true → test piece ≡ true
  one-passes more h =
      let both = and_parts (list_all test parts) (list_all test (piece ∷ more)) (sym (list_all-append test parts (piece ∷ more)) ∙ h) in
      (and_parts (test piece) (list_all test more) both.1).0

module _ (parts more : List (List ℕ)) (piece text : List ℕ) (taken : AreTaken parts (piece ∷ more) text) where
  piece-whole : is_whole piece ≡ true
  piece-whole = one-passes is_whole parts piece more (ap (list_all is_whole) (sym taken.all) ∙ whole-pieces text)

  -- a piece that may follow is taken
  pub taken-next : may_follow (length parts) piece ≡ true → AreTaken (parts ++ piece ∷ []) more text
  taken-next h =
      let few = and_parts (nat_lt (length parts) 64) (nat_le (length piece) 255 && is_normal piece) h in
      let fits = and_parts (nat_le (length piece) 255) (is_normal piece) few.1 in
      let under : length parts < 64 = ltb-true (length parts) 64 few.0 in
      record {
        all = taken.all ∙ sym (append_assoc parts (piece ∷ []) more);
        clean = record {
          names = more-pass is_name parts piece taken.clean.names (and_from (is_normal piece) (is_whole piece) fits.1 piece-whole);
          short = more-pass (λ c. nat_le (length c) 255) parts piece taken.clean.short fits.0;
          few = omega (arith, length-append parts (piece ∷ []));
        };
      }

  -- where one may not follow, the pieces are no path
  pub taken-refused : may_follow (length parts) piece ≡ false → IsClean (pieces text) → ⊥
  taken-refused h clean =
      let names = ap (list_all is_name) (sym taken.all) ∙ clean.names in
      let short = ap are_short (sym taken.all) ∙ clean.short in
      let few : length (parts ++ piece ∷ more) ≤ 64 = omega (arith, ap length taken.all, clean.few) in
      let under : length parts < 64 = omega (arith, length-append parts (piece ∷ more)) in
      let name = and_parts (is_normal piece) (is_whole piece) (one-passes is_name parts piece more names) in
      let fits = one-passes (λ c. nat_le (length c) 255) parts piece more short in
      false≢true (sym h ∙ and_from (nat_lt (length parts) 64) _ (lt-ltb (length parts) 64 under) (and_from (nat_le (length piece) 255) (is_normal piece) fits name.0))

-- where none is left, those that were taken are all
pub taken-all : (parts : List (List ℕ)) (text : List ℕ) → AreTaken parts [] text → IsClean (pieces text) × (parts ≡ pieces text)
taken-all parts text taken =
    let same : parts ≡ pieces text = sym (taken.all ∙ append-nil parts) in
    (subst IsClean same taken.clean, same)

-- the text of a path, behind its first slash

joined : (ps : List (List ℕ)) → 0 < length ps → text_of ps ≡ 47 ∷ join_with_byte 47 ps
joined [] h = absurd (omega arith)
joined (c ∷ cs) h = ap (λ x. 47 ∷ x) (rooted-join c cs)

text_of-pieces : (names : List ℕ) → text_of (pieces names) ≡ 47 ∷ names
text_of-pieces names = joined (pieces names) (some_pieces names) ∙ ap (λ x. 47 ∷ x) (join_with_byte-slice_split 47 names)

tail_of : List ℕ → List ℕ
tail_of [] = []
tail_of (b ∷ bs) = bs

-- a clean path other than the root is the pieces of its text behind the first slash
pieces-text_of : (p : List (List ℕ)) (names : List ℕ) → names ≢ [] → IsClean p → text_of p ≡ 47 ∷ names → IsClean (pieces names)
unfolding tail_of
pieces-text_of [] names some clean e = absurd (some (sym (ap tail_of e)))
pieces-text_of (c ∷ cs) names some clean e =
    let whole = and_parts (is_whole c) (list_all is_whole cs) (whole_names (c ∷ cs) clean.names) in
    let is : names ≡ join_with_byte 47 (c ∷ cs) = ap tail_of (sym e) ∙ rooted-join c cs in
    subst IsClean (sym (ap pieces is ∙ pieces-join c cs whole.0 whole.1)) clean

-- so the pieces behind a text's first slash are the path whose text it is, or it is no path's text
spelled : (o : Option (List (List ℕ))) (text names : List ℕ) → text ≡ 47 ∷ names → names ≢ [] → SomeIff o (IsClean (pieces names)) (pieces names)
    → MatchOption o ((p : List (List ℕ)) → IsClean p → text_of p ≢ text) (λ p. text_of p ≡ text)
spelled None text names is some h = λ p clean e. h (pieces-text_of p names some clean (e ∙ is))
spelled (Some p) text names is some h = ap text_of h.1 ∙ text_of-pieces names ∙ sym is

pub spelled-ok : {E : Type 0} (r : Result (Option (List (List ℕ))) E) (text names : List ℕ) → text ≡ 47 ∷ names → (length names == 0) ≡ false
    → IfOk r (λ o. SomeIff o (IsClean (pieces names)) (pieces names)) → IfOk r (λ o. MatchOption o ((p : List (List ℕ)) → IsClean p → text_of p ≢ text) (λ p. text_of p ≡ text))
spelled-ok (Ok o) text names is some h = spelled o text names is (λ e. false≢true (sym some ∙ ap (λ x. length x == 0) e)) h
spelled-ok (Err e) text names is some h = tt

-- a text that begins with a slash
pub record IsSlashed (text : List ℕ) : Type 0 where
  pub is : text ≡ 47 ∷ drop 1 text
  pub inside : 0 < length text
  pub ascii : get_or text 0 0 < 128

pub slashed : (text : List ℕ) → is_absolute text ≡ true → IsSlashed text
slashed [] h = absurd (false≢true h)
slashed (b ∷ bs) h =
    let e : b ≡ 47 = (Decides-eqb b 47).0 h in
    record { is = ap (λ x. x ∷ bs) e; inside = omega arith; ascii = omega (arith, e) }

-- the text of each path does
pub text_of-slash : (p : List (List ℕ)) (text : List ℕ) → is_absolute text ≡ false → text_of p ≢ text
text_of-slash [] text none e = false≢true (sym none ∙ ap is_absolute (sym e))
text_of-slash (c ∷ cs) text none e = false≢true (sym none ∙ ap is_absolute (sym e))
