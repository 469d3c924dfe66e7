-- Texts of paths, as BuildKit reads them.
use Rattle.std.specs.Cmp.Lexicographic.{texts_ties}
use Rattle.std.specs.Prelude.{◌≡◌, ◌==◌, ℕ, Bool, true, false, ◌&&◌, not, List, [], ◌∷◌, ◌++◌, bytes_eq, ◌||◌}
use Rattle.std.proofs.Common.{sym, ap, refl, ◌∙◌, true≢false, append-nil}
use Rattle.std.specs.List.{list_all}
use Rattle.paths.specs.Path.{is_normal, is_whole, is_name, rooted, text_of}
use Rattle.paths.specs.Reading.{pieces, cleaned}
use Rattle.paths.proofs.FrontLaws.{both_first, both_second, name_itself}
use Rattle.paths.proofs.ReadingLaws.{read_from-text_of, pieces-append, walked-append}
use Rattle.exported.specs.Files.{dest_of}
use Rattle.fileactions.specs.Copies.{path_of, ends_in_slash, is_clean_text}
use Rattle.fileactions.proofs.Steps.{Path}

-- the text of a path is read as it
pub path_of-text : (p : Path) → list_all is_name p ≡ true → path_of (text_of p) ≡ p
path_of-text [] names = read_from-text_of [] [] names
path_of-text (c ∷ cs) names = read_from-text_of (c ∷ cs) [] names

-- and so is that with a slash behind it
pub path_of-slash : (p : Path) → list_all is_name p ≡ true → path_of (text_of p ++ 47 ∷ []) ≡ p
path_of-slash p names =
    ap cleaned (pieces-append (text_of p) []) ∙ walked-append [] (pieces (text_of p)) ([] ∷ []) ∙ path_of-text p names

pub path_of-dest : (p : Path) (into : Bool) → list_all is_name p ≡ true → path_of (dest_of p into) ≡ p
path_of-dest [] into names = path_of-text [] names
path_of-dest (c ∷ cs) true names = path_of-slash (c ∷ cs) names
path_of-dest (c ∷ cs) false names = path_of-text (c ∷ cs) names

-- the path of one name
pub path_of-name : (name : List ℕ) → is_name name ≡ true → path_of (47 ∷ name) ≡ name ∷ []
path_of-name name is = ap (λ x. path_of (47 ∷ x)) (sym (append-nil name)) ∙ path_of-text (name ∷ []) (ap (λ b. b && true) is)

-- ---- clean texts

bytes_itself : (a : List ℕ) → bytes_eq a a ≡ true
bytes_itself a = texts_ties a a ∙ name_itself a

from-left : (a b : Bool) → a ≡ true → (a || b) ≡ true
from-left a b e = ap (λ x. x || b) e

from-right : (a b : Bool) → b ≡ true → (a || b) ≡ true
from-right true b e = refl
from-right false b e = e

-- the text of a path is clean
pub clean-text : (p : Path) → list_all is_name p ≡ true → is_clean_text (text_of p) ≡ true
clean-text p names =
    from-left (bytes_eq (text_of p) (text_of (path_of (text_of p)))) _ (ap (λ q. bytes_eq (text_of p) (text_of q)) (path_of-text p names) ∙ bytes_itself (text_of p))

pub clean-slash : (p : Path) → list_all is_name p ≡ true → is_clean_text (text_of p ++ 47 ∷ []) ≡ true
clean-slash p names =
    from-right (bytes_eq (text_of p ++ 47 ∷ []) (text_of (path_of (text_of p ++ 47 ∷ [])))) _
    (ap (λ q. bytes_eq (text_of p ++ 47 ∷ []) (text_of q ++ 47 ∷ [])) (path_of-slash p names) ∙ bytes_itself (text_of p ++ 47 ∷ []))

pub clean-dest : (p : Path) (into : Bool) → list_all is_name p ≡ true → is_clean_text (dest_of p into) ≡ true
clean-dest [] into names = clean-text [] names
clean-dest (c ∷ cs) true names = clean-slash (c ∷ cs) names
clean-dest (c ∷ cs) false names = clean-text (c ∷ cs) names

pub clean-name : (name : List ℕ) → is_name name ≡ true → is_clean_text (47 ∷ name) ≡ true
clean-name name is = ap (λ x. is_clean_text (47 ∷ x)) (sym (append-nil name)) ∙ clean-text (name ∷ []) (ap (λ b. b && true) is)

-- ---- the last byte

ends-behind : (xs : List ℕ) (y : ℕ) (ys : List ℕ) → ends_in_slash (xs ++ y ∷ ys) ≡ ends_in_slash (y ∷ ys)
ends-behind [] y ys = refl
ends-behind (x ∷ []) y ys = refl
ends-behind (x ∷ z ∷ zs) y ys = ends-behind (z ∷ zs) y ys

no-slash : (b : ℕ) (bs : List ℕ) → is_whole (b ∷ bs) ≡ true → ends_in_slash (b ∷ bs) ≡ false
no-slash b [] whole = by (b == 47) (both_first (not (b == 47)) true whole)
  where
    by : (x : Bool) → not x ≡ true → x ≡ false
    by true e = absurd (true≢false (sym e))
    by false e = refl
no-slash b (c ∷ cs) whole = no-slash c cs (both_second (not (b == 47)) _ whole)

rooted-end : (c : List ℕ) (cs : Path) → list_all is_name (c ∷ cs) ≡ true → ends_in_slash (rooted (c ∷ cs)) ≡ false
rooted-end [] cs names = absurd (true≢false (sym (both_first (is_normal []) (is_whole []) (both_first (is_name []) (list_all is_name cs) names))))
rooted-end (b ∷ bs) [] names =
    ap (λ x. ends_in_slash (47 ∷ x)) (append-nil (b ∷ bs)) ∙ no-slash b bs (both_second (is_normal (b ∷ bs)) _ (both_first (is_name (b ∷ bs)) _ names))
rooted-end (b ∷ bs) (d ∷ ds) names = ends-behind (47 ∷ b ∷ bs) 47 (d ++ rooted ds) ∙ rooted-end d ds (both_second (is_name (b ∷ bs)) _ names)

-- whether a destination's text ends in a slash
pub slash-dest : (c : List ℕ) (cs : Path) (into : Bool) → list_all is_name (c ∷ cs) ≡ true → ends_in_slash (dest_of (c ∷ cs) into) ≡ into
slash-dest c cs true names = ends-behind (text_of (c ∷ cs)) 47 []
slash-dest c cs false names = rooted-end c cs names
