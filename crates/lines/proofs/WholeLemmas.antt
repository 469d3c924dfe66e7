-- The lines of a text that is cut after an LF are those of its two parts.
use Rattle.std.specs.Prelude.{◌≡◌, ◌≢◌, ℕ, suc, ◌==◌, slice_index, Bool, true, false, List, [], ◌∷◌, ◌++◌, length, take, map, bytes_eq, if◌then◌else◌, refl}
use Rattle.std.specs.List.{slice_split, onto_first}
use Rattle.std.specs.Str.Lines.{lines, lines_of_parts, strip_carriage_return}
use Rattle.std.proofs.Common.{cond, ◌∙◌, sym, ap, subst, append_assoc, arith}
use Rattle.std.proofs.lemmas.List.{append-nil, append_cancel_right}
use Rattle.std.proofs.lemmas.List.Splits.{slice_split_none}
use Rattle.std.proofs.lemmas.Slice.Eq.{bytes_eq-Decides}
use Rattle.lines.specs.Text.{without_byte_order_mark, text_lines}
use Rattle.lines.specs.PrivateScan.{block_lines}
use Rattle.lines.specs.Ready.{IsWhole, empty, ended, HasNoLf}

abbrev pub parts : List ℕ → List (List ℕ)
parts text = slice_split (λ b. b == 10) text

-- a list that isn't empty
abbrev IsCons : List (List ℕ) → Type 0
IsCons [] = ⊥
IsCons (x ∷ xs) = Unit {0}

onto-cons : (c : ℕ) (xs : List (List ℕ)) → IsCons xs → IsCons (onto_first c xs)
onto-cons c [] h = tt
onto-cons c (x ∷ xs) h = tt

parts-cons-by : (c : ℕ) (text : List ℕ) (b : Bool) → IsCons (parts text) → IsCons (cond b ([] ∷ parts text) (onto_first c (parts text)))
parts-cons-by c text true h = tt
parts-cons-by c text false h = onto-cons c (parts text) h

parts-cons : (text : List ℕ) → IsCons (parts text)
parts-cons [] = tt
parts-cons (c ∷ text) = parts-cons-by c text (c == 10) (parts-cons text)

onto-append : (c : ℕ) (xs ys : List (List ℕ)) → IsCons xs → onto_first c (xs ++ ys) ≡ onto_first c xs ++ ys
onto-append c [] ys h = absurd h
onto-append c (x ∷ xs) ys h = refl

parts-append-by : (c : ℕ) (a b : List ℕ) (t : Bool) → cond t ([] ∷ (parts a ++ parts b)) (onto_first c (parts a ++ parts b)) ≡ cond t ([] ∷ parts a) (onto_first c (parts a)) ++ parts b
parts-append-by c a b true = refl
parts-append-by c a b false = onto-append c (parts a) (parts b) (parts-cons a)

parts-append : (a b : List ℕ) → parts (a ++ 10 ∷ b) ≡ parts a ++ parts b
parts-append [] b = refl
parts-append (c ∷ a) b = ap (λ (x : List (List ℕ)). cond (c == 10) ([] ∷ x) (onto_first c x)) (parts-append a b) ∙ parts-append-by c a b (c == 10)

lines-parts : (xs ys : List (List ℕ)) → IsCons ys → lines_of_parts (xs ++ ys) ≡ map strip_carriage_return xs ++ lines_of_parts ys
lines-parts xs [] h = absurd h
lines-parts [] (y ∷ ys) h = refl
lines-parts (x ∷ []) (y ∷ ys) h = refl
lines-parts (x ∷ z ∷ xs) (y ∷ ys) h = ap (λ (more : List (List ℕ)). strip_carriage_return x ∷ more) (lines-parts (z ∷ xs) (y ∷ ys) h)

-- the lines of a text and an LF
abbrev pub whole_lines : List ℕ → List (List ℕ)
whole_lines text = map strip_carriage_return (parts text)

lines_cut : (a b : List ℕ) → lines (a ++ 10 ∷ b) ≡ whole_lines a ++ lines b
lines_cut a b = ap lines_of_parts (parts-append a b) ∙ lines-parts (parts a) (parts b) (parts-cons b)

pub lines_whole : (a : List ℕ) → lines (a ++ 10 ∷ []) ≡ whole_lines a
lines_whole a = lines_cut a [] ∙ append-nil (whole_lines a)

pub lines_append : (a b : List ℕ) → IsWhole a → lines (a ++ b) ≡ lines a ++ lines b
lines_append _ b empty = refl
lines_append _ b (ended a) = ap lines (append_assoc a (10 ∷ []) b) ∙ lines_cut a b ∙ ap (λ (x : List (List ℕ)). x ++ lines b) (sym (lines_whole a))

-- the byte order mark

-- a text whose first three bytes hold an LF has none
mark_first : (b : List ℕ) → without_byte_order_mark (10 ∷ b) ≡ 10 ∷ b
mark_first [] = refl
mark_first (x ∷ []) = refl
mark_first (x ∷ y ∷ b) = refl

mark_second : (x : ℕ) (b : List ℕ) (t : Bool) → bytes_eq (take 3 (x ∷ 10 ∷ b)) (239 ∷ 187 ∷ 191 ∷ []) ≡ t → without_byte_order_mark (x ∷ 10 ∷ b) ≡ x ∷ 10 ∷ b
mark_second x b true e = let h = ap (λ (l : List ℕ). slice_index l 1) ((bytes_eq-Decides (take 3 (x ∷ 10 ∷ b)) (239 ∷ 187 ∷ 191 ∷ [])).0 e) in absurd (omega (arith, h))
mark_second x b false e = rw e refl

mark_third : (x y : ℕ) (b : List ℕ) (t : Bool) → bytes_eq (take 3 (x ∷ y ∷ 10 ∷ b)) (239 ∷ 187 ∷ 191 ∷ []) ≡ t → without_byte_order_mark (x ∷ y ∷ 10 ∷ b) ≡ x ∷ y ∷ 10 ∷ b
mark_third x y b true e = let h = ap (λ (l : List ℕ). slice_index l 2) ((bytes_eq-Decides (take 3 (x ∷ y ∷ 10 ∷ b)) (239 ∷ 187 ∷ 191 ∷ [])).0 e) in absurd (omega (arith, h))
mark_third x y b false e = rw e refl

mark_of_two : (x : ℕ) (b : List ℕ) → without_byte_order_mark (x ∷ 10 ∷ b) ≡ x ∷ 10 ∷ b
mark_of_two x b = mark_second x b (bytes_eq (take 3 (x ∷ 10 ∷ b)) (239 ∷ 187 ∷ 191 ∷ [])) refl

mark_of_three : (x y : ℕ) (b : List ℕ) → without_byte_order_mark (x ∷ y ∷ 10 ∷ b) ≡ x ∷ y ∷ 10 ∷ b
mark_of_three x y b = mark_third x y b (bytes_eq (take 3 (x ∷ y ∷ 10 ∷ b)) (239 ∷ 187 ∷ 191 ∷ [])) refl

-- a text that ends with an LF is still one without its mark, and what follows it has none
record IsUnmarked (a b : List ℕ) : Type 0 where
  front : List ℕ
  is : without_byte_order_mark a ≡ front ++ 10 ∷ []
  more : without_byte_order_mark (a ++ b) ≡ front ++ 10 ∷ b

unmarked_by : (x y z : ℕ) (f b : List ℕ) (t : Bool) → bytes_eq (x ∷ y ∷ z ∷ []) (239 ∷ 187 ∷ 191 ∷ []) ≡ t → IsUnmarked (x ∷ y ∷ z ∷ (f ++ 10 ∷ [])) b
unmarked_by x y z f b true e = record {
  front = f;
  is = ap (λ t. if t then f ++ 10 ∷ [] else x ∷ y ∷ z ∷ (f ++ 10 ∷ [])) e;
  more = ap (λ t. if t then (f ++ 10 ∷ []) ++ b else x ∷ y ∷ z ∷ ((f ++ 10 ∷ []) ++ b)) e ∙ append_assoc f (10 ∷ []) b;
}
unmarked_by x y z f b false e = record {
  front = x ∷ y ∷ z ∷ f;
  is = ap (λ t. if t then f ++ 10 ∷ [] else x ∷ y ∷ z ∷ (f ++ 10 ∷ [])) e;
  more = ap (λ t. if t then (f ++ 10 ∷ []) ++ b else x ∷ y ∷ z ∷ ((f ++ 10 ∷ []) ++ b)) e ∙ ap (λ (l : List ℕ). x ∷ y ∷ z ∷ l) (append_assoc f (10 ∷ []) b);
}

unmarked : (f b : List ℕ) → IsUnmarked (f ++ 10 ∷ []) b
unmarked [] b = record { front = []; is = mark_first []; more = mark_first b }
unmarked (x ∷ []) b = record { front = x ∷ []; is = mark_of_two x []; more = mark_of_two x b }
unmarked (x ∷ y ∷ []) b = record { front = x ∷ y ∷ []; is = mark_of_three x y []; more = mark_of_three x y b }
unmarked (x ∷ y ∷ z ∷ f) b = unmarked_by x y z f b (bytes_eq (x ∷ y ∷ z ∷ []) (239 ∷ 187 ∷ 191 ∷ [])) refl

-- without its mark it still ends with an LF
pub unmarked_whole : (f : List ℕ) → IsWhole (without_byte_order_mark (f ++ 10 ∷ []))
unmarked_whole f = let u = unmarked f [] in subst IsWhole (sym u.is) (ended u.front)

-- the lines of a text below whole lines of it
text_lines_below : (f b : List ℕ) → text_lines ((f ++ 10 ∷ []) ++ b) ≡ text_lines (f ++ 10 ∷ []) ++ lines b
text_lines_below f b =
    let u = unmarked f b in
    ap lines u.more ∙ lines_cut u.front b ∙ ap (λ (x : List (List ℕ)). x ++ lines b) (sym (lines_whole u.front) ∙ ap lines (sym u.is))

pub text_lines_append : (a b : List ℕ) → IsWhole a → a ≢ [] → text_lines (a ++ b) ≡ text_lines a ++ lines b
text_lines_append _ b empty h = absurd (h refl)
text_lines_append _ b (ended f) h = text_lines_below f b

pub one_line : (line : List ℕ) → HasNoLf line → lines (line ++ 10 ∷ []) ≡ strip_carriage_return line ∷ []
one_line line h = lines_whole line ∙ ap (map strip_carriage_return) (slice_split_none (λ b. b == 10) line h)

pub last_line : (line : List ℕ) → HasNoLf line → lines line ≡ (if length line == 0 then [] else line ∷ [])
last_line line h = ap lines_of_parts (slice_split_none (λ b. b == 10) line h)

-- a block's lines, and one more
pub block_more : (first : Bool) (own line : List ℕ) → IsWhole own → own ≢ [] → HasNoLf line
    → block_lines first (own ++ (line ++ 10 ∷ [])) ≡ block_lines first own ++ strip_carriage_return line ∷ []
block_more true own line w h n = text_lines_append own (line ++ 10 ∷ []) w h ∙ ap (λ (x : List (List ℕ)). text_lines own ++ x) (one_line line n)
block_more false own line w h n = lines_append own (line ++ 10 ∷ []) w ∙ ap (λ (x : List (List ℕ)). lines own ++ x) (one_line line n)

-- the first line of a block
pub record IsOneLine (first : Bool) (bytes : List ℕ) : Type 0 where
  pub line : List ℕ
  pub is : block_lines first (bytes ++ 10 ∷ []) ≡ line ∷ []

tail_plain : (c : ℕ) (cs : List ℕ) → HasNoLf (c ∷ cs) → HasNoLf cs
tail_plain c cs h = λ k d l. h (suc k) d (omega arith)

marked_line : (x y z : ℕ) (f : List ℕ) (t : Bool) → bytes_eq (x ∷ y ∷ z ∷ []) (239 ∷ 187 ∷ 191 ∷ []) ≡ t → HasNoLf (x ∷ y ∷ z ∷ f) → IsOneLine true (x ∷ y ∷ z ∷ f)
marked_line x y z f true e h = record {
  line = strip_carriage_return f;
  is = ap (λ t. lines (if t then f ++ 10 ∷ [] else x ∷ y ∷ z ∷ (f ++ 10 ∷ []))) e ∙ one_line f (tail_plain z f (tail_plain y (z ∷ f) (tail_plain x (y ∷ z ∷ f) h)));
}
marked_line x y z f false e h = record {
  line = strip_carriage_return (x ∷ y ∷ z ∷ f);
  is = ap (λ t. lines (if t then f ++ 10 ∷ [] else x ∷ y ∷ z ∷ (f ++ 10 ∷ []))) e ∙ one_line (x ∷ y ∷ z ∷ f) h;
}

pub first_line : (first : Bool) (line : List ℕ) → HasNoLf line → IsOneLine first line
first_line false line h = record { line = strip_carriage_return line; is = one_line line h }
first_line true [] h = record { line = strip_carriage_return []; is = ap lines (mark_first []) ∙ one_line [] h }
first_line true (x ∷ []) h = record { line = strip_carriage_return (x ∷ []); is = ap lines (mark_of_two x []) ∙ one_line (x ∷ []) h }
first_line true (x ∷ y ∷ []) h = record { line = strip_carriage_return (x ∷ y ∷ []); is = ap lines (mark_of_three x y []) ∙ one_line (x ∷ y ∷ []) h }
first_line true (x ∷ y ∷ z ∷ f) h = marked_line x y z f (bytes_eq (x ∷ y ∷ z ∷ []) (239 ∷ 187 ∷ 191 ∷ [])) refl h

pub whole_more : (own line : List ℕ) → IsWhole (own ++ (line ++ 10 ∷ []))
whole_more own line = subst IsWhole (append_assoc own line (10 ∷ [])) (ended (own ++ line))

-- a text is cut after its last LF in one way

last_of : List (List ℕ) → List ℕ
last_of [] = []
last_of (x ∷ []) = x
last_of (x ∷ y ∷ more) = last_of (y ∷ more)

last_snoc : (xs : List (List ℕ)) (y : List ℕ) → last_of (xs ++ y ∷ []) ≡ y
unfolding last_of
last_snoc [] y = refl
last_snoc (x ∷ []) y = refl
last_snoc (x ∷ z ∷ xs) y = last_snoc (z ∷ xs) y

rest_is : (whole rest : List ℕ) → IsWhole whole → HasNoLf rest → last_of (parts (whole ++ rest)) ≡ rest
unfolding last_of
rest_is _ rest empty h = ap last_of (slice_split_none (λ b. b == 10) rest h)
rest_is _ rest (ended f) h =
    ap (λ (t : List ℕ). last_of (parts t)) (append_assoc f (10 ∷ []) rest)
    ∙ ap last_of (parts-append f rest ∙ ap (λ (x : List (List ℕ)). parts f ++ x) (slice_split_none (λ b. b == 10) rest h))
    ∙ last_snoc (parts f) rest

pub whole_same : (whole rest other left : List ℕ) → IsWhole whole → HasNoLf rest → IsWhole other → HasNoLf left → whole ++ rest ≡ other ++ left → whole ≡ other
whole_same whole rest other left w h v i e =
    let same : rest ≡ left = sym (rest_is whole rest w h) ∙ ap (λ (t : List ℕ). last_of (parts t)) e ∙ rest_is other left v i in
    append_cancel_right whole other rest (e ∙ ap (λ (x : List ℕ). other ++ x) (sym same))
