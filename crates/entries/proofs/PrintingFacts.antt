-- The text of an entry, piece by piece.
use Rattle.std.proofs.Common.{◌≡◌, ℕ, zero, suc, ◌+◌, ◌/◌, ◌%◌, ◌<◌, ◌≤◌, Bool, true, false, ◌&&◌, List, [], ◌∷◌, ◌++◌, map, slice_index, refl, sym, ap, ◌∙◌, inl, inr, append_assoc, arith, codes, decimal, Bor, take, drop, drop-cons, length, get_or, add-one}
use Rattle.std.specs.List.{list_all}
use Rattle.std.proofs.lemmas.Bool.{and_parts, cases_lt}
use Rattle.std.proofs.lemmas.List.{take-append-drop, take_all, drop_all, length-drop}
use Rattle.hex.specs.Hex.{IsBytes, encode_with, encode_lower, lower_digits}
use Rattle.json.specs.Print.{escape_byte, escape, quoted}
use Rattle.quoted.specs.Plain.{is_plain}
use Rattle.quoted.proofs.EscapeFacts.{escape-plain, escape-append}
use Rattle.paths.specs.Path.{rooted, text_of}
use Rattle.serde_json.specs.Data.{number, unsigned, string, Members, no_members, member}
use Rattle.serde_json.specs.View.{items_of}
use Rattle.serde_json.specs.Written.{comma_if, compact_text, items_text, members_text}
use Rattle.trees.specs.declared.meta.Meta.{Meta}
use Rattle.trees.specs.declared.entry.Entry.{Entry}
use Rattle.trees.specs.declared.entry.Entry.TheVariants.{Directory, File}
use Rattle.trees.specs.Row.{Row}
use Rattle.trees.specs.Rows.{lent_names}
use Rattle.entries.specs.Written.{mode_text, entry_data}
use Rattle.entries.specs.PrivatePrinting.{end_text, entry_text, rows_text, rest_text}

both_hold : (a b : Bool) → a ≡ true → b ≡ true → (a && b) ≡ true
both_hold true b p q = q
both_hold false b p q = p

-- a path's text in a string, name by name
pub escape-rooted : (name : List ℕ) (path : List (List ℕ)) → escape (rooted (name ∷ path)) ≡ (47 ∷ escape name) ++ escape (rooted path)
unfolding escape_byte
escape-rooted name path = ap (λ e. 47 ∷ e) (escape-append name (rooted path))

pub escape-root : (names : List (Bor (List ℕ))) → length names ≡ 0 → 47 ∷ [] ≡ escape (text_of (lent_names names))
unfolding escape_byte
escape-root [] root = refl
escape-root (name ∷ names) root = absurd (omega arith)

-- ---- digits

-- the digits below a number
abbrev all_plain : ℕ → Bool
all_plain zero = true
all_plain (suc n) = is_plain (slice_index lower_digits n) && all_plain n

all_plain-at : (n d : ℕ) → all_plain n ≡ true → d < n → is_plain (slice_index lower_digits d) ≡ true
all_plain-at zero d h lt = absurd (omega arith)
all_plain-at (suc n) d h lt =
    let p = and_parts (is_plain (slice_index lower_digits n)) (all_plain n) h in
    elim (cases_lt d n) [
      | inl below ↦ all_plain-at n d p.1 below
      | inr top ↦
          let e : d ≡ n = omega arith in
          rw e p.0
    ]

digit-plain : (d : ℕ) → d < 16 → is_plain (slice_index lower_digits d) ≡ true
digit-plain d lt = all_plain-at 16 d refl lt

octal-plain : (d : ℕ) → d < 8 → is_plain (48 + d) ≡ true
octal-plain d lt = grind (arith)

pub mode-plain : (mode : ℕ) → mode < 4096 → list_all is_plain (mode_text mode) ≡ true
mode-plain mode small =
    both_hold _ _ (octal-plain (mode / 512) (omega arith)) (both_hold _ _ (octal-plain (mode / 64 % 8) (omega arith))
    (both_hold _ _ (octal-plain (mode / 8 % 8) (omega arith)) (both_hold _ _ (octal-plain (mode % 8) (omega arith)) refl)))

-- the four digits of a mode, and what stands behind them
pub same_digits : {a b c d p q r s : ℕ} (rest : List ℕ) → a ≡ p → b ≡ q → c ≡ r → d ≡ s → a ∷ (b ∷ (c ∷ (d ∷ rest))) ≡ p ∷ (q ∷ (r ∷ (s ∷ rest)))
same_digits {a} {b} {c} {d} {p} {q} {r} {s} rest first second third last = cc

pub hex-plain : (bytes : List ℕ) → IsBytes bytes → list_all is_plain (encode_lower bytes) ≡ true
unfolding encode_with
hex-plain [] h = refl
hex-plain (b ∷ bytes) h =
    let fits : b < 256 = h 0 in
    let high : b / 16 < 16 = omega arith in
    let low : b % 16 < 16 = omega arith in
    both_hold _ _ (digit-plain (b / 16) high) (both_hold _ _ (digit-plain (b % 16) low) (hex-plain bytes (λ k. h (suc k))))

-- ---- the pieces of an entry

abbrev behind_mode : List ℕ → ℕ → List ℕ
behind_mode path uid = codes ",\"path\":" ++ (quoted path ++ (codes ",\"uid\":" ++ (decimal uid ++ codes "}")))

abbrev last_members : List ℕ → List ℕ → ℕ → Members
last_members mode path uid = member (codes "mode") (string mode) (member (codes "path") (string path) (member (codes "uid") (number (unsigned uid)) no_members))

in_quotes : (s rest : List ℕ) → quoted s ++ rest ≡ 34 ∷ (escape s ++ 34 ∷ rest)
in_quotes s rest = ap (λ e. 34 ∷ e) (append_assoc (escape s) (34 ∷ []) rest)

-- what stands in quotes and isn't escaped
plain_in_quotes : (s rest : List ℕ) → escape s ≡ s → quoted s ++ rest ≡ 34 ∷ (s ++ 34 ∷ rest)
plain_in_quotes s rest plain = in_quotes s rest ∙ ap (λ e. 34 ∷ (e ++ 34 ∷ rest)) plain

last-text : (mode path : List ℕ) (uid : ℕ) → escape mode ≡ mode
    → members_text true (last_members mode path uid) ≡ codes ",\"mode\":\"" ++ (mode ++ (codes "\",\"path\":\"" ++ (escape path ++ (codes "\",\"uid\":" ++ (decimal uid ++ codes "}")))))
unfolding escape_byte
last-text mode path uid plain =
    ap (λ e. codes ",\"mode\":" ++ e) (plain_in_quotes mode (behind_mode path uid) plain)
    ∙ ap (λ e. codes ",\"mode\":\"" ++ (mode ++ (codes "\",\"path\":" ++ e))) (in_quotes path (codes ",\"uid\":" ++ (decimal uid ++ codes "}")))

end-is : (path : List (List ℕ)) (meta : Meta) → meta.mode < 4096
    → members_text true (last_members (mode_text meta.mode) (text_of path) meta.uid) ≡ codes ",\"mode\":\"" ++ end_text path meta
end-is path meta small = last-text (mode_text meta.mode) (text_of path) meta.uid (escape-plain (mode_text meta.mode) (mode-plain meta.mode small))

pub directory-text : (path : List (List ℕ)) (meta : Meta) → meta.mode < 4096
    → compact_text (entry_data path (Directory meta)) ≡ codes "{\"dir\":true,\"gid\":" ++ (decimal meta.gid ++ (codes ",\"mode\":\"" ++ end_text path meta))
unfolding escape_byte
directory-text path meta small = ap (λ e. codes "{\"dir\":true,\"gid\":" ++ (decimal meta.gid ++ e)) (end-is path meta small)

hex-then : (hex : List ℕ) (gid : ℕ) (rest : List ℕ) → escape hex ≡ hex
    → codes "{\"gid\":" ++ (decimal gid ++ (codes ",\"hex\":" ++ (quoted hex ++ rest))) ≡ codes "{\"gid\":" ++ (decimal gid ++ (codes ",\"hex\":\"" ++ (hex ++ (codes "\"" ++ rest))))
hex-then hex gid rest plain = ap (λ e. codes "{\"gid\":" ++ (decimal gid ++ (codes ",\"hex\":" ++ e))) (plain_in_quotes hex rest plain)

pub file-text : (path : List (List ℕ)) (meta : Meta) (bytes : List ℕ) → meta.mode < 4096 → IsBytes bytes
    → compact_text (entry_data path (File meta bytes)) ≡ codes "{\"gid\":" ++ (decimal meta.gid ++ (codes ",\"hex\":\"" ++ (encode_lower bytes ++ (codes "\",\"mode\":\"" ++ end_text path meta))))
unfolding escape_byte
file-text path meta bytes small fits =
    ap (λ e. codes "{\"gid\":" ++ (decimal meta.gid ++ (codes ",\"hex\":" ++ (quoted (encode_lower bytes) ++ e)))) (end-is path meta small)
    ∙ hex-then (encode_lower bytes) meta.gid (codes ",\"mode\":\"" ++ end_text path meta) (escape-plain (encode_lower bytes) (hex-plain bytes fits))

-- what an entry begins with, and then the rest
pub start-then : (comma key owner behind rest : List ℕ) → (comma ++ (key ++ (owner ++ behind))) ++ rest ≡ comma ++ (key ++ (owner ++ (behind ++ rest)))
start-then comma key owner behind rest =
    append_assoc comma (key ++ (owner ++ behind)) rest
    ∙ ap (λ t. comma ++ t) (append_assoc key (owner ++ behind) rest ∙ ap (λ t. key ++ t) (append_assoc owner behind rest))

encode-append : (t a b : List ℕ) → encode_with t (a ++ b) ≡ encode_with t a ++ encode_with t b
unfolding encode_with
encode-append t [] b = refl
encode-append t (x ∷ a) b = ap (λ e. slice_index t (x / 16) ∷ slice_index t (x % 16) ∷ e) (encode-append t a b)

-- the digits of some bytes, and then those of the rest
pub encode-pieces : (rest piece behind : List ℕ) (n : ℕ) → piece ≡ take n rest → behind ≡ drop n rest → encode_lower rest ≡ encode_lower piece ++ encode_lower behind
encode-pieces rest piece behind n front back =
    sym (ap encode_lower (take-append-drop n rest))
    ∙ encode-append lower_digits (take n rest) (drop n rest)
    ∙ ap (λ d. d ++ encode_lower (drop n rest)) (ap encode_lower (sym front))
    ∙ ap (λ d. encode_lower piece ++ d) (ap encode_lower (sym back))

-- no byte has no digit
pub encode-none : (rest : List ℕ) → length rest ≡ 0 → [] ≡ encode_lower rest
unfolding encode_with
encode-none [] none = refl
encode-none (b ∷ rest) none = absurd (omega arith)

-- ---- items of a list

pub drop-item : {A : Type 0} (xs : List A) (x : A) (i : ℕ) → i < length xs → x ≡ get_or xs i x → drop i xs ≡ x ∷ drop (i + 1) xs
drop-item xs x i lt is = drop-cons xs i x lt ∙ ap (λ y. y ∷ drop (suc i) xs) (sym is) ∙ ap (λ n. x ∷ drop n xs) (sym (add-one i))

-- the names of a path from one on, that name first
pub names-from : (names : List (Bor (List ℕ))) (name : Bor (List ℕ)) (bytes : List ℕ) (i : ℕ) → i < length names → name ≡ get_or names i name → bytes ≡ name.now
    → (47 ∷ escape bytes) ++ escape (rooted (lent_names (drop (i + 1) names))) ≡ escape (rooted (lent_names (drop i names)))
names-from names name bytes i lt is same =
    ap (λ n. (47 ∷ escape n) ++ escape (rooted (lent_names (drop (i + 1) names)))) same
    ∙ sym (escape-rooted name.now (lent_names (drop (i + 1) names)))
    ∙ ap (λ ns. escape (rooted (lent_names ns))) (sym (drop-item names name i lt is))

-- ---- entries

rest-cons : (later : Bool) (row : Row) (rows : List Row) → rest_text later (row ∷ rows) ≡ (comma_if later ++ entry_text row.0 row.1) ++ rest_text true rows
rest-cons later row rows = append_assoc (comma_if later ++ entry_text row.0 row.1) (rows_text true rows) (codes "]")

pub rows-are : (later : Bool) (rows : List Row) → rest_text later rows ≡ items_text later (items_of (map {A = Row} (λ row. entry_data row.0 row.1) rows))
unfolding entry_text
rows-are later [] = refl
rows-are later (row ∷ rows) =
    rest-cons later row rows
    ∙ append_assoc (comma_if later) (compact_text (entry_data row.0 row.1)) (rest_text true rows)
    ∙ ap (λ e. comma_if later ++ (compact_text (entry_data row.0 row.1) ++ e)) (rows-are true rows)

-- the text of the next entries of a walk, the next one first
pub rows-next : (later : Bool) (k : ℕ) (rows rest : List Row) (path names : List (List ℕ)) (entry : Entry) → rows ≡ (path, entry) ∷ rest → names ≡ path
    → (comma_if later ++ entry_text names entry) ++ rows_text true (take k rest) ≡ rows_text later (take (suc k) rows)
rows-next later k rows rest path names entry next same =
    ap (λ p. (comma_if later ++ entry_text p entry) ++ rows_text true (take k rest)) same
    ∙ sym (ap (λ rs. rows_text later (take (suc k) rs)) next)

-- of no entries, or of none that are left, nothing is said
pub rows-none : (later : Bool) (k : ℕ) (rows : List Row) → k ≡ 0 → [] ≡ rows_text later (take k rows)
rows-none later k rows none = sym (ap (λ n. rows_text later (take n rows)) none)

pub rows-end : (later : Bool) (k : ℕ) (rows : List Row) → rows ≡ [] → [] ≡ rows_text later (take k rows)
rows-end later k rows none = sym (ap (λ rs. rows_text later (take k rs)) none ∙ ap (rows_text later) (take_all k [] (omega arith)))

split-later : (n : ℕ) (rows : List Row) → rows_text true (take n rows) ++ rest_text true (drop n rows) ≡ rest_text true rows
split-later zero rows = refl
split-later (suc n) [] = refl
split-later (suc n) (row ∷ rows) =
    append_assoc (comma_if true ++ entry_text row.0 row.1) (rows_text true (take n rows)) (rest_text true (drop n rows))
    ∙ ap (λ t. (comma_if true ++ entry_text row.0 row.1) ++ t) (split-later n rows)
    ∙ sym (rest-cons true row rows)

-- the text of some entries, and then that of the rest with the bracket
pub rows-split : (n : ℕ) (later : Bool) (rows : List Row) → 0 < n → rows_text later (take n rows) ++ rest_text true (drop n rows) ≡ rest_text later rows
rows-split zero later rows some = absurd (omega arith)
rows-split (suc n) later [] some = refl
rows-split (suc n) later (row ∷ rows) some =
    append_assoc (comma_if later ++ entry_text row.0 row.1) (rows_text true (take n rows)) (rest_text true (drop n rows))
    ∙ ap (λ t. (comma_if later ++ entry_text row.0 row.1) ++ t) (split-later n rows)
    ∙ sym (rest-cons later row rows)

-- no entry is left behind some
pub rows-last : (n : ℕ) (later : Bool) (rows rest : List Row) → 0 < n → rest ≡ drop n rows → rest ≡ [] → rows_text later (take n rows) ++ codes "]" ≡ rest_text later rows
rows-last n later rows rest some is none =
    ap (λ rs. rows_text later (take n rows) ++ rest_text true rs) (sym none ∙ is) ∙ rows-split n later rows some

-- ---- steps of a walk

step_suc : {A : Type 0} (n : ℕ) (xs rest : List A) (x : A) → drop n xs ≡ x ∷ rest → (drop (suc n) xs ≡ rest) × (n < length xs)
step_suc zero [] rest x is = absurd (cc)
step_suc zero (y ∷ xs) rest x is = (cc, omega arith)
step_suc (suc n) [] rest x is = absurd (cc)
step_suc (suc n) (y ∷ xs) rest x is = let below = step_suc n xs rest x is in (below.0, omega (arith, below.1))

-- the item that a walk gives next is the first of what is behind the others
pub drop-step : {A : Type 0} (n : ℕ) (xs left rest : List A) (x : A) → left ≡ drop n xs → left ≡ x ∷ rest → (rest ≡ drop (n + 1) xs) × (n < length xs)
drop-step n xs left rest x is next =
    let both = step_suc n xs rest x (sym is ∙ next) in
    (sym both.0 ∙ ap (λ k. drop k xs) (sym (add-one n)), both.1)

-- nothing is behind more items than there are
pub drop-end : {A : Type 0} (n m : ℕ) (xs left : List A) → left ≡ drop n xs → left ≡ [] → n ≤ m → drop m xs ≡ []
drop-end n m xs left is none more =
    let gone : length (drop n xs) ≡ 0 = ap length (sym is ∙ none) in
    drop_all m xs (omega (arith, length-drop n xs, gone))
