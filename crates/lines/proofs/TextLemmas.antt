-- What reading a text needs to know: the byte order mark, and the lines one by one.
use Rattle.std.proofs.Common.{◌≡◌, ◌≢◌, ℕ, Bool, true, false, List, [], ◌∷◌, ◌++◌, take, drop, refl, sym, ap, ◌∙◌}
use Rattle.std.specs.Prelude.{bytes_eq, encode_utf8}
use Rattle.std.proofs.lemmas.Slice.Eq.{bytes_eq-Decides}
use Rattle.std.proofs.lemmas.List.{take-append-drop}
use Rattle.lines.specs.PrivateSteps.{read_line, after_lines}
use Rattle.lines.specs.Text.{without_byte_order_mark}
use lib.Utf8.{encode}
use Rattle.lines.specs.declared.state.FileState.{FileState}

pub after_lines-append : (r : FileState) (xs : List (List ℕ)) (l : List ℕ) → after_lines r (xs ++ l ∷ []) ≡ read_line (after_lines r xs) l
after_lines-append r [] l = refl
after_lines-append r (x ∷ xs) l = after_lines-append (read_line r x) xs l

mark_bytes : encode_utf8 65279 ≡ 239 ∷ 187 ∷ 191 ∷ []
unfolding encode
mark_bytes = refl

begins_with_mark : (text : List ℕ) → bytes_eq (take 3 text) (239 ∷ 187 ∷ 191 ∷ []) ≡ true → text ≡ encode_utf8 65279 ++ drop 3 text
begins_with_mark text h =
    sym (take-append-drop 3 text) ∙ ap (λ front. front ++ drop 3 text) ((bytes_eq-Decides (take 3 text) (239 ∷ 187 ∷ 191 ∷ [])).0 h ∙ sym mark_bytes)

without_byte_order_mark-cons : (rest : List ℕ) → without_byte_order_mark (239 ∷ 187 ∷ 191 ∷ rest) ≡ rest
without_byte_order_mark-cons rest = refl

without_byte_order_mark-by : (text : List ℕ) (b : Bool) → bytes_eq (take 3 text) (239 ∷ 187 ∷ 191 ∷ []) ≡ b → ((rest : List ℕ) → text ≢ encode_utf8 65279 ++ rest) → text ≡ without_byte_order_mark text
without_byte_order_mark-by text true e h = absurd (h (drop 3 text) (begins_with_mark text e))
without_byte_order_mark-by text false e h = rw e refl

-- the words of `strip_prefix`
pub without_byte_order_mark-none : (text : List ℕ) → ((rest : List ℕ) → text ≢ encode_utf8 65279 ++ rest) → text ≡ without_byte_order_mark text
without_byte_order_mark-none text h = without_byte_order_mark-by text (bytes_eq (take 3 text) (239 ∷ 187 ∷ 191 ∷ [])) refl h

pub without_byte_order_mark-some : (text rest part : List ℕ) → text ≡ encode_utf8 65279 ++ rest → part ≡ rest → part ≡ without_byte_order_mark text
without_byte_order_mark-some text rest part h p = p ∙ sym (ap without_byte_order_mark (h ∙ ap (λ m. m ++ rest) mark_bytes) ∙ without_byte_order_mark-cons rest)

-- lines that are read one after the other
pub after_lines-split : (r : FileState) (xs ys : List (List ℕ)) → after_lines r (xs ++ ys) ≡ after_lines (after_lines r xs) ys
after_lines-split r [] ys = refl
after_lines-split r (x ∷ xs) ys = after_lines-split (read_line r x) xs ys
