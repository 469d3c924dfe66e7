-- The path of a text, by whether it is the text of one.
use Rattle.std.specs.Prelude.{◌≡◌, ◌≢◌, ℕ, Bool, true, false, Option, Some, None, List, [], bytes_eq}
use Rattle.std.proofs.Common.{refl, sym, ◌∙◌, ap, arith}
use Rattle.std.proofs.lemmas.Slice.Eq.{bytes_eq-Decides}
use Rattle.paths.specs.Path.{IsClean, text_of}
use Rattle.paths.specs.Reading.{read_from, limit_of}
use Rattle.paths.specs.declared.fault.PathLimit.{PathLimit}
use Rattle.paths.proofs.ReadingLaws.{read_from-text_of, read_from-clean, limit_of-clean}
use Rattle.strict.specs.Strict.{path_of}

root : IsClean []
root = record { names = refl; short = refl; few = omega arith }

pub path_of-text : (p : List (List ℕ)) (text : List ℕ) → IsClean p → text_of p ≡ text → path_of text ≡ Some p
path_of-text p text clean e =
    let leads : read_from text [] ≡ p = ap (λ t. read_from t []) (sym e) ∙ read_from-text_of p [] clean.names in
    let same : bytes_eq (text_of p) text ≡ true = (bytes_eq-Decides (text_of p) text).1 e in
    rw (leads, limit_of-clean p clean, same) refl

pub path_of-other : (text : List ℕ) → ((p : List (List ℕ)) → IsClean p → text_of p ≢ text) → path_of text ≡ None
path_of-other text none = by (limit_of (read_from text [])) (bytes_eq (text_of (read_from text [])) text) refl refl
  where
    by : (o : Option PathLimit) (b : Bool) → limit_of (read_from text []) ≡ o → bytes_eq (text_of (read_from text [])) text ≡ b → path_of text ≡ None
    by (Some limit) b e f = rw e refl
    by None true e f = absurd (none (read_from text []) (read_from-clean text [] root e) ((bytes_eq-Decides (text_of (read_from text [])) text).0 f))
    by None false e f = rw (e, f) refl
