-- What the loop of `write_all` keeps.
use Rattle.std.proofs.Common.{◌≡◌, ℕ, ◌-◌, List, ◌++◌, Option, length, take, drop, sym, ap, ◌∙◌, append_assoc}
use Rattle.std.proofs.lemmas.List.{take-append-drop, take_rest}
use Rattle.std.proofs.KnownBytes.{Appends-trans}
use Rattle.std.specs.Io.KnownBytes.{Appends}

-- a beginning of the text was written, and the rest of it is still to be written
pub record Progress (old new : Option (List ℕ)) (text rest : List ℕ) : Type 0 where
  pub front : List ℕ
  pub whole : text ≡ front ++ rest
  pub grown : Appends old new front

-- a write moves the seam; the rest after it is stated as `&rest[n..]` is
pub more_written : (old mid new : Option (List ℕ)) (text rest : List ℕ) (n : ℕ) → Progress old mid text rest
    → Appends mid new (take n rest) → Progress old new text (take (length rest - n) (drop n rest))
more_written old mid new text rest n so_far more = record {
  front = so_far.front ++ take n rest;
  whole = so_far.whole ∙ ap (λ l. so_far.front ++ l) (sym (take-append-drop n rest))
      ∙ sym (append_assoc so_far.front (take n rest) (drop n rest))
      ∙ ap (λ l. (so_far.front ++ take n rest) ++ l) (sym (take_rest rest n));
  grown = Appends-trans old mid new so_far.front (take n rest) so_far.grown more;
}
