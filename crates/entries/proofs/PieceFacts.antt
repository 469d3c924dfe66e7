-- Parts of a piece, one behind the other.
use Rattle.std.proofs.Common.{◌≡◌, ℕ, ◌+◌, ◌≤◌, List, ◌++◌, length, take, sym, ap, ◌∙◌, arith, length-take-le}
use Rattle.std.proofs.lemmas.List.{take-take}
use Rattle.std.proofs.Math.Seq.{take-append-add}

-- of a text that was written, fewer bytes
pub front-of : (at size more : ℕ) (old new bytes : List ℕ) → size ≤ more → more ≤ length bytes → at ≤ length old
    → take (at + length (take more bytes)) new ≡ take at old ++ take more bytes → take (at + size) new ≡ take at old ++ take size bytes
front-of at size more old new bytes less inside within written =
    let long : length (take more bytes) ≡ more = length-take-le more bytes inside in
    let lower : at + size ≤ at + length (take more bytes) = omega (arith, long) in
    let place : at + size ≡ length (take at old) + size = omega (arith, length-take-le at old within) in
    sym (take-take (at + size) (at + length (take more bytes)) new lower)
    ∙ ap (take (at + size)) written
    ∙ ap (λ n. take n (take at old ++ take more bytes)) place
    ∙ take-append-add (take at old) (take more bytes) size
    ∙ ap (λ t. take at old ++ t) (take-take size more bytes less)
