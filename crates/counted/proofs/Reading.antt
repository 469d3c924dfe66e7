-- What is left of a reader's bytes when `read_all` ends.
use Rattle.std.proofs.Common.{◌≤◌, ◌+◌, ℕ, List, ◌++◌, length, Option, Result, Ok, Err, arith, length-append}
use Rattle.std.proofs.KnownBytes.{Consumes-trans}
use Rattle.std.specs.Io.KnownBytes.{Consumes}
use Rattle.std.specs.Result.{OnErr}
use Rattle.counted.specs.Edges.{LosesBeginning}

-- what two reads took, one after the other, is a beginning
pub loses_more : {T E : Type 0} (result : Result T E) (limit : ℕ) (old mid new : Option (List ℕ)) (first second : List ℕ)
    → length first + length second ≤ limit → Consumes old mid first → Consumes mid new second → OnErr result (LosesBeginning limit old new)
loses_more (Ok x) limit old mid new first second short p q = tt
loses_more (Err e) limit old mid new first second short p q =
    (first ++ second, omega (arith, length-append first second), Consumes-trans old mid new first second p q)
