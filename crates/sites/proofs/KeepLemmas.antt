-- What stands in the cell of a claim's vertex is the claim's result.
use Rattle.std.proofs.Common.{◌≡◌, ℕ, Option, Some, None, Result, Ok, Err, sym, ap, ◌∙◌, subst}
use Rattle.std.specs.Prelude.{IfOk, IfSome}
use Rattle.trees.specs.Cause.{TreeOrCause}
use Rattle.plans.specs.Plan.{Problem, vertex_value, IsValue}
use Rattle.cells.specs.Found.{FoundValue}
use Rattle.board.specs.Claim.{ClaimValue, IsResult}

abbrev or_this : TreeOrCause → Option TreeOrCause → TreeOrCause
or_this this None = this
or_this this (Some value) = value

pub kept-is : {M : Type 0} (problem : Problem) (claim : ClaimValue) (mine : TreeOrCause) (number : ℕ) (result : Result (Option (FoundValue TreeOrCause)) M) → number ≡ claim.vertex → vertex_value problem claim.vertex ≡ Some mine → IsResult problem claim mine → IfOk result (λ known. IfSome known (λ k. k.number ≡ number)) → IfOk result (λ known. IfSome known (λ k. IsValue problem number k.value)) → IfOk result (λ known. IfSome known (λ k. (k.number ≡ claim.vertex) × IsResult problem claim k.value))
kept-is problem claim mine number (Err e) same worth is numbered means = tt
kept-is problem claim mine number (Ok None) same worth is numbered means = tt
kept-is problem claim mine number (Ok (Some k)) same worth is numbered means =
    let theirs : vertex_value problem claim.vertex ≡ Some k.value = subst (λ v. IsValue problem v k.value) same means in
    let equal : mine ≡ k.value = ap (or_this mine) (sym worth ∙ theirs) in
    (numbered ∙ same, subst (IsResult problem claim) equal is)
