-- Where the claims that are out are given up, what had happened before is the beginning of the history.
use Rattle.std.proofs.Common.{◌≡◌, ◌≢◌, ℕ, ◌==◌, Bool, true, false, true≢false, inl, inr, ◌⊎◌, List, [], ◌∷◌, ◌++◌, length, take, Option, Some, None, refl, sym, ap, ◌∙◌, subst, append_assoc, append-nil}
use Rattle.std.proofs.lemmas.Bool.{eqb-true, eq-eqb}
use Rattle.std.proofs.lemmas.List.{take_at}
use Rattle.plans.specs.Plan.{Problem}
use Rattle.board.specs.Play.{Run, Abandon, Move, claim_of, next, moved, go}
use Rattle.board.specs.Claim.{ClaimValue, IsOut, claim_out}
use Rattle.board.specs.declared.claim.ClaimOut.{ClaimOut}
use Rattle.board.specs.declared.event.Happened.{Happened}
use Rattle.replay.specs.PrivateFollowing.{Begins}

same-or-not : (m n : ℕ) → (m ≡ n) ⊎ (m ≢ n)
same-or-not m n = by_test (m == n) refl
  where
    by_test : (b : Bool) → (m == n) ≡ b → (m ≡ n) ⊎ (m ≢ n)
    by_test true t = inl (eqb-true m n t)
    by_test false t = inr (λ e. true≢false (sym (eq-eqb m n e) ∙ t))

claims-or-not : (this that : ClaimOut) → (this ≡ that) ⊎ (this ≢ that)
claims-or-not this that = by_fields (same-or-not this.worker that.worker) (same-or-not this.vertex that.vertex) (same-or-not this.at that.at)
  where
    by_fields : (this.worker ≡ that.worker) ⊎ (this.worker ≢ that.worker) → (this.vertex ≡ that.vertex) ⊎ (this.vertex ≢ that.vertex) → (this.at ≡ that.at) ⊎ (this.at ≢ that.at) → (this ≡ that) ⊎ (this ≢ that)
    by_fields (inr apart) vertex at = inr (λ e. apart (ap (λ c. c.worker) e))
    by_fields (inl worker) (inr apart) at = inr (λ e. apart (ap (λ c. c.vertex) e))
    by_fields (inl worker) (inl vertex) (inr apart) = inr (λ e. apart (ap (λ c. c.at) e))
    by_fields (inl worker) (inl vertex) (inl at) =
        inl (ap (λ w. record { worker = w; vertex = this.vertex; at = this.at }) worker
        ∙ (ap (λ v. record { worker = that.worker; vertex = v; at = this.at }) vertex ∙ ap (λ a. record { worker = that.worker; vertex = that.vertex; at = a }) at))

some-or-not : (found : Option ClaimOut) (claim : ClaimOut) → (found ≡ Some claim) ⊎ (found ≢ Some claim)
some-or-not None claim = inr (λ e. (let f : None ≡ Some claim = e in cc))
some-or-not (Some other) claim = by_test (claims-or-not other claim)
  where
    by_test : (other ≡ claim) ⊎ (other ≢ claim) → (Some other ≡ Some claim) ⊎ (Some other ≢ Some claim)
    by_test (inl same) = inl (ap Some same)
    by_test (inr apart) = inr (λ e. (let f : Some other ≡ Some claim = e in let same : other ≡ claim = cc in apart same))

-- nothing has happened since
pub begins-itself : (history : List Happened) → Begins history history
begins-itself history = ([], sym (append-nil history))

-- a claim more is given up, if it was out
pub still-begins : (problem : Problem) (run now : Run) (claim : ClaimValue) (before : List Happened)
    → (IsOut run.state claim → now ≡ go problem run (Abandon claim.worker)) → (¬ IsOut run.state claim → now ≡ run)
    → Begins before run.history → Begins before now.history
still-begins problem run now claim before out ended is = by_out (some-or-not (claim_of claim.worker run.state.claims) (claim_out claim))
  where
    by_move : (o : Option Move) → Begins before (moved run o).history
    by_move None = is
    by_move (Some move) = (is.0 ++ move.happened ∷ [], ap (λ h. h ++ move.happened ∷ []) is.1 ∙ append_assoc before is.0 (move.happened ∷ []))

    by_out : (claim_of claim.worker run.state.claims ≡ Some (claim_out claim)) ⊎ (claim_of claim.worker run.state.claims ≢ Some (claim_out claim)) → Begins before now.history
    by_out (inl is_out) = subst (λ r. Begins before r.history) (sym (out is_out)) (by_move (next problem run (Abandon claim.worker)))
    by_out (inr gone) = subst (λ r. Begins before r.history) (sym (ended gone)) is

-- as many events as a beginning has are that beginning
pub cut-again : (before history cut : List Happened) (count : ℕ) → Begins before history → count ≡ length before → cut ≡ take count history → cut ≡ before
cut-again before history cut count begins same e =
    e ∙ (ap (take count) begins.1 ∙ take_at before begins.0 count (sym same))
