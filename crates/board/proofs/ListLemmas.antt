-- Plain facts of the machine's lists: the least number that passes, and the claims that are out.
use Rattle.std.proofs.Common.{◌≡◌, ◌≢◌, ℕ, zero, suc, ◌+◌, ◌<◌, ◌≤◌, ◌==◌, Bool, true, false, cond, ◌⊎◌, inl, inr, List, [], ◌∷◌, ◌++◌, length, Option, Some, None, refl, sym, ap, ◌∙◌, arith}
use Rattle.std.specs.Option.{IfSome}
use Rattle.std.specs.Prelude.{slice_get}
use Rattle.std.proofs.lemmas.Bool.{eqb-true, eqb-false, eq-eqb, ne_eqb, cases_lt, cases_eq, or_parts, or_from}
use Rattle.board.specs.Play.{least, or_last, claim_of, without, is_claimed}
use Rattle.board.specs.Play.{vertex_of}
use Rattle.board.specs.PrivateClaim.{AreApart}
use Rattle.board.specs.declared.claim.ClaimOut.{ClaimOut}

-- the least number below n that passes a test, or that there is none
pub record IsLeast (test : ℕ → Bool) (n k : ℕ) : Type 0 where
  pub within : k < n
  pub passes : test k ≡ true
  pub below : (j : ℕ) → j < k → test j ≡ false

more_none : (test : ℕ → Bool) (n : ℕ) → ((j : ℕ) → j < n → test j ≡ false) → test n ≡ false → (j : ℕ) → j < n + 1 → test j ≡ false
more_none test n below here j l =
    elim (cases_eq j n) [ inl e ↦ rw e here | inr ne ↦ below j (omega (arith, ne)) ]

one_some : (test : ℕ → Bool) (n k : ℕ) (o : Option ℕ) → ((j : ℕ) → o ≡ Some j → IsLeast test n j) → (o ≡ None → (j : ℕ) → j < n → test j ≡ false) → or_last test n o ≡ Some k → (b : Bool) → test n ≡ b → IsLeast test (suc n) k
one_some test n k (Some j) found none e b eb =
    let h = found j refl in
    let same : j ≡ k = cc in
    let l : j < n = h.within in
    record { within = omega (arith, l, same); passes = rw (← same) h.passes; below = λ i l. h.below i (omega (arith, l, same)) }
one_some test n k None found none e true eb =
    let f : cond (test n) (Some n) None ≡ Some k = e in
    let g : Some n ≡ Some k = rw eb at f in
    let same : n ≡ k = cc in
    record { within = omega (arith, same); passes = rw (← same) eb; below = λ i l. none refl i (omega (arith, l, same)) }
one_some test n k None found none e false eb =
    let f : cond (test n) (Some n) None ≡ Some k = e in
    let g : None ≡ Some k = rw eb at f in
    cc

one_none : (test : ℕ → Bool) (n : ℕ) (o : Option ℕ) → (o ≡ None → (j : ℕ) → j < n → test j ≡ false) → or_last test n o ≡ None → (b : Bool) → test n ≡ b → (j : ℕ) → j < suc n → test j ≡ false
one_none test n (Some k) none e b eb j l = cc
one_none test n None none e true eb j l =
    let f : cond (test n) (Some n) None ≡ None = e in
    let g : Some n ≡ None = rw eb at f in
    cc
one_none test n None none e false eb j l = more_none test n (none refl) eb j (omega (arith, l))

pub least-none : (test : ℕ → Bool) (n : ℕ) → least test n ≡ None → (j : ℕ) → j < n → test j ≡ false
least-none test zero e j l = absurd (omega (arith, l))
least-none test (suc n) e j l = one_none test n (least test n) (least-none test n) e (test n) refl j l

pub least-some : (test : ℕ → Bool) (n k : ℕ) → least test n ≡ Some k → IsLeast test n k
least-some test zero k e = cc
least-some test (suc n) k e = one_some test n k (least test n) (least-some test n) (least-none test n) e (test n) refl

pub least-missing : (test : ℕ → Bool) (n : ℕ) → ((j : ℕ) → j < n → test j ≡ false) → least test n ≡ None
least-missing test zero none = refl
least-missing test (suc n) none =
    let h = least-missing test n (λ j l. none j (omega (arith, l))) in
    rw (h, none n (omega arith)) refl

pub least-found : (test : ℕ → Bool) (n k : ℕ) → k < n → test k ≡ true → ((j : ℕ) → j < k → test j ≡ false) → least test n ≡ Some k
least-found test zero k l passes below = absurd (omega (arith, l))
least-found test (suc n) k l passes below = by_place (cases_lt k n) (least-found test n k)
  where
    by_place : (k < n) ⊎ (n ≤ k) → (k < n → test k ≡ true → ((j : ℕ) → j < k → test j ≡ false) → least test n ≡ Some k) → or_last test n (least test n) ≡ Some k
    by_place (inl before) h = rw (h before passes below) refl
    by_place (inr after) h =
        let same : k ≡ n = omega (arith, l, after) in
        let here : test n ≡ true = rw (← same) passes in
        let none : least test n ≡ None = least-missing test n (λ j m. below j (omega (arith, m, same))) in
        rw (none, here) (ap Some (sym same))

pub least-passes : (test : ℕ → Bool) (n : ℕ) (o : Option ℕ) → o ≡ least test n → IfSome o (λ k. test k ≡ true)
least-passes test n (Some k) e = (least-some test n k (sym e)).passes
least-passes test n None e = tt

at_head : (worker : ℕ) (claim : ClaimOut) (claims : List ClaimOut) → (claim.worker == worker) ≡ true → claim_of worker (claim ∷ claims) ≡ Some claim
at_head worker claim claims e = rw e refl

past_head : (worker : ℕ) (claim : ClaimOut) (claims : List ClaimOut) → (claim.worker == worker) ≡ false → claim_of worker (claim ∷ claims) ≡ claim_of worker claims
past_head worker claim claims e = rw e refl

pub claim_of-worker : (worker : ℕ) (claims : List ClaimOut) (claim : ClaimOut) → claim_of worker claims ≡ Some claim → claim.worker ≡ worker
claim_of-worker worker [] claim e = cc
claim_of-worker worker (first ∷ claims) claim e = by_test (first.worker == worker) refl (claim_of-worker worker claims claim)
  where
    by_test : (b : Bool) → (first.worker == worker) ≡ b → (claim_of worker claims ≡ Some claim → claim.worker ≡ worker) → claim.worker ≡ worker
    by_test true t rest =
        let same : first ≡ claim = (let h = at_head worker first claims t in cc) in
        rw (← same) (eqb-true first.worker worker t)
    by_test false t rest = rest (sym (past_head worker first claims t) ∙ e)

-- one claim more, of a worker that has none
pub claim_of-push : (worker : ℕ) (claims : List ClaimOut) (claim : ClaimOut) → claim_of claim.worker claims ≡ None → claim_of worker (claims ++ claim ∷ []) ≡ cond (claim.worker == worker) (Some claim) (claim_of worker claims)
claim_of-push worker [] claim free = refl
claim_of-push worker (first ∷ claims) claim free = by_test (claim_of-push worker claims claim) (first.worker == claim.worker) refl (first.worker == worker) refl
  where
    by_test : (claim_of claim.worker claims ≡ None → claim_of worker (claims ++ claim ∷ []) ≡ cond (claim.worker == worker) (Some claim) (claim_of worker claims)) → (b : Bool) → (first.worker == claim.worker) ≡ b → (d : Bool) → (first.worker == worker) ≡ d → claim_of worker ((first ∷ claims) ++ claim ∷ []) ≡ cond (claim.worker == worker) (Some claim) (claim_of worker (first ∷ claims))
    by_test rest true t d s = (let h = at_head claim.worker first claims t in cc)
    by_test rest false t true s =
        let other : (claim.worker == worker) ≡ false = ne_eqb claim.worker worker (λ q. eqb-false first.worker claim.worker t (eqb-true first.worker worker s ∙ sym q)) in
        rw (s, other) refl
    by_test rest false t false s = rw s (rest (sym (past_head claim.worker first claims t) ∙ free))

pub claim_of-without : (worker gone : ℕ) (claims : List ClaimOut) → claim_of worker (without gone claims) ≡ cond (gone == worker) None (claim_of worker claims)
claim_of-without worker gone [] = elim (gone == worker) as (λ b. None ≡ cond {A = Option ClaimOut} b None None) [ true ↦ refl | false ↦ refl ]
claim_of-without worker gone (first ∷ claims) = by_test (claim_of-without worker gone claims) (first.worker == gone) refl (first.worker == worker) refl (gone == worker) refl
  where
    by_test : claim_of worker (without gone claims) ≡ cond (gone == worker) None (claim_of worker claims) → (b : Bool) → (first.worker == gone) ≡ b → (d : Bool) → (first.worker == worker) ≡ d → (c : Bool) → (gone == worker) ≡ c → claim_of worker (without gone (first ∷ claims)) ≡ cond (gone == worker) None (claim_of worker (first ∷ claims))
    by_test rest true t true s true g = rw (t, g) (rest ∙ rw g refl)
    by_test rest true t true s false g = absurd (eqb-false gone worker g (sym (eqb-true first.worker gone t) ∙ eqb-true first.worker worker s))
    by_test rest true t false s true g = rw (t, g) (rest ∙ rw g refl)
    by_test rest true t false s false g = rw (t, g, s) (rest ∙ rw g refl)
    by_test rest false t true s true g = absurd (eqb-false first.worker gone t (eqb-true first.worker worker s ∙ sym (eqb-true gone worker g)))
    by_test rest false t true s false g = rw (t, s, g) refl
    by_test rest false t false s true g = rw (t, s, g) (rest ∙ rw g refl)
    by_test rest false t false s false g = rw (t, s, g) (rest ∙ rw g refl)

pub AreApart-push : (claims : List ClaimOut) (claim : ClaimOut) → AreApart claims → claim_of claim.worker claims ≡ None → AreApart (claims ++ claim ∷ [])
AreApart-push [] claim apart free = (refl, tt)
AreApart-push (first ∷ claims) claim apart free = by_test (AreApart-push claims claim apart.1) (first.worker == claim.worker) refl
  where
    by_test : (claim_of claim.worker claims ≡ None → AreApart (claims ++ claim ∷ [])) → (b : Bool) → (first.worker == claim.worker) ≡ b → AreApart ((first ∷ claims) ++ claim ∷ [])
    by_test rest true t = (let h = at_head claim.worker first claims t in absurd cc)
    by_test rest false t =
        let free_after : claim_of claim.worker claims ≡ None = sym (past_head claim.worker first claims t) ∙ free in
        let other : (claim.worker == first.worker) ≡ false = ne_eqb claim.worker first.worker (λ q. eqb-false first.worker claim.worker t (sym q)) in
        (claim_of-push first.worker claims claim free_after ∙ rw other apart.0, rest free_after)

none_without : (worker gone : ℕ) (claims : List ClaimOut) → claim_of worker claims ≡ None → claim_of worker (without gone claims) ≡ None
none_without worker gone claims none =
    claim_of-without worker gone claims ∙ (rw none (elim (gone == worker) as (λ b. cond {A = Option ClaimOut} b None None ≡ None) [ true ↦ refl | false ↦ refl ]))

pub AreApart-without : (gone : ℕ) (claims : List ClaimOut) → AreApart claims → AreApart (without gone claims)
AreApart-without gone [] apart = tt
AreApart-without gone (first ∷ claims) apart = by_test (AreApart-without gone claims apart.1) (first.worker == gone) refl
  where
    by_test : AreApart (without gone claims) → (b : Bool) → (first.worker == gone) ≡ b → AreApart (without gone (first ∷ claims))
    by_test rest true t = rw t rest
    by_test rest false t = rw t (none_without first.worker gone claims apart.0, rest)

-- a vertex of which no claim is out is no worker's, and the other way round
pub is_claimed-false : (vertex : ℕ) (claims : List ClaimOut) → is_claimed vertex claims ≡ false → (worker : ℕ) → vertex_of (claim_of worker claims) ≢ Some vertex
is_claimed-false vertex [] none worker e = cc
is_claimed-false vertex (first ∷ claims) none worker e = by_test (is_claimed-false vertex claims) (first.worker == worker) refl
  where
    parts : ((first.vertex == vertex) ≡ false) × (is_claimed vertex claims ≡ false)
    parts = or_parts (first.vertex == vertex) (is_claimed vertex claims) none

    by_test : (is_claimed vertex claims ≡ false → (by : ℕ) → vertex_of (claim_of by claims) ≢ Some vertex) → (b : Bool) → (first.worker == worker) ≡ b → ⊥
    by_test rest true t =
        let f : vertex_of (Some first) ≡ Some vertex = ap vertex_of (sym (at_head worker first claims t)) ∙ e in
        let g : first.vertex ≡ vertex = cc in
        eqb-false first.vertex vertex parts.0 g
    by_test rest false t = rest parts.1 worker (ap vertex_of (sym (past_head worker first claims t)) ∙ e)

pub is_claimed-none : (vertex : ℕ) (claims : List ClaimOut) → AreApart claims → ((worker : ℕ) → vertex_of (claim_of worker claims) ≢ Some vertex) → is_claimed vertex claims ≡ false
is_claimed-none vertex [] apart free = refl
is_claimed-none vertex (first ∷ claims) apart free = or_from (first.vertex == vertex) (is_claimed vertex claims) here (is_claimed-none vertex claims apart.1 (λ worker. by_test worker (first.worker == worker) refl))
  where
    here : (first.vertex == vertex) ≡ false
    here = ne_eqb first.vertex vertex (λ q. free first.worker (ap vertex_of (at_head first.worker first claims (eq-eqb first.worker first.worker refl)) ∙ ap Some q))

    by_test : (worker : ℕ) (b : Bool) → (first.worker == worker) ≡ b → vertex_of (claim_of worker claims) ≢ Some vertex
    by_test worker true t e =
        let same : first.worker ≡ worker = eqb-true first.worker worker t in
        let none : claim_of worker claims ≡ None = rw (← same) apart.0 in
        let f : None ≡ Some vertex = rw none at e in
        cc
    by_test worker false t e = free worker (ap vertex_of (past_head worker first claims t) ∙ e)

without-le : (gone : ℕ) (claims : List ClaimOut) → length (without gone claims) ≤ length claims
without-le gone [] = omega arith
without-le gone (first ∷ claims) = by_test (without-le gone claims) (first.worker == gone) refl
  where
    by_test : length (without gone claims) ≤ length claims → (b : Bool) → (first.worker == gone) ≡ b → length (without gone (first ∷ claims)) ≤ length (first ∷ claims)
    by_test rest true t = rw t (omega (arith, rest))
    by_test rest false t = rw t (omega (arith, rest))

-- without a worker's claim there is one claim fewer
pub without-shorter : (gone : ℕ) (claims : List ClaimOut) (claim : ClaimOut) → claim_of gone claims ≡ Some claim → length (without gone claims) < length claims
without-shorter gone [] claim e = cc
without-shorter gone (first ∷ claims) claim e = by_test (without-shorter gone claims claim) (first.worker == gone) refl
  where
    by_test : (claim_of gone claims ≡ Some claim → length (without gone claims) < length claims) → (b : Bool) → (first.worker == gone) ≡ b → length (without gone (first ∷ claims)) < length (first ∷ claims)
    by_test rest true t = (let h = without-le gone claims in rw t (omega (arith, h)))
    by_test rest false t =
        let h = rest (sym (past_head gone first claims t) ∙ e) in
        rw t (omega (arith, h))

-- a claim among those that are out is the one that its worker has out
pub placed-is : (place : ℕ) (claims : List ClaimOut) (claim : ClaimOut) → AreApart claims → slice_get claims place ≡ Some claim → claim_of claim.worker claims ≡ Some claim
placed-is place [] claim apart there = cc
placed-is zero (first ∷ claims) claim apart there =
    let same : first ≡ claim = cc in
    let t : (first.worker == claim.worker) ≡ true = eq-eqb first.worker claim.worker (ap (λ c. c.worker) same) in
    rw t (ap Some same)
placed-is (suc place) (first ∷ claims) claim apart there = by_test (placed-is place claims claim apart.1 there) (first.worker == claim.worker) refl
  where
    by_test : claim_of claim.worker claims ≡ Some claim → (b : Bool) → (first.worker == claim.worker) ≡ b → claim_of claim.worker (first ∷ claims) ≡ Some claim
    by_test rest true t =
        let same : first.worker ≡ claim.worker = eqb-true first.worker claim.worker t in
        let none : claim_of claim.worker claims ≡ None = rw (← same) apart.0 in
        let f : None ≡ Some claim = sym none ∙ rest in
        cc
    by_test rest false t = rw t rest
