-- What settling what is said of names does.
use Rattle.std.proofs.Common.{◌≡◌, ℕ, Bool, true, false, List, [], ◌∷◌, ◌++◌, Option, Some, None, refl, ap, sym, ◌∙◌, append_assoc, append-nil}
use Rattle.std.specs.Prelude.{if◌then◌else◌}
use Rattle.std.specs.Str.{bytes_eq}
use Rattle.std.specs.Cmp.Lexicographic.{bytes_decides, nat_list_eq_equiv}
use Rattle.scopes.specs.Scope.{or_else, where_same}
use Rattle.scopes.proofs.Said.{Said, last, apart, settled, put, found, flat}

pub or_else-assoc : (a b c : Option (List ℕ)) → or_else (or_else a b) c ≡ or_else a (or_else b c)
or_else-assoc (Some t) b c = refl
or_else-assoc None b c = refl

pub or_else-none : (a : Option (List ℕ)) → or_else a None ≡ a
or_else-none (Some t) = refl
or_else-none None = refl

-- a fact shown for each answer of a comparison holds
pub either : (n m : List ℕ) {P : Type 0} → (n ≡ m → bytes_eq n m ≡ true → P) → (bytes_eq n m ≡ false → P) → P
either n m {P} same other = by (bytes_eq n m) refl
  where
    by : (b : Bool) → bytes_eq n m ≡ b → P
    by true e = same ((bytes_decides n m).0 e) e
    by false e = other e

pub turned : (n m : List ℕ) (b : Bool) → bytes_eq n m ≡ b → bytes_eq m n ≡ b
turned n m b e = nat_list_eq_equiv.symm m n ∙ e

pub last-append : (n : List ℕ) (ps qs : Said) → last n (ps ++ qs) ≡ or_else (last n qs) (last n ps)
last-append n [] qs = sym (or_else-none (last n qs))
last-append n (p ∷ ps) qs = ap (λ o. or_else o (where_same n p.0 p.1)) (last-append n ps qs) ∙ or_else-assoc (last n qs) (last n ps) (where_same n p.0 p.1)

-- what is said of other names says nothing of this one
pub last-apart_same : (n : List ℕ) (ps : Said) → last n (apart n ps) ≡ None
last-apart_same n [] = refl
last-apart_same n (p ∷ ps) = either n p.0 (λ s e. rw e (last-apart_same n ps)) (λ e. rw (e, last-apart_same n ps, e) refl)

-- and all of the others
pub last-apart_other : (m n : List ℕ) (ps : Said) → bytes_eq m n ≡ false → last n (apart m ps) ≡ last n ps
last-apart_other m n [] h = refl
last-apart_other m n (p ∷ ps) h =
    either m p.0
    (λ s e. let f : bytes_eq n p.0 ≡ false = rw (← s) (turned m n false h) in rw (e, f) (last-apart_other m n ps h ∙ sym (or_else-none (last n ps))))
    (λ e. rw e (ap (λ o. or_else o (where_same n p.0 p.1)) (last-apart_other m n ps h)))

pub last-settled : (n : List ℕ) (ps : Said) → last n (settled ps) ≡ last n ps
last-settled n [] = refl
last-settled n (p ∷ ps) =
    either n p.0
    (λ s e. let none : last n (apart p.0 (settled ps)) ≡ None = ap (λ t. last n (apart t (settled ps))) (sym s) ∙ last-apart_same n (settled ps) in rw (none, e) (ap (λ t. or_else (last t ps) p.1) (sym s)))
    (λ e. rw (last-apart_other p.0 n (settled ps) (turned n p.0 false e), e) (ap (λ o. or_else o None) (last-settled n ps)))

apart-put_same : (m n : List ℕ) (v : Option (List ℕ)) (ps : Said) → bytes_eq m n ≡ true → apart m (put n v ps) ≡ apart m ps
apart-put_same m n v [] h = rw h refl
apart-put_same m n v (p ∷ ps) h =
    either n p.0
    (λ s e. let f : bytes_eq m p.0 ≡ true = rw (← s) h in rw (e, f) refl)
    (λ e. rw (e, apart-put_same m n v ps h) refl)

apart-put_other : (m n : List ℕ) (v : Option (List ℕ)) (ps : Said) → bytes_eq m n ≡ false → apart m (put n v ps) ≡ put n v (apart m ps)
apart-put_other m n v [] h = rw h refl
apart-put_other m n v (p ∷ ps) h =
    either n p.0
    (λ s e. let f : bytes_eq m p.0 ≡ false = rw (← s) h in rw (e, f, e) refl)
    (λ e. either m p.0 (λ s f. rw (e, f) (apart-put_other m n v ps h)) (λ f. rw (e, f, e) (ap (λ (qs : Said). p ∷ qs) (apart-put_other m n v ps h))))

-- one more pair is put to what is settled
pub settled-push : (n : List ℕ) (v : Option (List ℕ)) (ps : Said) → settled (ps ++ (n, v) ∷ []) ≡ put n v (settled ps)
settled-push n v [] = refl
settled-push n v (p ∷ ps) =
    let l : last p.0 (ps ++ (n, v) ∷ []) ≡ or_else (where_same p.0 n v) (last p.0 ps) = last-append p.0 ps ((n, v) ∷ []) in
    either n p.0
    (λ s e. rw (l, settled-push n v ps, e, turned n p.0 true e) (rw (or_else-assoc v (last p.0 ps) p.1, apart-put_same p.0 n v (settled ps) (turned n p.0 true e)) refl))
    (λ e. rw (l, settled-push n v ps, e, turned n p.0 false e) (rw (apart-put_other p.0 n v (settled ps) (turned n p.0 false e)) refl))

pub apart-twice : (n : List ℕ) (ps : Said) → apart n (apart n ps) ≡ apart n ps
apart-twice n [] = refl
apart-twice n (p ∷ ps) = either n p.0 (λ s e. rw e (apart-twice n ps)) (λ e. rw (e, e) (ap (λ (qs : Said). p ∷ qs) (apart-twice n ps)))

pub apart-turned : (n m : List ℕ) (ps : Said) → apart n (apart m ps) ≡ apart m (apart n ps)
apart-turned n m [] = refl
apart-turned n m (p ∷ ps) =
    either n p.0
    (λ s e. either m p.0 (λ t f. rw (e, f) (apart-turned n m ps)) (λ f. rw (e, f, e) (apart-turned n m ps)))
    (λ e. either m p.0 (λ t f. rw (e, f) (apart-turned n m ps)) (λ f. rw (e, f, e) (ap (λ (qs : Said). p ∷ qs) (apart-turned n m ps))))

settled-apart : (m : List ℕ) (ps : Said) → settled (apart m ps) ≡ apart m (settled ps)
settled-apart m [] = refl
settled-apart m (p ∷ ps) =
    either m p.0
    (λ s e. rw e (settled-apart m ps ∙ sym (apart-twice m (settled ps)) ∙ ap (λ t. apart m (apart t (settled ps))) s))
    (λ e. rw e (rw (last-apart_other m p.0 ps e, settled-apart m ps, apart-turned p.0 m (settled ps)) refl))

pub settled-settled : (ps : Said) → settled (settled ps) ≡ settled ps
settled-settled [] = refl
settled-settled (p ∷ ps) =
    rw (last-apart_same p.0 (settled ps), settled-apart p.0 (settled ps), settled-settled ps, apart-twice p.0 (settled ps)) refl

same_more : (ps qs rs : Said) → settled ps ≡ settled qs → settled (ps ++ rs) ≡ settled (qs ++ rs)
same_more ps qs [] h = rw (append-nil ps, append-nil qs) h
same_more ps qs (r ∷ rs) h =
    let more : settled (ps ++ r ∷ []) ≡ settled (qs ++ r ∷ []) = settled-push r.0 r.1 ps ∙ ap (put r.0 r.1) h ∙ sym (settled-push r.0 r.1 qs) in
    sym (ap settled (append_assoc ps (r ∷ []) rs)) ∙ same_more (ps ++ r ∷ []) (qs ++ r ∷ []) rs more ∙ ap settled (append_assoc qs (r ∷ []) rs)

-- what is settled may stand for what it was settled from
pub settled-append : (ps rs : Said) → settled (settled ps ++ rs) ≡ settled (ps ++ rs)
settled-append ps rs = same_more (settled ps) ps rs (settled-settled ps)

found-apart : (m n : List ℕ) (ps : Said) → bytes_eq m n ≡ false → found n (apart m ps) ≡ found n ps
found-apart m n [] h = refl
found-apart m n (p ∷ ps) h =
    either m p.0
    (λ s e. let f : bytes_eq n p.0 ≡ false = rw (← s) (turned m n false h) in rw (e, f) (found-apart m n ps h))
    (λ e. rw e (ap (λ o. if bytes_eq n p.0 then Some p.1 else o) (found-apart m n ps h)))

-- the value of a name's one pair is the last that it is given
found-settled : (n : List ℕ) (ps : Said) → flat (found n (settled ps)) ≡ last n ps
found-settled n [] = refl
found-settled n (p ∷ ps) =
    either n p.0
    (λ s e. rw e (ap (λ t. or_else (last t ps) p.1) (sym s)))
    (λ e. rw (e, found-apart p.0 n (settled ps) (turned n p.0 false e)) (found-settled n ps ∙ sym (or_else-none (last n ps))))

pub found-last : (n : List ℕ) (ps : Said) → settled ps ≡ ps → last n ps ≡ flat (found n ps)
found-last n ps h = sym (found-settled n ps) ∙ ap (λ (qs : Said). flat (found n qs)) h

-- a value that is there, and one for a name that wasn't, are put whatever is there
pub put-none_found : (n : List ℕ) (ps : Said) (o : Option (List ℕ)) → found n ps ≡ Some o → put n None ps ≡ ps
put-none_found n [] o h = cc
put-none_found n (p ∷ ps) o h =
    either n p.0
    (λ s e. rw e refl)
    (λ e. rw e (ap (λ (qs : Said). p ∷ qs) (put-none_found n ps o (rw e at h))))
