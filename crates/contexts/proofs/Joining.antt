-- The flags of runs of rows, joined, are the flags of all rows.
use Rattle.std.proofs.Common.{◌≡◌, ◌∙◌, ◌+◌, ◌<◌, ◌≤◌, ◌↔◌, ℕ, Bool, List, Vec, Global, Result, IfOk, [], ◌∷◌, ◌++◌, IsTrue, sym, ap, subst, arith, length, take, get_or, flat_map, zero, suc, append_assoc}
use Rattle.std.proofs.lemmas.List.{append-nil, take_more, take_all}
use Rattle.std.specs.List.{AllZip}
use Rattle.ignorefile.specs.declared.line.Line.{Line}
use Rattle.ignorefile.specs.Kept.{Kept}
use Rattle.plain.specs.declared.memory.Memory.{Memory}
use Rattle.trees.specs.Row.{Row}

abbrev pub Flags : List Line → List Row → List Bool → Type 0
Flags lines rows flags = AllZip (λ row flag. IsTrue flag ↔ Kept lines row.0) rows flags

-- the rows of these runs have these flags
abbrev pub Joined : List Line → List (List Row) → List Bool → Type 0
Joined lines runs flags = Flags lines (flat_map (λ run. run) runs) flags

zip-append : {A B : Type 0} (R : A → B → Type 0) (xs zs : List A) (ys ws : List B) → AllZip R xs ys → AllZip R zs ws → AllZip R (xs ++ zs) (ys ++ ws)
zip-append R [] zs [] ws first rest = rest
zip-append R [] zs (y ∷ ys) ws first rest = absurd first
zip-append R (x ∷ xs) zs [] ws first rest = absurd first
zip-append R (x ∷ xs) zs (y ∷ ys) ws first rest = (first.0, zip-append R xs zs ys ws first.1 rest)

joined-snoc : (runs : List (List Row)) (run : List Row) → flat_map (λ r. r) (runs ++ run ∷ []) ≡ flat_map (λ r. r) runs ++ run
joined-snoc [] run = append-nil run
joined-snoc (first ∷ runs) run = ap (λ l. first ++ l) (joined-snoc runs run) ∙ sym (append_assoc first (flat_map (λ r. r) runs) run)

-- what holds of two lists place by place, at one place
pub zip-get : {A B : Type 0} (R : A → B → Type 0) (xs : List A) (ys : List B) (i : ℕ) (d : A) (y : B) → AllZip R xs ys → i < length ys → y ≡ get_or ys i y → (i < length xs) × R (get_or xs i d) y
zip-get R [] [] i d y all less is = absurd (omega arith)
zip-get R [] (b ∷ bs) i d y all less is = absurd all
zip-get R (a ∷ rest) [] i d y all less is = absurd all
zip-get R (a ∷ rest) (b ∷ bs) zero d y all less is = (omega arith, subst (R a) (sym is) all.0)
zip-get R (a ∷ rest) (b ∷ bs) (suc i) d y all less is = let w = zip-get R rest bs i d y all.1 (omega arith) is in (let l = w.0 in omega arith, w.1)

pub joined-more : (lines : List Line) (runs : List (List Row)) (i : ℕ) (flags new found : List Bool) → i < length runs → Joined lines (take i runs) flags → Flags lines (get_or runs i []) found → new ≡ flags ++ found → Joined lines (take (i + 1) runs) new
joined-more lines runs i flags new found less old more is =
    subst (λ (l : List Bool). Joined lines (take (i + 1) runs) l) (sym is)
    (subst (λ (l : List Row). Flags lines l (flags ++ found)) (sym (ap (λ rs. flat_map (λ r. r) rs) (take_more runs i [] less) ∙ joined-snoc (take i runs) (get_or runs i [])))
    (zip-append (λ row flag. IsTrue flag ↔ Kept lines row.0) (flat_map (λ r. r) (take i runs)) (get_or runs i []) flags found old more))

pub joined-whole : (lines : List Line) (rows : List Row) (runs : List (List Row)) (flags : List Bool) (n : ℕ) → length runs ≤ n → flat_map (λ r. r) runs ≡ rows → Joined lines (take n runs) flags → Flags lines rows flags
joined-whole lines rows runs flags n all whole joined = subst (λ (l : List Row). Flags lines l flags) (ap (λ rs. flat_map (λ r. r) rs) (take_all n runs all) ∙ whole) joined

-- a run of rows has the flags that were found for it, if there was memory
abbrev pub RunHas : List Line → List Row → Result (Vec Bool Global) Memory → Type 0
RunHas lines run found = IfOk found (λ flags. Flags lines run flags.items)
