-- What the map of build arguments gives names.
use Rattle.std.proofs.Common.{◌≡◌, ℕ, Bool, true, false, cond, List, [], ◌∷◌, Option, Some, Result, Ok, Err, OnOk, refl, ap, ap₂, sym, ◌∙◌}
use Rattle.std.specs.Cmp.Lexicographic.{slice_cmp, nat_list_cmp_total}
use Rattle.std.specs.FinMap.{get, insert, find, from_entries, get-insert, get-from_entries, same_map, slice_cmp-IsAntisymmetric, nat_cmp-IsAntisymmetric}
use Rattle.std.specs.Map.{lookup}
use Rattle.std.specs.Ordering.{nat_cmp}
use Rattle.std.specs.Str.{bytes_eq}
use Rattle.std.proofs.lemmas.Map.Text.{is_eq-slice_cmp}
use Rattle.plain.specs.declared.memory.Memory.{Memory}
use Rattle.named.specs.Rows.{put_row}
use Rattle.scopes.specs.Args.{BuildArguments}
use Rattle.scopes.proofs.SaidLemmas.{either, turned}

taken_first : (b : Bool) (x y z : Option (List ℕ)) → cond b x z ≡ cond b x (cond b y z)
taken_first true x y z = refl
taken_first false x y z = refl

abbrev pub args_of : List (List ℕ × List ℕ) → BuildArguments
args_of es = from_entries es

find-args_of : (n : List ℕ) (es : List (List ℕ × List ℕ)) → find (slice_cmp nat_cmp) n es ≡ lookup (bytes_eq n) es
find-args_of n [] = refl
find-args_of n (e ∷ es) = rw (is_eq-slice_cmp n e.0, find-args_of n es) refl

pub get-args_of : (n : List ℕ) (es : List (List ℕ × List ℕ)) → get (args_of es) n ≡ lookup (bytes_eq n) es
get-args_of n es = get-from_entries nat_list_cmp_total es n ∙ find-args_of n es

lookup-insert : (n : List ℕ) (es : List (List ℕ × List ℕ)) (k : List ℕ) (v : List ℕ)
    → lookup (bytes_eq n) (put_row es k v) ≡ cond (bytes_eq n k) (Some v) (lookup (bytes_eq n) es)
lookup-insert n [] k v = refl
lookup-insert n (e ∷ es) k v =
    either k e.0
    (λ s h. rw h (taken_first (bytes_eq n e.0) (Some v) (Some e.1) (lookup (bytes_eq n) es)
    ∙ ap (λ t. cond (bytes_eq n t) (Some v) (cond (bytes_eq n e.0) (Some e.1) (lookup (bytes_eq n) es))) (sym s)))
    (λ h. rw h (either n e.0
    (λ s i. let f : bytes_eq n k ≡ false = ap (λ t. bytes_eq t k) s ∙ turned k e.0 false h in rw (i, f) refl)
    (λ i. rw i (lookup-insert n es k v))))

pub args_of-insert : (es fs : List (List ℕ × List ℕ)) (k : List ℕ) (n v : List ℕ) → k ≡ n → fs ≡ put_row es k v → args_of fs ≡ insert (args_of es) n v
args_of-insert es fs k n v h i =
    ap args_of i
    ∙ same_map nat_list_cmp_total (slice_cmp-IsAntisymmetric nat_cmp-IsAntisymmetric) (args_of (put_row es k v)) (insert (args_of es) k v)
    (λ q. get-args_of q (put_row es k v) ∙ lookup-insert q es k v
    ∙ sym (get-insert nat_list_cmp_total (args_of es) k v q ∙ ap (λ b. cond b (Some v) (get (args_of es) q)) (is_eq-slice_cmp q k)
    ∙ ap (cond (bytes_eq q k) (Some v)) (get-args_of q es)))
    ∙ ap (λ t. insert (args_of es) t v) h

-- a row that was set, or wasn't
pub args-set : (result : Result (Unit {0}) Memory) (es fs : List (List ℕ × List ℕ)) (k v n w : List ℕ) (m : BuildArguments) → OnOk result (fs ≡ put_row es k v) → k ≡ n → v ≡ w → args_of es ≡ m → OnOk result (args_of fs ≡ insert m n w)
args-set (Ok done) es fs k v n w m ok i j view = args_of-insert es fs k n v i ok ∙ ap₂ (λ (o : BuildArguments) (x : List ℕ). insert o n x) view j
args-set (Err memory) es fs k v n w m ok i j view = tt
