-- Addresses and their places.
use Rattle.std.specs.Prelude.{◌≡◌, ℕ, zero, suc, ◌+◌, ◌⊎◌, Bool, true, false, cond, Option, Some, None, List, [], ◌∷◌, ◌++◌, is_some, length, slice_get, bytes_eq}
use Rattle.std.proofs.Common.{sym, ap, refl, ◌∙◌, subst, true≢false, inl, inr, arith}
use Rattle.std.specs.Option.{option_map, unwrap_or}
use Rattle.std.specs.Map.{lookup}
use Rattle.std.specs.BTreeMap.{is_at}
use Rattle.std.specs.Cmp.Lexicographic.{texts_ties}
use Rattle.paths.specs.Order.{name_cmp}
use Rattle.paths.proofs.FrontLaws.{name_same, name_itself}
use Rattle.addresses.specs.Address.{vertex_address, addresses_after, place_of, clash_after, AreOnce}
use Rattle.llb.specs.declared.vertex.Vertex.{Vertex}
use Rattle.addresses.specs.PrivateAddresses.{ArePlaces}

pub same_bytes : (a b : List ℕ) → bytes_eq a b ≡ true → a ≡ b
same_bytes a b e = name_same a b (sym (texts_ties a b) ∙ e)

pub bytes_itself : (a : List ℕ) → bytes_eq a a ≡ true
bytes_itself a = texts_ties a a ∙ name_itself a

none_some : {A : Type 0} (x : A) → None ≡ Some x → ⊥
none_some x e = true≢false (sym (ap is_some e))

some_same : {A : Type 0} (x y : A) → Some x ≡ Some y → x ≡ y
some_same x y e = ap (λ o. unwrap_or o x) e

-- what an address that isn't there says of the first one
not_first : (k a : List ℕ) (ks : List (List ℕ)) (b : Bool) → bytes_eq k a ≡ b → cond b (Some 0) (option_map (λ place. place + 1) (place_of ks a)) ≡ None → (b ≡ false) × (place_of ks a ≡ None)
not_first k a ks true t none = absurd (none_some 0 (sym none))
not_first k a ks false t none = (refl, unmapped (place_of ks a) none)
  where
    unmapped : (o : Option ℕ) → option_map (λ place. place + 1) o ≡ None → o ≡ None
    unmapped None e = refl
    unmapped (Some n) e = absurd (none_some (n + 1) (sym e))

-- the places after one more address, which wasn't there
pub place_of-push : (known : List (List ℕ)) (a b : List ℕ) → place_of known a ≡ None → place_of (known ++ a ∷ []) b ≡ cond (bytes_eq a b) (Some (length known)) (place_of known b)
place_of-push [] a b fresh = refl
place_of-push (k ∷ ks) a b fresh =
    let parts = not_first k a ks (bytes_eq k a) refl fresh in
    (λ i. cond (bytes_eq k b) (Some 0) (option_map (λ place. place + 1) (place_of-push ks a b parts.1 i)))
    ∙ by (bytes_eq a b) (bytes_eq k b) (length ks) (place_of ks b) (λ t u. true≢false (sym (subst (λ (x : List ℕ). bytes_eq k x ≡ true) (sym (same_bytes a b t)) u) ∙ parts.0))
  where
    by : (t u : Bool) (n : ℕ) (o : Option ℕ) → (t ≡ true → u ≡ true → ⊥) → cond u (Some 0) (option_map (λ place. place + 1) (cond t (Some n) o)) ≡ cond t (Some (suc n)) (cond u (Some 0) (option_map (λ place. place + 1) o))
    by true true n o apart = absurd (apart refl refl)
    by true false n o apart = let e : n + 1 ≡ suc n = omega arith in ap Some e
    by false u n o apart = refl

-- what stands in a list with one more
pub get-push : {A : Type 0} (xs : List A) (x y : A) (k : ℕ) → slice_get (xs ++ x ∷ []) k ≡ Some y → (slice_get xs k ≡ Some y) ⊎ ((k ≡ length xs) × (x ≡ y))
get-push [] x y zero e = inr (refl, some_same x y e)
get-push [] x y (suc k) e = absurd (none_some y e)
get-push (z ∷ zs) x y zero e = inl e
get-push (z ∷ zs) x y (suc k) e = up (get-push zs x y k e)
  where
    up : (slice_get zs k ≡ Some y) ⊎ ((k ≡ length zs) × (x ≡ y)) → (slice_get zs k ≡ Some y) ⊎ ((suc k ≡ suc (length zs)) × (x ≡ y))
    up (inl h) = inl h
    up (inr (h, g)) = inr (ap suc h, g)

-- addresses stay once where a new one comes
pub once-push : (known : List (List ℕ)) (a : List ℕ) → AreOnce known → place_of known a ≡ None → AreOnce (known ++ a ∷ [])
once-push known a once fresh = record { at = λ place address e. at place address (get-push known a address place e) }
  where
    at : (place : ℕ) (address : List ℕ) → (slice_get known place ≡ Some address) ⊎ ((place ≡ length known) × (a ≡ address)) → place_of (known ++ a ∷ []) address ≡ Some place
    at place address (inl h) =
        let there : place_of known address ≡ Some place = once.at place address h in
        place_of-push known a address fresh ∙ by (bytes_eq a address) refl there
      where
        by : (t : Bool) → bytes_eq a address ≡ t → place_of known address ≡ Some place → cond t (Some (length known)) (place_of known address) ≡ Some place
        by true t there = absurd (none_some place (sym fresh ∙ ap (place_of known) (same_bytes a address t) ∙ there))
        by false t there = there
    at place address (inr (h, g)) =
        place_of-push known a address fresh
        ∙ (λ i. cond ((ap (bytes_eq a) (sym g) ∙ bytes_itself a) i) (Some (length known)) (place_of known address))
        ∙ ap Some (sym h)

-- and so does their index
pub places-push : (known : List (List ℕ)) (a key : List ℕ) (places new : List (List ℕ × ℕ)) (place : ℕ) → ArePlaces known places → place_of known a ≡ None → key ≡ a → place ≡ length known
    → ((q : List ℕ) → lookup (is_at (name_cmp q)) new ≡ cond (is_at (name_cmp key) q) (Some place) (lookup (is_at (name_cmp q)) places)) → ArePlaces (known ++ a ∷ []) new
places-push known a key places new place are fresh same here at = record {
  at = λ q. at q
      ∙ (λ i. cond (is_at (name_cmp (same i)) q) (Some (here i)) (are.at q i))
      ∙ (λ i. cond (sym (texts_ties a q) i) (Some (length known)) (place_of known q))
      ∙ sym (place_of-push known a q fresh);
}

pub no_places : ArePlaces [] []
no_places = record { at = λ q. refl }

pub none_once : AreOnce []
none_once = record { at = λ place address e. absurd (nowhere place address e) }
  where
    nowhere : (place : ℕ) (address : List ℕ) → slice_get {X = List ℕ} [] place ≡ Some address → ⊥
    nowhere zero address e = none_some address e
    nowhere (suc n) address e = none_some address e

pub no_clash : (o : Option ℕ) (n : ℕ) (rest : Option ℕ) → cond (is_some o) (Some n) rest ≡ None → (o ≡ None) × (rest ≡ None)
no_clash None n rest e = (refl, e)
no_clash (Some k) n rest e = absurd (true≢false (ap is_some e))

-- where no two addresses clash, each is there once
pub once-after : (known : List (List ℕ)) (vs : List Vertex) → AreOnce known → clash_after known vs ≡ None → AreOnce (addresses_after known vs)
once-after known [] once none = once
once-after known (v ∷ vs) once none =
    let parts = no_clash (place_of known (vertex_address known v)) (length known) (clash_after (known ++ vertex_address known v ∷ []) vs) none in
    once-after (known ++ vertex_address known v ∷ []) vs (once-push known (vertex_address known v) once parts.0) parts.1
