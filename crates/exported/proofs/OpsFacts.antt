-- Operations, found by their numbers.
use Rattle.std.specs.Prelude.{◌≡◌, ℕ, zero, suc, Bool, true, false, cond, Option, Some, None, List, [], ◌∷◌, ◌++◌, is_some, length, slice_get, slice_index_or, bytes_eq, ◌<◌, ◌≤◌}
use Rattle.std.proofs.Common.{sym, ap, refl, ◌∙◌, subst, true≢false, arith}
use Rattle.std.specs.Option.{option_map, option_and_then}
use Rattle.std.proofs.lemmas.Option.{slice_get-get_or}
use Rattle.std.specs.Map.{lookup}
use Rattle.std.specs.BTreeMap.{is_at}
use Rattle.std.specs.Cmp.Lexicographic.{texts_ties}
use Rattle.paths.specs.Order.{name_cmp}
use Rattle.paths.proofs.FrontLaws.{name_same}
use Rattle.exported.specs.Places.{digest_of}
use Rattle.exported.specs.Exporting.{op_at}
use Rattle.exported.specs.PrivateExporting.{number_at, AreNumbered}

same_bytes : (a b : List ℕ) → bytes_eq a b ≡ true → a ≡ b
same_bytes a b e = name_same a b (sym (texts_ties a b) ∙ e)

-- the operation of a digest is that of its number
pub op_numbered : (ops : List (List ℕ)) (digest : List ℕ) → op_at ops digest ≡ option_and_then (slice_get ops) (number_at ops digest)
op_numbered [] digest = refl
op_numbered (bytes ∷ ops) digest =
    ap (cond (bytes_eq (digest_of bytes) digest) (Some bytes)) (op_numbered ops digest) ∙ deeper (bytes_eq (digest_of bytes) digest) (number_at ops digest)
  where
    deeper : (b : Bool) (n : Option ℕ) → cond b (Some bytes) (option_and_then (slice_get ops) n) ≡ option_and_then (slice_get (bytes ∷ ops)) (cond b (Some 0) (option_map suc n))
    deeper true n = refl
    deeper false None = refl
    deeper false (Some n) = refl

-- where a number is found, it is that of the operation
pub op_of : (ops : List (List ℕ)) (digest : List ℕ) (number : ℕ) → number_at ops digest ≡ Some number → op_at ops digest ≡ slice_get ops number
op_of ops digest number is = op_numbered ops digest ∙ ap (option_and_then (slice_get ops)) is

none_past : (ops : List (List ℕ)) (number : ℕ) → length ops ≤ number → slice_get ops number ≡ None
none_past [] number past = refl
none_past (bytes ∷ ops) zero past = absurd (omega arith)
none_past (bytes ∷ ops) (suc number) past = none_past ops number (omega arith)

-- what is found at a number, or isn't, by what looking there tells
pub op_none : (ops slice : List (List ℕ)) (digest : List ℕ) (number : ℕ) → slice ≡ ops → number_at ops digest ≡ Some number → length slice ≤ number → op_at ops digest ≡ None
op_none ops slice digest number same is past = op_of ops digest number is ∙ (ap (λ xs. slice_get xs number) (sym same) ∙ none_past slice number past)

pub op_some : (ops slice : List (List ℕ)) (digest other : List ℕ) (number : ℕ) → slice ≡ ops → number_at ops digest ≡ Some number → number < length slice → other ≡ slice_index_or slice number []
    → op_at ops digest ≡ Some other
op_some ops slice digest other number same is inside there =
    op_of ops digest number is ∙ (ap (λ xs. slice_get xs number) (sym same) ∙ (slice_get-get_or slice number [] inside ∙ ap Some (sym there)))

none_some : {A : Type 0} (x : A) → None ≡ Some x → ⊥
none_some x e = true≢false (sym (ap is_some e))

-- where no operation has a digest, the first one hasn't
not_first : (b : Bool) (bytes : List ℕ) (o : Option (List ℕ)) → cond b (Some bytes) o ≡ None → (b ≡ false) × (o ≡ None)
not_first true bytes o e = absurd (none_some bytes (sym e))
not_first false bytes o e = (refl, e)

-- the numbers after one more operation, whose digest none had
pub number_more : (ops : List (List ℕ)) (bytes digest : List ℕ) → op_at ops (digest_of bytes) ≡ None
    → number_at (ops ++ bytes ∷ []) digest ≡ cond (bytes_eq (digest_of bytes) digest) (Some (length ops)) (number_at ops digest)
number_more [] bytes digest fresh = refl
number_more (op ∷ ops) bytes digest fresh =
    let parts = not_first (bytes_eq (digest_of op) (digest_of bytes)) op (op_at ops (digest_of bytes)) fresh in
    ap (λ n. cond (bytes_eq (digest_of op) digest) (Some 0) (option_map suc n)) (number_more ops bytes digest parts.1)
    ∙ by (bytes_eq (digest_of bytes) digest) (bytes_eq (digest_of op) digest) (length ops) (number_at ops digest)
    (λ t u. true≢false (sym (subst (λ (x : List ℕ). bytes_eq (digest_of op) x ≡ true) (sym (same_bytes (digest_of bytes) digest t)) u) ∙ parts.0))
  where
    by : (t u : Bool) (n : ℕ) (o : Option ℕ) → (t ≡ true → u ≡ true → ⊥) → cond u (Some 0) (option_map suc (cond t (Some n) o)) ≡ cond t (Some (suc n)) (cond u (Some 0) (option_map suc o))
    by true true n o apart = absurd (apart refl refl)
    by true false n o apart = refl
    by false u n o apart = refl

-- an index stays one when an operation is added whose digest none had
pub numbers_more : (ops : List (List ℕ)) (bytes key : List ℕ) (numbers new : List (List ℕ × ℕ)) (number : ℕ) → AreNumbered ops numbers → op_at ops (digest_of bytes) ≡ None
    → key ≡ digest_of bytes → number ≡ length ops
    → ((q : List ℕ) → lookup (is_at (name_cmp q)) new ≡ cond (is_at (name_cmp key) q) (Some number) (lookup (is_at (name_cmp q)) numbers)) → AreNumbered (ops ++ bytes ∷ []) new
numbers_more ops bytes key numbers new number are fresh same here at = record {
  at = λ q. at q
      ∙ (λ i. cond (is_at (name_cmp (same i)) q) (Some (here i)) (are.at q i))
      ∙ (λ i. cond (sym (texts_ties (digest_of bytes) q) i) (Some (length ops)) (number_at ops q))
      ∙ sym (number_more ops bytes q fresh);
}

pub no_numbers : AreNumbered [] []
no_numbers = record { at = λ q. refl }
