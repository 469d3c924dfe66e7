-- Members that are put one after another, and what stands at their keys then.
use Rattle.std.proofs.Common.{◌≡◌, ℕ, Bool, true, false, ◌&&◌, List, Option, Some, option_map, bytes_eq, ap, ap₂, sym, ◌∙◌}
use Rattle.json.specs.declared.value.Value.{Value}
use Rattle.serde_json.proofs.Views.{get_member-put}
use Rattle.serde_json.specs.Data.{Data, Members, put}
use Rattle.serde_json.specs.Find.{get_member}
use Rattle.strict.specs.Strict.{has_only, at_most_one}
use Rattle.borrowed.proofs.LookFacts.{get-put_at, has_only-put}
use Rattle.borrowed.specs.Lent.{owned_data}
use Rattle.borrowed.specs.Seen.{data_of}

-- at the key itself stands what was put there
pub put_here : {A : Type 0} → (k : List ℕ) (o : Option (Value A)) (v : Value A) (found : Members) → o ≡ Some v → owned_data o ≡ get_member k (put k (data_of v) found)
put_here k o v found e = ap owned_data e ∙ sym (get_member-put k (data_of v) found)

-- and at another one what stood there
pub put_there : {A : Type 0} → (k l : List ℕ) (o : Option (Value A)) (d : Data) (found : Members) → bytes_eq l k ≡ false → owned_data o ≡ get_member k found → owned_data o ≡ get_member k (put l d found)
put_there k l o d found apart h = h ∙ sym (get-put_at false k l d found apart)

-- the same of what is read of the values
pub read_here : {A : Type 0} → (one : Data → Option A) (k : List ℕ) (o : Option A) (x : A) (d : Data) (found : Members) → o ≡ Some x → one d ≡ Some x → at_most_one one (get_member k (put k d found)) ≡ Some o
read_here one k o x d found e read = ap (at_most_one one) (get_member-put k d found) ∙ ap (option_map Some) read ∙ ap Some (sym e)

pub read_there : {A : Type 0} → (one : Data → Option A) (k l : List ℕ) (o : Option A) (d : Data) (found : Members) → bytes_eq l k ≡ false → at_most_one one (get_member k found) ≡ Some o
    → at_most_one one (get_member k (put l d found)) ≡ Some o
read_there one k l o d found apart h = ap (at_most_one one) (get-put_at false k l d found apart) ∙ h

pub still_known : (test : List ℕ → Bool) (l : List ℕ) (d : Data) (found : Members) → test l ≡ true → has_only test found ≡ true → has_only test (put l d found) ≡ true
still_known test l d found a b = has_only-put test l d found ∙ ap₂ (λ x y. x && y) a b
