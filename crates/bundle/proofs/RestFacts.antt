-- What was made of the rows behind those that are left.
use Rattle.std.specs.Prelude.{◌≡◌, List, [], ◌∷◌, ◌++◌}
use Rattle.std.proofs.Common.{sym, ap, ◌∙◌, append_assoc, append-nil}

-- a value is what `made` makes of the rows behind the first ones
pub record IsRest {A B : Type 0} (made : List A → B) (whole front : List A) (value : B) : Type 0 where
  pub back : List A
  pub whole_is : whole ≡ front ++ back
  pub value_is : value ≡ made back

pub rest-start : {A B : Type 0} (made : List A → B) (whole left : List A) (value : B) → left ≡ whole → value ≡ made [] → IsRest made whole left value
rest-start made whole left value e f = record { back = []; whole_is = sym e ∙ sym (append-nil left); value_is = f }

pub rest-more : {A B : Type 0} (made : List A → B) (whole old new : List A) (row : A) (value next : B) → old ≡ new ++ row ∷ [] → (rest : IsRest made whole old value) → next ≡ made (row ∷ rest.back) → IsRest made whole new next
rest-more made whole old new row value next is rest e = record { back = row ∷ rest.back; whole_is = rest.whole_is ∙ ap (λ rows. rows ++ rest.back) is ∙ append_assoc new (row ∷ []) rest.back; value_is = e }

pub rest-end : {A B : Type 0} (made : List A → B) (whole left : List A) (value : B) → left ≡ [] → IsRest made whole left value → value ≡ made whole
rest-end made whole left value e rest = rest.value_is ∙ ap made (sym (rest.whole_is ∙ ap (λ rows. rows ++ rest.back) e))
