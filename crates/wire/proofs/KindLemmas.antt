-- Fields by the type of what they hold: what is written of them.
use Rattle.std.proofs.Common.{◌≡◌, ◌==◌, ℕ, ◌+◌, ◌<◌, true, false, List, [], ◌∷◌, ◌++◌, length, take, get_or, arith, refl, sym, ap, ◌∙◌, append_assoc, add-one}
use Rattle.std.proofs.lemmas.Bool.Decides.{nat_tests}
use Rattle.std.proofs.lemmas.List.{append-nil, map-append}
use Rattle.std.proofs.Math.Seq.{take-suc}
use Rattle.wire.specs.Fields.{Field, number, block}
use Rattle.wire.specs.Kinds.{number_field, bytes_field, texts_field, message_field, messages_field}

pub appended_none : (fields : List Field) → fields ≡ fields ++ []
appended_none fields = sym (append-nil fields)

pub number_none : (fields : List Field) (key value : ℕ) → value ≡ 0 → fields ≡ fields ++ number_field key value
unfolding number_field
number_none fields key value none = grind (arith, nat_tests, append-nil fields)

pub number_some : (key value : ℕ) → (value ≡ 0 → ⊥) → number key value ∷ [] ≡ number_field key value
unfolding number_field
number_some key value some = grind (arith, nat_tests)

pub bytes_none : (fields : List Field) (key : ℕ) (bytes : List ℕ) → (length bytes == 0) ≡ true → fields ≡ fields ++ bytes_field key bytes
unfolding bytes_field
bytes_none fields key [] none = sym (append-nil fields)
bytes_none fields key (byte ∷ bytes) none = absurd (let h : length (byte ∷ bytes) ≡ 0 = grind (arith, nat_tests) in omega (arith, h))

pub bytes_some : (key : ℕ) (bytes : List ℕ) → (length bytes == 0) ≡ false → block key bytes ∷ [] ≡ bytes_field key bytes
unfolding bytes_field
bytes_some key [] some = grind (arith, nat_tests)
bytes_some key (byte ∷ bytes) some = refl

texts-append : (key : ℕ) (these those : List (List ℕ)) → texts_field key (these ++ those) ≡ texts_field key these ++ texts_field key those
unfolding texts_field
texts-append key these those = map-append (block key) these those

texts-one : (key : ℕ) (text : List ℕ) → texts_field key (text ∷ []) ≡ block key text ∷ []
unfolding texts_field
texts-one key text = refl

-- one text more
pub texts_more : (before message new : List Field) (key i : ℕ) (texts : List (List ℕ)) (text : List ℕ)
    → message ≡ before ++ texts_field key (take i texts) → new ≡ message ++ block key text ∷ [] → i < length texts → text ≡ get_or texts i text
    → new ≡ before ++ texts_field key (take (i + 1) texts)
texts_more before message new key i texts text so_far more within is =
    let taken : take (i + 1) texts ≡ take i texts ++ text ∷ [] =
    ap (λ n. take n texts) (add-one i) ∙ (take-suc texts i text within ∙ ap (λ t. take i texts ++ t ∷ []) (sym is)) in
    more ∙ (ap (λ fields. fields ++ block key text ∷ []) so_far
    ∙ (append_assoc before (texts_field key (take i texts)) (block key text ∷ [])
    ∙ ap (λ fields. before ++ fields)
    (ap (λ fields. texts_field key (take i texts) ++ fields) (sym (texts-one key text))
    ∙ (sym (texts-append key (take i texts) (text ∷ [])) ∙ ap (texts_field key) (sym taken)))))

module _ {A : Type 0} (fields_of : A → List Field) where
  messages-append : (key : ℕ) (these those : List A)
      → messages_field fields_of key (these ++ those) ≡ messages_field fields_of key these ++ messages_field fields_of key those
  unfolding messages_field
  messages-append key [] those = refl
  messages-append key (this ∷ these) those =
      ap (λ fields. message_field key (fields_of this) ++ fields) (messages-append key these those)
      ∙ sym (append_assoc (message_field key (fields_of this)) (messages_field fields_of key these) (messages_field fields_of key those))

  messages-one : (key : ℕ) (value : A) → messages_field fields_of key (value ∷ []) ≡ message_field key (fields_of value)
  unfolding messages_field
  messages-one key value = append-nil (message_field key (fields_of value))

  -- one message more
  pub messages_more : (before message new : List Field) (key i : ℕ) (values : List A) (value : A)
      → message ≡ before ++ messages_field fields_of key (take i values) → new ≡ message ++ message_field key (fields_of value)
      → i < length values → value ≡ get_or values i value → new ≡ before ++ messages_field fields_of key (take (i + 1) values)
  messages_more before message new key i values value so_far more within is =
      let taken : take (i + 1) values ≡ take i values ++ value ∷ [] =
      ap (λ n. take n values) (add-one i) ∙ (take-suc values i value within ∙ ap (λ v. take i values ++ v ∷ []) (sym is)) in
      more ∙ (ap (λ fields. fields ++ message_field key (fields_of value)) so_far
      ∙ (append_assoc before (messages_field fields_of key (take i values)) (message_field key (fields_of value))
      ∙ ap (λ fields. before ++ fields)
      (ap (λ fields. messages_field fields_of key (take i values) ++ fields) (sym (messages-one key value))
      ∙ (sym (messages-append key (take i values) (value ∷ [])) ∙ ap (messages_field fields_of key) (sym taken)))))
