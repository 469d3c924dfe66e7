-- The keys of an object whose values are forgotten: each value is read as the same.
use Rattle.std.specs.Prelude.{◌≡◌, ℕ, List, ◌∷◌, map, Option, Some, None, option_and_then, option_map, refl}
use Rattle.std.proofs.Common.{sym, ap, ◌∙◌}
use Rattle.plain.specs.declared.fault.Fault.{Fault}
use Rattle.plain.specs.declared.fault.Fault.TheVariants.{Because, Memory}
use Rattle.serde_json.specs.Data.{Data, Members, no_members, member}
use Rattle.serde_json.specs.Find.{as_object}
use Rattle.strict.specs.Gives.{TellsFault}
use Rattle.strict.specs.declared.fault.NotRead.{NotRead}
use Rattle.strict.specs.Strict.{with_first, members_in, rows_in}
use Rattle.imageconfig.specs.Reading.{member_keys, keys_in}

some_is : {X : Type 0} (x y : X) → Some x ≡ Some y → x ≡ y
some_is x y e = cc

module _ {A : Type 0} (x : A) where
  abbrev keys_of : List (List ℕ × A) → List (List ℕ)
  keys_of rows = map (λ row. row.0) rows

  one_more : (key : List ℕ) (keys : List (List ℕ)) (read : Option (List (List ℕ × A))) → option_map keys_of read ≡ Some keys
      → option_map keys_of (with_first (Some (key, x)) read) ≡ Some (key ∷ keys)
  one_more key keys None e = absurd cc
  one_more key keys (Some rows) e = ap (λ ks. Some (key ∷ ks)) (some_is (keys_of rows) keys e)

  all_keys : (members : Members) → option_map keys_of (members_in (λ d. Some x) members) ≡ Some (member_keys members)
  all_keys no_members = refl
  all_keys (member key d members) = one_more key (member_keys members) (members_in (λ d. Some x) members) (all_keys members)

  keys_of_rows : (d : Data) → keys_in d ≡ option_map keys_of (rows_in (λ d. Some x) d)
  unfolding rows_in
  keys_of_rows d = go (as_object d)
    where
      go : (o : Option Members) → option_map member_keys o ≡ option_map keys_of (option_and_then (members_in (λ d. Some x)) o)
      go None = refl
      go (Some members) = sym (all_keys members)

  pub tells_keys : (d : Data) (e : Fault NotRead) → TellsFault e (rows_in (λ d. Some x) d) → TellsFault e (keys_in d)
  tells_keys d (Because fault) none = keys_of_rows d ∙ ap (option_map keys_of) none
  tells_keys d Memory none = tt

  pub gives_keys : (d : Data) (rows : List (List ℕ × A)) (keys : List (List ℕ)) → rows_in (λ d. Some x) d ≡ Some rows → keys ≡ map (λ row. row.0) rows → keys_in d ≡ Some keys
  gives_keys d rows keys read e = keys_of_rows d ∙ (ap (option_map keys_of) read ∙ ap (λ ks. Some ks) (sym e))
