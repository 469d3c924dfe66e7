-- Nothing is found wrong in a value exactly if the value is read: kind by kind, from what is said of the parts.
use Rattle.std.proofs.Common.{◌≡◌, ℕ, ◌+◌, List, [], ◌∷◌, Bool, true, false, ◌&&◌, cond, Option, Some, None, option_map, option_and_then, is_some, bytes_eq, refl, ap, sym, ◌∙◌}
use Rattle.std.specs.List.{list_any}
use Rattle.serde_json.specs.Data.{Data, Items, no_items, item, Members, no_members, member}
use Rattle.serde_json.specs.Find.{as_array, as_object}
use Rattle.strict.specs.Strict.{has_only, strict, at_most_one, with_first, all_in, list_in, members_in, rows_in}
use Rattle.bundle.specs.Parts.{or_none}
use Rattle.flaws.specs.Looks.{Way, Looks, read_as, below, or_else, optional_in, required_in, keys_of, first_key, keys_in, is_among, no_other, among_items, items_in, items, among_members, members_in as found_in, rows}
use Rattle.flaws.specs.declared.flaw.Step.TheVariants.{Key, Item}

-- nothing was found
abbrev pub fine : {A : Type 0} → Option A → Bool
fine None = true
fine (Some way) = false

-- nothing is found wrong exactly if the value is read
abbrev pub Suits : {A : Type 0} → Looks → (Data → Option A) → Type 0
Suits looks reading = (d : Data) → fine (looks d) ≡ is_some (reading d)

-- ---- truth values

pub both : {a b c d : Bool} → a ≡ c → b ≡ d → a && b ≡ c && d
both {a} {b} {c} {d} e f = ap (λ x. x && b) e ∙ ap (λ y. c && y) f

pub and_false : (b : Bool) → b && false ≡ false
and_false true = refl
and_false false = refl

pub and_true : (b : Bool) → b && true ≡ b
and_true true = refl
and_true false = refl

-- ---- ways

pub fine-or_else : (a b : Option Way) → fine (or_else a b) ≡ fine a && fine b
fine-or_else None b = refl
fine-or_else (Some way) b = refl

pub fine-last : (a : Option Way) → fine (or_else a None) ≡ fine a
fine-last None = refl
fine-last (Some way) = refl

pub fine-map : {A B : Type 0} → (f : A → B) (o : Option A) → fine (option_map f o) ≡ fine o
fine-map f None = refl
fine-map f (Some x) = refl

pub fine-if : (b : Bool) (way : Way) → fine (cond b None (Some way)) ≡ b
fine-if true way = refl
fine-if false way = refl

pub fine-read_as : {A : Type 0} → (reading : Data → Option A) → Suits (read_as reading) reading
fine-read_as reading d = fine-if (is_some (reading d)) []

-- ---- what is read

pub some-map : {A B : Type 0} → (f : A → B) (o : Option A) → is_some (option_map f o) ≡ is_some o
some-map f None = refl
some-map f (Some x) = refl

some-first : {A : Type 0} → (o : Option A) (rest : Option (List A)) → is_some (with_first o rest) ≡ is_some o && is_some rest
some-first None rest = refl
some-first (Some x) None = refl
some-first (Some x) (Some xs) = refl

pub some-if : {A : Type 0} → (b : Bool) (x : A) → is_some (cond b (Some x) None) ≡ b
some-if true x = refl
some-if false x = refl

-- ---- values at keys

module _ {A : Type 0} (looks : Looks) (reading : Data → Option A) (suits : Suits looks reading) (key : List ℕ) where
  pub fine-optional : (o : Option Data) → fine (optional_in key looks o) ≡ is_some (at_most_one reading o)
  fine-optional None = refl
  fine-optional (Some d) = fine-map (λ way. Key key ∷ way) (looks d) ∙ suits d ∙ sym (some-map Some (reading d))

  pub fine-or_none : (x : A) (o : Option Data) → fine (optional_in key looks o) ≡ is_some (or_none x reading o)
  fine-or_none x None = refl
  fine-or_none x (Some d) = fine-map (λ way. Key key ∷ way) (looks d) ∙ suits d

  pub fine-required : (o : Option Data) → fine (required_in key looks o) ≡ is_some (option_and_then reading o)
  fine-required None = refl
  fine-required (Some d) = fine-map (λ way. Key key ∷ way) (looks d) ∙ suits d

-- ---- keys

module _ (is_key : List ℕ → Bool) where
  fine-find : (b : Bool) (key : List ℕ) (names : List (List ℕ)) → is_key key ≡ b → fine (first_key is_key (key ∷ names)) ≡ b && fine (first_key is_key names)
  fine-find true key names e = rw e refl
  fine-find false key names e = rw e refl

  pub fine-keys_of : (members : Members) → fine (first_key is_key (keys_of members)) ≡ has_only is_key members
  fine-keys_of no_members = refl
  fine-keys_of (member key d members) = fine-find (is_key key) key (keys_of members) refl ∙ ap (λ b. is_key key && b) (fine-keys_of members)

  fine-keys_in : (o : Option Members) → fine (keys_in is_key o) ≡ is_some (option_and_then (λ members. cond (has_only is_key members) (Some members) None) o)
  fine-keys_in None = refl
  fine-keys_in (Some members) = fine-keys_of members ∙ sym (some-if (has_only is_key members) members)

pub fine-no_other : (known : List (List ℕ)) → Suits (no_other known) (strict known)
unfolding is_among
fine-no_other known d = fine-keys_in (λ key. list_any (λ it. bytes_eq it key) known) (as_object d)

-- ---- lists and objects of any keys

module _ {A : Type 0} (looks : Looks) (reading : Data → Option A) (suits : Suits looks reading) where
  fine-among_items : (n : ℕ) (ds : Items) → fine (among_items looks n ds) ≡ is_some (all_in reading ds)
  fine-among_items n no_items = refl
  fine-among_items n (item d ds) =
      fine-or_else (below (Item n) (looks d)) (among_items looks (n + 1) ds)
      ∙ both (fine-map (λ way. Item n ∷ way) (looks d) ∙ suits d) (fine-among_items (n + 1) ds) ∙ sym (some-first (reading d) (all_in reading ds))

  fine-items_in : (o : Option Items) → fine (items_in looks o) ≡ is_some (option_and_then (all_in reading) o)
  fine-items_in None = refl
  fine-items_in (Some ds) = fine-among_items 0 ds

  pub fine-items : Suits (items looks) (list_in reading)
  unfolding list_in
  fine-items d = fine-items_in (as_array d)

  pub fine-among_members : (members : Members) → fine (among_members looks members) ≡ is_some (members_in reading members)
  fine-among_members no_members = refl
  fine-among_members (member key d members) =
      fine-or_else (below (Key key) (looks d)) (among_members looks members)
      ∙ both (fine-map (λ way. Key key ∷ way) (looks d) ∙ suits d ∙ sym (some-map (λ x. (key, x)) (reading d))) (fine-among_members members)
      ∙ sym (some-first (option_map (λ x. (key, x)) (reading d)) (members_in reading members))

  fine-rows_in : (o : Option Members) → fine (found_in looks o) ≡ is_some (option_and_then (members_in reading) o)
  fine-rows_in None = refl
  fine-rows_in (Some members) = fine-among_members members

  pub fine-rows : Suits (rows looks) (rows_in reading)
  unfolding rows_in
  fine-rows d = fine-rows_in (as_object d)
