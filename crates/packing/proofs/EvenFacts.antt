-- JSON that is even part by part is even, and of such JSON a bundle's text is read again.
use Rattle.std.proofs.Common.{◌≡◌, ◌≤◌, ◌<◌, ◌-◌, ℕ, Bool, true, false, not, refl, sym, arith, zero, suc}
use Rattle.std.specs.Prelude.{◌==◌, nat_le}
use Rattle.std.proofs.lemmas.Bool.{and_from, and_parts, le-leb, leb-true, ne_eqb, not-true, not_from_false, or_from, or_parts}
use Rattle.serde_json.specs.Data.{Data, null, boolean, number, string, array, object, Items, no_items, item, Members, no_members, member, depth, items_depth, members_depth}
use Rattle.serde_json.specs.Find.{is_float}
use Rattle.serde_json.specs.Written.{has_float, items_have_float, members_have_float}
use Rattle.packing.specs.Images.{is_even}
use Rattle.packing.specs.PrivateImages.{even, items_even, members_even}

same_tests : (a b : Bool) → (a ≡ true → b ≡ true) → (b ≡ true → a ≡ true) → a ≡ b
same_tests true b there back = sym (there refl)
same_tests false true there back = back refl
same_tests false false there back = refl

some_left : (most : ℕ) → not (most == 0) ≡ true → 0 < most
some_left zero e = cc
some_left (suc n) e = omega arith

left_some : (most n : ℕ) → suc n ≤ most → not (most == 0) ≡ true
left_some most n l = not_from_false (most == 0) (ne_eqb most 0 (λ e. omega (arith, e)))

mutual
  sound : (most : ℕ) (d : Data) → even most d ≡ true → (has_float d ≡ false) × (depth d ≤ most)
  sound most null e = (refl, omega arith)
  sound most (boolean b) e = (refl, omega arith)
  sound most (number n) e = (not-true (is_float n) e, omega arith)
  sound most (string s) e = (refl, omega arith)
  sound most (array ds) e =
      let parts = and_parts (not (most == 0)) (items_even (most - 1) ds) e in
      let more = some_left most parts.0 in
      let within = items_sound (most - 1) ds parts.1 in
      let low = within.1 in
      (within.0, omega arith)
  sound most (object ms) e =
      let parts = and_parts (not (most == 0)) (members_even (most - 1) ms) e in
      let more = some_left most parts.0 in
      let within = members_sound (most - 1) ms parts.1 in
      let low = within.1 in
      (within.0, omega arith)

  items_sound : (most : ℕ) (ds : Items) → items_even most ds ≡ true → (items_have_float ds ≡ false) × (items_depth ds ≤ most)
  items_sound most no_items e = (refl, omega arith)
  items_sound most (item d ds) e =
      let parts = and_parts (even most d) (items_even most ds) e in
      let one = sound most d parts.0 in
      let others = items_sound most ds parts.1 in
      let low = one.1 in
      let lows = others.1 in
      (or_from (has_float d) (items_have_float ds) one.0 others.0, omega arith)

  members_sound : (most : ℕ) (ms : Members) → members_even most ms ≡ true → (members_have_float ms ≡ false) × (members_depth ms ≤ most)
  members_sound most no_members e = (refl, omega arith)
  members_sound most (member k d ms) e =
      let parts = and_parts (even most d) (members_even most ms) e in
      let one = sound most d parts.0 in
      let others = members_sound most ms parts.1 in
      let low = one.1 in
      let lows = others.1 in
      (or_from (has_float d) (members_have_float ms) one.0 others.0, omega arith)

mutual
  whole : (most : ℕ) (d : Data) → has_float d ≡ false → depth d ≤ most → even most d ≡ true
  whole most null f l = refl
  whole most (boolean b) f l = refl
  whole most (number n) f l = not_from_false (is_float n) f
  whole most (string s) f l = refl
  whole most (array ds) f l = and_from (not (most == 0)) (items_even (most - 1) ds) (left_some most (items_depth ds) l) (items_whole (most - 1) ds f (omega arith))
  whole most (object ms) f l = and_from (not (most == 0)) (members_even (most - 1) ms) (left_some most (members_depth ms) l) (members_whole (most - 1) ms f (omega arith))

  items_whole : (most : ℕ) (ds : Items) → items_have_float ds ≡ false → items_depth ds ≤ most → items_even most ds ≡ true
  items_whole most no_items f l = refl
  items_whole most (item d ds) f l =
      let parts = or_parts (has_float d) (items_have_float ds) f in
      and_from (even most d) (items_even most ds) (whole most d parts.0 (omega arith)) (items_whole most ds parts.1 (omega arith))

  members_whole : (most : ℕ) (ms : Members) → members_have_float ms ≡ false → members_depth ms ≤ most → members_even most ms ≡ true
  members_whole most no_members f l = refl
  members_whole most (member k d ms) f l =
      let parts = or_parts (has_float d) (members_have_float ms) f in
      and_from (even most d) (members_even most ms) (whole most d parts.0 (omega arith)) (members_whole most ms parts.1 (omega arith))

-- what JSON that is even has
pub even_parts : (most : ℕ) (d : Data) → is_even most d ≡ true → (has_float d ≡ false) × (depth d ≤ most)
even_parts most d e =
    let parts = and_parts (not (has_float d)) (nat_le (depth d) most) e in
    (not-true (has_float d) parts.0, leb-true (depth d) most parts.1)

-- both tests are one
pub even_is : (most : ℕ) (d : Data) → even most d ≡ is_even most d
even_is most d =
    same_tests (even most d) (is_even most d)
    (λ e. let found = sound most d e in and_from (not (has_float d)) (nat_le (depth d) most) (not_from_false (has_float d) found.0) (le-leb (depth d) most found.1))
    (λ e. let found = even_parts most d e in whole most d found.0 found.1)
