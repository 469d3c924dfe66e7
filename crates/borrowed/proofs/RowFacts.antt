-- Members that are sorted through a `BTreeMap`, each key and value lent.
use Rattle.std.proofs.Common.{◌≡◌, ℕ, List, [], ◌∷◌, Option, Some, None, option_map, unwrap_or, Bor, Ordering, Less, Equal, Greater, nat_cmp, refl, ap, ap₂, ◌∙◌}
use Rattle.std.specs.BTreeMap.{insert_entry}
use Rattle.std.specs.Cmp.Lexicographic.{slice_cmp}
use Rattle.std.specs.Ordering.{match_ordering}
use Rattle.json.specs.declared.value.Value.{Value}
use Rattle.serde_json.specs.Data.{Data, Members, no_members, member, put}
use Rattle.strict.specs.Strict.{with_first, members_in}
use Rattle.borrowed.specs.PrivateRows.{rows_data}
use Rattle.borrowed.specs.Rows.{owned_rows}
use Rattle.borrowed.specs.Seen.{data_of}

abbrev pub key_cmp : Bor (List ℕ) → Bor (List ℕ) → Ordering
key_cmp x y = slice_cmp nat_cmp x.now y.now

rows_data-match_ordering : {A : Type 0} → (o : Ordering) (a b c : List (Bor (List ℕ) × Bor (Value A))) → rows_data (match_ordering o a b c) ≡ match_ordering o (rows_data a) (rows_data b) (rows_data c)
rows_data-match_ordering Less a b c = refl
rows_data-match_ordering Equal a b c = refl
rows_data-match_ordering Greater a b c = refl

pub rows_data-insert_entry : {A : Type 0} → (rows : List (Bor (List ℕ) × Bor (Value A))) (k : Bor (List ℕ)) (v : Bor (Value A)) → rows_data (insert_entry key_cmp rows k v) ≡ put k.now (data_of v.now) (rows_data rows)
rows_data-insert_entry [] k v = refl
rows_data-insert_entry (r ∷ rows) k v = rows_data-match_ordering (key_cmp k r.0) _ _ _ ∙ rw (rows_data-insert_entry rows k v)

-- ---- members that are read as they come

some_is : {A : Type 0} → (x y : A) → Some x ≡ Some y → x ≡ y
some_is x y e = ap (λ o. unwrap_or o x) e

module _ {A : Type 0} (one : Data → Option A) where
  abbrev named : List ℕ → Option A → Option (List ℕ × A)
  named k o = option_map (λ x. (k, x)) o

  never_none : (a : Option (List ℕ × A)) (b : Option (List (List ℕ × A))) → with_first a b ≡ Some [] → ⊥
  never_none None b e = absurd (cc)
  never_none (Some x) None e = absurd (cc)
  never_none (Some x) (Some xs) e = absurd (cc)

  first_and_rest : (a : Option (List ℕ × A)) (b : Option (List (List ℕ × A))) (row : List ℕ × A) (rows : List (List ℕ × A)) → with_first a b ≡ Some (row ∷ rows) → (a ≡ Some row) × (b ≡ Some rows)
  first_and_rest None b row rows e = absurd (cc)
  first_and_rest (Some x) None row rows e = absurd (cc)
  first_and_rest (Some x) (Some xs) row rows e = (cc, cc)

  key_and_value : (l : List ℕ) (o : Option A) (row : List ℕ × A) → named l o ≡ Some row → (l ≡ row.0) × (o ≡ Some row.1)
  key_and_value l None row e = absurd (cc)
  key_and_value l (Some x) row e = let same = some_is (l, x) row e in (ap (λ r. r.0) same, ap (λ r. Some r.1) same)

  put_at : (o : Ordering) (k : Bor (List ℕ)) (l : List ℕ) (d e : Data) (ms : Members) (x : A) (r : Bor (List ℕ) × A) (rs : List (Bor (List ℕ) × A))
      → one d ≡ Some x → l ≡ r.0.now → one e ≡ Some r.1 → members_in one ms ≡ Some (owned_rows rs) → members_in one (put k.now d ms) ≡ Some (owned_rows (insert_entry key_cmp rs k x))
      → members_in one (match_ordering o (member k.now d (member l e ms)) (member l d ms) (member l e (put k.now d ms)))
      ≡ Some (owned_rows (match_ordering o ((k, x) ∷ (r ∷ rs)) ((r.0, x) ∷ rs) (r ∷ insert_entry key_cmp rs k x)))
  put_at Less k l d e ms x r rs new key old rest more =
      ap₂ with_first (ap (named k.now) new) (ap₂ with_first (ap₂ named key old) rest)
  put_at Equal k l d e ms x r rs new key old rest more = ap₂ with_first (ap₂ named key new) rest
  put_at Greater k l d e ms x r rs new key old rest more = ap₂ with_first (ap₂ named key old) more

  -- a member that is put is a row that is inserted
  pub members_in-put : (found : Members) (rows : List (Bor (List ℕ) × A)) (k : Bor (List ℕ)) (d : Data) (x : A) → members_in one found ≡ Some (owned_rows rows) → one d ≡ Some x
      → members_in one (put k.now d found) ≡ Some (owned_rows (insert_entry key_cmp rows k x))
  members_in-put no_members [] k d x are new = ap (λ o. with_first (named k.now o) (Some [])) new
  members_in-put no_members (r ∷ rs) k d x are new = absurd (cc)
  members_in-put (member l e ms) [] k d x are new = absurd (never_none (named l (one e)) (members_in one ms) are)
  members_in-put (member l e ms) (r ∷ rs) k d x are new =
      let parts = first_and_rest (named l (one e)) (members_in one ms) (r.0.now, r.1) (owned_rows rs) are in
      let pair = key_and_value l (one e) (r.0.now, r.1) parts.0 in
      let more = members_in-put ms rs k d x parts.1 new in
      put_at (slice_cmp nat_cmp k.now l) k l d e ms x r rs new pair.0 pair.1 parts.1 more
      ∙ ap (λ q. Some (owned_rows (match_ordering (slice_cmp nat_cmp k.now q) ((k, x) ∷ (r ∷ rs)) ((r.0, x) ∷ rs) (r ∷ insert_entry key_cmp rs k x)))) pair.0
