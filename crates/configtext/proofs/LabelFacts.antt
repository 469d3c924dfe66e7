-- Labels that are put into a map, and labels that are said from it.
use Rattle.std.proofs.Common.{◌≡◌, ℕ, Bool, true, List, [], ◌∷◌, ◌++◌, Bor, Ordering, Less, Equal, Greater, nat_cmp, refl, sym, ap, ◌∙◌, append_assoc}
use Rattle.std.specs.BTreeMap.{insert_entry}
use Rattle.std.specs.Cmp.Lexicographic.{slice_cmp}
use Rattle.std.specs.Ordering.{match_ordering}
use Rattle.json.specs.Print.{quoted}
use Rattle.serde_json.specs.Data.{Members, no_members, object, string, put}
use Rattle.serde_json.specs.Written.{comma_if, compact_text, members_text}
use Rattle.imageconfig.specs.Rows.{Row}
use Rattle.imageconfig.specs.Writing.{put_texts_of, rows_data}
use Rattle.configtext.specs.PrivateLabels.{label_members}

abbrev pub key_cmp : Bor (List ℕ) → Bor (List ℕ) → Ordering
key_cmp x y = slice_cmp nat_cmp x.now y.now

abbrev pub Label : Type 0
Label = Bor (List ℕ) × Bor (List ℕ)

by_order : (o : Ordering) (a b c : List Label) → label_members (match_ordering o a b c) ≡ match_ordering o (label_members a) (label_members b) (label_members c)
by_order Less a b c = refl
by_order Equal a b c = refl
by_order Greater a b c = refl

-- a label that is inserted is put
pub inserted : (labels : List Label) (key value : Bor (List ℕ)) → label_members (insert_entry key_cmp labels key value) ≡ put key.now (string value.now) (label_members labels)
inserted [] key value = refl
inserted (label ∷ labels) key value = by_order (key_cmp key label.0) _ _ _ ∙ rw (inserted labels key value)

-- the labels that are left, the next one first
pub labels-from : (later : Bool) (labels rest : List Label) (key value : Bor (List ℕ)) → labels ≡ (key, value) ∷ rest
    → (comma_if later ++ (quoted key.now ++ 58 ∷ quoted value.now)) ++ members_text true (label_members rest) ≡ members_text later (label_members labels)
labels-from later labels rest key value next =
    append_assoc (comma_if later) (quoted key.now ++ 58 ∷ quoted value.now) (members_text true (label_members rest))
    ∙ ap (λ t. comma_if later ++ t) (append_assoc (quoted key.now) (58 ∷ quoted value.now) (members_text true (label_members rest)))
    ∙ sym (ap (λ ls. members_text later (label_members ls)) next)

-- labels that were put are said as the object of their rows
pub labels-text : (rows : List Row) (members : Members) → members ≡ put_texts_of rows no_members → compact_text (object members) ≡ compact_text (rows_data rows)
unfolding rows_data
labels-text rows members is = ap (λ ms. compact_text (object ms)) is
