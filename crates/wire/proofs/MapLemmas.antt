-- Maps: a key that is after the last one is after all, and the entries ascend with it at the end.
use Rattle.std.proofs.Common.{◌≡◌, ◌↔◌, ℕ, suc, ◌-◌, ◌≤◌, List, [], ◌∷◌, ◌++◌, length, take, get_or, sym, ap, subst, ◌∙◌, arith}
use Rattle.std.proofs.Math.Seq.{take-suc, take-length}
use Rattle.std.specs.List.{AllByRecursion}
use Rattle.std.specs.List.Sorted.{IsStrictlySortedBy}
use Rattle.std.specs.Ordering.{nat_cmp}
use Rattle.std.specs.Cmp.Lexicographic.{slice_cmp, nat_list_cmp_total}
use Rattle.std.specs.declared.cmp.Ordering.TheVariants.{Less}
use Rattle.wire.specs.Maps.{keys_of, Ascends, IsAfter}

module _ {A : Type 0} where
  -- what holds of all holds of the last one
  of_last : (P : List ℕ → Type 0) (entries : List (List ℕ × A)) (last : List ℕ × A) → AllByRecursion P (keys_of (entries ++ last ∷ [])) → P last.0
  of_last P [] last all = all.0
  of_last P (entry ∷ entries) last all = of_last P entries last all.1

  pub after_last : (key : List ℕ) (entries : List (List ℕ × A)) (last : List ℕ × A) → Ascends (entries ++ last ∷ [])
      → slice_cmp nat_cmp last.0 key ≡ Less → IsAfter key (entries ++ last ∷ [])
  unfolding IsStrictlySortedBy
  after_last key [] last ascends less = (less, tt)
  after_last key (entry ∷ entries) last ascends less = (
    nat_list_cmp_total.trans entry.0 last.0 key (of_last (λ other. slice_cmp nat_cmp entry.0 other ≡ Less) entries last ascends.0) less,
    after_last key entries last ascends.1 less,
  )

  pub last_before : (key : List ℕ) (entries : List (List ℕ × A)) (last : List ℕ × A) → IsAfter key (entries ++ last ∷ [])
      → slice_cmp nat_cmp last.0 key ≡ Less
  last_before key entries last after = of_last (λ other. slice_cmp nat_cmp other key ≡ Less) entries last after

  pub all_more : (P : List ℕ → Type 0) (entries : List (List ℕ × A)) (last : List ℕ × A) → AllByRecursion P (keys_of entries) → P last.0
      → AllByRecursion P (keys_of (entries ++ last ∷ []))
  all_more P [] last all one = (one, tt)
  all_more P (entry ∷ entries) last all one = (all.0, all_more P entries last all.1 one)

  pub ascends_more : (entries : List (List ℕ × A)) (last : List ℕ × A) → Ascends entries → IsAfter last.0 entries → Ascends (entries ++ last ∷ [])
  unfolding IsStrictlySortedBy
  ascends_more [] last ascends after = (tt, tt)
  ascends_more (entry ∷ entries) last ascends after =
      (all_more (λ other. slice_cmp nat_cmp entry.0 other ≡ Less) entries last ascends.0 after.0, ascends_more entries last ascends.1 after.1)

  pub ascends_none : (entries : List (List ℕ × A)) → entries ≡ [] → Ascends entries
  unfolding IsStrictlySortedBy
  ascends_none entries none = subst Ascends (sym none) tt

  -- some entries end with the last one
  ends_with : (entries : List (List ℕ × A)) (last : List ℕ × A) → 1 ≤ length entries → last ≡ get_or entries (length entries - 1) last
      → entries ≡ take (length entries - 1) entries ++ last ∷ []
  ends_with entries last some is =
      sym (take-length entries)
      ∙ (ap (λ n. take n entries) (let h : length entries ≡ suc (length entries - 1) = omega arith in h)
      ∙ (take-suc entries (length entries - 1) last (omega arith) ∙ ap (λ one. take (length entries - 1) entries ++ one ∷ []) (sym is)))

  pub is_after_all : (key : List ℕ) (entries : List (List ℕ × A)) (last : List ℕ × A) → 1 ≤ length entries
      → last ≡ get_or entries (length entries - 1) last → Ascends entries
      → (slice_cmp nat_cmp (get_or entries (length entries - 1) last).0 key ≡ Less) ↔ IsAfter key entries
  is_after_all key entries last some is ascends =
      let parts = ends_with entries last some is in
      let same = ap (λ (entry : List ℕ × A). slice_cmp nat_cmp entry.0 key) is in (
        λ less. subst (IsAfter key) (sym parts) (after_last key (take (length entries - 1) entries) last (subst Ascends parts ascends) (same ∙ less)),
        λ after. sym same ∙ last_before key (take (length entries - 1) entries) last (subst (IsAfter key) parts after),
      )
