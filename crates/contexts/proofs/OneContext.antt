-- A list of a folder's entries and an ignore file have one context.
use Rattle.std.proofs.Common.{◌≡◌, ◌∙◌, ℕ, true, List, [], Option, Some, None, sym, ap, refl, inl, inr}
use Rattle.std.specs.Option.{is_some}
use Rattle.std.specs.Prelude.{slice_get}
use Rattle.std.specs.FinMap.{get}
use Rattle.std.proofs.lemmas.Option.{same_Some}
use Rattle.trees.specs.declared.entry.Entry.{Entry}
use Rattle.trees.specs.TreeMap.{TreeMap}
use Rattle.trees.proofs.TreeLaws.{same_tree}
use Rattle.ignorefile.specs.declared.line.Line.{Line}
use Rattle.trees.specs.Row.{Row, Has}
use Rattle.contexts.specs.Context.{IsListing, IsFolder, IsContext, owned}

module _ (rows : List Row) (lines : List Line) (listing : IsListing rows) where
  one-row : (row other : Row) → Has rows row → Has rows other → row.0 ≡ other.0 → row ≡ other
  one-row row other has had same =
      let at : has.0 ≡ had.0 = listing.once has.0 had.0 row other has.1 had.1 same in
      same_Some row other (sym has.1 ∙ ap (λ n. slice_get rows n) at ∙ had.1)

  pub one-folder : (path : List (List ℕ)) (e f : Entry) → IsFolder rows path e → IsFolder rows path f → e ≡ f
  one-folder path e f (inl (row, (has, (at, is)))) (inl (other, (had, (there, was)))) = is ∙ ap (λ (r : Row). owned r.1) (one-row row other has had (at ∙ sym there)) ∙ sym was
  one-folder path e f (inl (row, (has, (at, is)))) (inr (none, was)) = absurd (none row has at)
  one-folder path e f (inr (none, is)) (inl (other, (had, (there, was)))) = absurd (none other had there)
  one-folder path e f (inr (none, is)) (inr (lacks, was)) = is ∙ sym was

  -- what stands in one context stands in another
  agree : (a b : TreeMap) → IsContext rows lines a → IsContext rows lines b → (q : List (List ℕ)) → is_some (get a q) ≡ true → get a q ≡ get b q
  agree a b x y q h = elim (x.only q h) [
    | inl root ↦
        let e = x.root in
        let f = y.root in
        ap (λ p. get a p) root ∙ e.1.0 ∙ ap Some (one-folder [] e.0 f.0 e.1.1 f.1.1) ∙ sym f.1.0 ∙ sym (ap (λ p. get b p) root)
    | inr w ↦ elim w.1.1.1 [
      | inl same ↦ sym (ap (λ p. get a p) same) ∙ x.stays w.0 w.1.0 w.1.1.0 ∙ sym (y.stays w.0 w.1.0 w.1.1.0) ∙ ap (λ p. get b p) same
      | inr way ↦
          let e = x.ways w.0 q w.1.0 w.1.1.0 way in
          let f = y.ways w.0 q w.1.0 w.1.1.0 way in
          e.1.0 ∙ ap Some (one-folder q e.0 f.0 e.1.1 f.1.1) ∙ sym f.1.0
    ]
  ]

  pub one-context : (a b : TreeMap) → IsContext rows lines a → IsContext rows lines b → a ≡ b
  one-context a b x y = same_tree a b (λ q. by q (get a q) refl (get b q) refl)
    where
      by : (q : List (List ℕ)) (o : Option Entry) → get a q ≡ o → (p : Option Entry) → get b q ≡ p → get a q ≡ get b q
      by q (Some entry) e p f = agree a b x y q (ap (λ o. is_some o) e)
      by q None e (Some entry) f = sym (agree b a y x q (ap (λ o. is_some o) f))
      by q None e None f = e ∙ sym f
