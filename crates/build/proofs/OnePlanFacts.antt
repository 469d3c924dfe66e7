-- A file has one graph: two graphs that stand for it, each with every vertex once, have the same vertices in one order, one target, and the same places.
-- The vertices of both are met in the order of their places: each place has the same operation on the same inputs in both graphs, so it has one number
-- in both.
use Rattle.std.proofs.Common.{◌≡◌, ◌⊎◌, inl, inr, ◌<◌, ◌+◌, ℕ, suc, List, [], ◌∷◌, ◌++◌, true, false, Option, Some, None, length, refl, sym, ap, ◌∙◌, subst, arith, append_assoc, append-nil}
use Rattle.std.specs.Prelude.{slice_get}
use Rattle.std.specs.List.{AllZip}
use Rattle.std.proofs.lemmas.Bool.{cases_lt}
use Rattle.llb.specs.Graph.{AreVertices}
use Rattle.llb.specs.declared.op.CopyFiles.{CopyFiles}
use Rattle.llb.specs.declared.op.Op.{Op}
use Rattle.llb.specs.declared.op.Op.TheVariants.{Source as SourceOp, Exec as ExecOp, Copy as CopyOp, MakeDirs as MakeDirsOp, Merge as MergeOp}
use Rattle.llb.specs.declared.op.Source.TheVariants.{Scratch}
use Rattle.llb.specs.declared.vertex.Vertex.{Vertex}
use Rattle.plans.specs.Plan.{PlanValue}
use Rattle.rows.specs.declared.row.Action.{Action}
use Rattle.rows.specs.declared.row.Action.TheVariants.{Run, Copy, MakeDirs}
use Rattle.rows.specs.declared.row.Origin.{Origin}
use Rattle.rows.specs.declared.row.Origin.TheVariants.{Source as SourceOf, Stage as StageOf}
use Rattle.rows.specs.declared.row.Stage.{Stage}
use Rattle.rows.specs.declared.row.Step.{Step}
use Rattle.lowering.specs.Meaning.{Rows, listed}
use Rattle.lowering.specs.Means.{StandsFor}
use Rattle.lowering.specs.Vertices.{Tips, Places, AreNumbered, IsVertex, IsOrigin, origin_places, origins_places, IsOperation, IsLinked, IsLowered, AreLowered, IsStageLowered, IsRowLowered, AreRowsLowered}

-- each vertex of a list stands in it once
abbrev pub AreOnce : List Vertex → Type 0
AreOnce vertices = (j k : ℕ) (v : Vertex) → slice_get vertices j ≡ Some v → slice_get vertices k ≡ Some v → j ≡ k

-- lists with the same items
pub same_items : {X : Type 0} (xs ys : List X) → length xs ≡ length ys → ((k : ℕ) → k < length xs → slice_get xs k ≡ slice_get ys k) → xs ≡ ys
same_items [] [] long same = refl
same_items [] (y ∷ ys) long same = absurd (omega (arith, long))
same_items (x ∷ xs) [] long same = absurd (omega (arith, long))
same_items (x ∷ xs) (y ∷ ys) long same =
    let first : x ≡ y = (let f : Some x ≡ Some y = same 0 (omega arith) in cc) in
    let rest = same_items xs ys (omega (arith, long)) (λ k low. same (suc k) (omega (arith, low))) in
    ap (λ z. z ∷ xs) first ∙ ap (λ zs. y ∷ zs) rest

-- two graphs have been met up to a number of vertices, which are the same in both, and these places are left
record AreMet (A B : List Vertex) (rest_a rest_b : Places) (end_a end_b : ℕ) : Type 0 where
  n : ℕ
  agree : (k : ℕ) → k < n → slice_get A k ≡ slice_get B k
  left_a : AreNumbered n rest_a end_a
  left_b : AreNumbered n rest_b end_b

module _ (A B : List Vertex) (once_a : AreOnce A) (once_b : AreOnce B) (end_a end_b : ℕ) where
  moved : (pa pb qa qb : Places) → pa ≡ qa → pb ≡ qb → AreMet A B pa pb end_a end_b → AreMet A B qa qb end_a end_b
  moved pa pb qa qb ea eb at = subst (λ q. AreMet A B qa q end_a end_b) eb (subst (λ q. AreMet A B q pb end_a end_b) ea at)

  -- the vertex of one place
  one_place : (op : Op) (inputs : List ℕ) (line a b : ℕ) (rest_a rest_b : Places) → IsVertex A op inputs a → IsVertex B op inputs b
      → AreMet A B ((line, a) ∷ rest_a) ((line, b) ∷ rest_b) end_a end_b → (a ≡ b) × AreMet A B rest_a rest_b end_a end_b
  one_place op inputs line a b rest_a rest_b here there at = by at.left_a at.left_b
    where
      grown : a ≡ at.n → b ≡ at.n → (k : ℕ) → k < at.n + 1 → slice_get A k ≡ slice_get B k
      grown new_a new_b k low = elim (cases_lt k at.n) [
        | inl before ↦ at.agree k before
        | inr not_before ↦
            let on_a : k ≡ a = omega (arith, low, not_before, new_a) in
            let on_b : k ≡ b = omega (arith, low, not_before, new_b) in
            ap (λ i. slice_get A i) on_a ∙ (here ∙ sym (ap (λ i. slice_get B i) on_b ∙ there))
      ]

      by : ((a < at.n) × AreNumbered at.n rest_a end_a) ⊎ ((a ≡ at.n) × AreNumbered (at.n + 1) rest_a end_a)
          → ((b < at.n) × AreNumbered at.n rest_b end_b) ⊎ ((b ≡ at.n) × AreNumbered (at.n + 1) rest_b end_b) → (a ≡ b) × AreMet A B rest_a rest_b end_a end_b
      by (inl (old_a, left_a)) (inl (old_b, left_b)) =
          (once_b a b _ (sym (at.agree a old_a) ∙ here) there, record { n = at.n; agree = at.agree; left_a = left_a; left_b = left_b })
      by (inl (old_a, left_a)) (inr (new_b, left_b)) = (let same : a ≡ b = once_b a b _ (sym (at.agree a old_a) ∙ here) there in absurd (omega (arith, same, old_a, new_b)))
      by (inr (new_a, left_a)) (inl (old_b, left_b)) = (let same : a ≡ b = once_a a b _ here (at.agree b old_b ∙ there) in absurd (omega (arith, same, new_a, old_b)))
      by (inr (new_a, left_a)) (inr (new_b, left_b)) =
          (omega (arith, new_a, new_b), record { n = at.n + 1; agree = grown new_a new_b; left_a = left_a; left_b = left_b })

  -- what an instruction names
  one_origin : (tips : Tips) (line : ℕ) (origin : Origin) (a b : ℕ) (rest_a rest_b : Places) → IsOrigin A tips origin a → IsOrigin B tips origin b
      → AreMet A B (origin_places line origin a ++ rest_a) (origin_places line origin b ++ rest_b) end_a end_b → (a ≡ b) × AreMet A B rest_a rest_b end_a end_b
  one_origin tips line (SourceOf source) a b rest_a rest_b here there at = one_place (SourceOp source) [] line a b rest_a rest_b here there at
  one_origin tips line (StageOf number) a b rest_a rest_b here there at = ((let f : Some (Some a) ≡ Some (Some b) = sym here ∙ there in cc), at)

  one_origins : (tips : Tips) (line : ℕ) (origins : List Origin) (ids others : List ℕ) (rest_a rest_b : Places) → AllZip (IsOrigin A tips) origins ids
      → AllZip (IsOrigin B tips) origins others → AreMet A B (origins_places line origins ids ++ rest_a) (origins_places line origins others ++ rest_b) end_a end_b
      → (ids ≡ others) × AreMet A B rest_a rest_b end_a end_b
  one_origins tips line [] [] [] rest_a rest_b here there at = (refl, at)
  one_origins tips line [] [] (b ∷ others) rest_a rest_b here there at = absurd there
  one_origins tips line [] (a ∷ ids) others rest_a rest_b here there at = absurd here
  one_origins tips line (o ∷ os) [] others rest_a rest_b here there at = absurd here
  one_origins tips line (o ∷ os) (a ∷ ids) [] rest_a rest_b here there at = absurd there
  one_origins tips line (o ∷ os) (a ∷ ids) (b ∷ others) rest_a rest_b here there at =
      let first =
      one_origin tips line o a b (origins_places line os ids ++ rest_a) (origins_places line os others ++ rest_b) here.0 there.0
      (moved _ _ _ _ (append_assoc (origin_places line o a) (origins_places line os ids) rest_a) (append_assoc (origin_places line o b) (origins_places line os others) rest_b) at) in
      let rest = one_origins tips line os ids others rest_a rest_b here.1 there.1 first.1 in
      (ap (λ i. i ∷ ids) first.0 ∙ ap (λ is. b ∷ is) rest.0, rest.1)

  -- an operation on what is there already
  one_operation : (tips : Tips) (line base : ℕ) (op : Op) (origins : List Origin) (a b : ℕ) (pa pb rest_a rest_b : Places) → IsOperation A tips line base op origins a pa
      → IsOperation B tips line base op origins b pb → AreMet A B (pa ++ rest_a) (pb ++ rest_b) end_a end_b → (a ≡ b) × (pa ≡ pb) × AreMet A B rest_a rest_b end_a end_b
  one_operation tips line base op origins a b pa pb rest_a rest_b here there at =
      let named =
      one_origins tips line origins here.named there.named ((line, a) ∷ rest_a) ((line, b) ∷ rest_b) here.are there.are
      (moved _ _ _ _ (ap (λ p. p ++ rest_a) here.all ∙ append_assoc (origins_places line origins here.named) ((line, a) ∷ []) rest_a)
      (ap (λ p. p ++ rest_b) there.all ∙ append_assoc (origins_places line origins there.named) ((line, b) ∷ []) rest_b) at) in
      let last = one_place op (base ∷ here.named) line a b rest_a rest_b here.is (subst (λ ids. IsVertex B op (base ∷ ids) b) (sym named.0) there.is) named.1 in (
        last.0,
        here.all ∙ (ap (λ ids. origins_places line origins ids ++ (line, a) ∷ []) named.0 ∙ (ap (λ i. origins_places line origins there.named ++ (line, i) ∷ []) last.0 ∙ sym there.all)),
        last.1,
      )

  one_linked : (tips : Tips) (line base : ℕ) (files : CopyFiles) (origins : List Origin) (a b : ℕ) (pa pb rest_a rest_b : Places) → IsLinked A tips line base files origins a pa
      → IsLinked B tips line base files origins b pb → AreMet A B (pa ++ rest_a) (pb ++ rest_b) end_a end_b → (a ≡ b) × (pa ≡ pb) × AreMet A B rest_a rest_b end_a end_b
  one_linked tips line base files origins a b pa pb rest_a rest_b here there at =
      let begun =
      one_place (SourceOp Scratch) [] line here.scratch there.scratch ((here.copied ++ (line, a) ∷ []) ++ rest_a) ((there.copied ++ (line, b) ∷ []) ++ rest_b) here.empty there.empty
      (moved _ _ _ _ (ap (λ p. p ++ rest_a) here.all) (ap (λ p. p ++ rest_b) there.all) at) in
      let copied =
      one_operation tips line here.scratch (CopyOp files) origins here.copy there.copy here.copied there.copied ((line, a) ∷ rest_a) ((line, b) ∷ rest_b) here.copies
      (subst (λ i. IsOperation B tips line i (CopyOp files) origins there.copy there.copied) (sym begun.0) there.copies)
      (moved _ _ _ _ (append_assoc here.copied ((line, a) ∷ []) rest_a) (append_assoc there.copied ((line, b) ∷ []) rest_b) begun.1) in
      let merged = one_place MergeOp (base ∷ (here.copy ∷ [])) line a b rest_a rest_b here.merges (subst (λ i. IsVertex B MergeOp (base ∷ (i ∷ [])) b) (sym copied.0) there.merges) copied.2 in (
        merged.0,
        here.all
            ∙ (ap (λ i. (line, i) ∷ (here.copied ++ (line, a) ∷ [])) begun.0
            ∙ (ap (λ ps. (line, there.scratch) ∷ (ps ++ (line, a) ∷ [])) copied.1
            ∙ (ap (λ i. (line, there.scratch) ∷ (there.copied ++ (line, i) ∷ [])) merged.0 ∙ sym there.all))),
        merged.1,
      )

  -- instructions, one after another
  one_lowered : (tips : Tips) (line base : ℕ) (action : Action) (a b : ℕ) (pa pb rest_a rest_b : Places) → IsLowered A tips line base action a pa
      → IsLowered B tips line base action b pb → AreMet A B (pa ++ rest_a) (pb ++ rest_b) end_a end_b → (a ≡ b) × (pa ≡ pb) × AreMet A B rest_a rest_b end_a end_b
  one_lowered tips line base (Run exec from) a b pa pb rest_a rest_b here there at =
      one_operation tips line base (ExecOp exec) from a b pa pb rest_a rest_b here there at
  one_lowered tips line base (Copy files from false) a b pa pb rest_a rest_b here there at =
      one_operation tips line base (CopyOp files) (listed from) a b pa pb rest_a rest_b here there at
  one_lowered tips line base (Copy files from true) a b pa pb rest_a rest_b here there at =
      one_linked tips line base files (listed from) a b pa pb rest_a rest_b here there at
  one_lowered tips line base (MakeDirs path) a b pa pb rest_a rest_b here there at =
      one_operation tips line base (MakeDirsOp path) [] a b pa pb rest_a rest_b here there at

  one_chain : (tips : Tips) (base : ℕ) (steps : List Step) (a b : ℕ) (pa pb rest_a rest_b : Places) → AreLowered A tips base steps a pa → AreLowered B tips base steps b pb
      → AreMet A B (pa ++ rest_a) (pb ++ rest_b) end_a end_b → (a ≡ b) × (pa ≡ pb) × AreMet A B rest_a rest_b end_a end_b
  one_chain tips base [] a b pa pb rest_a rest_b here there at =
      (here.0 ∙ sym there.0, here.1 ∙ sym there.1, moved _ _ _ _ (ap (λ p. p ++ rest_a) here.1) (ap (λ p. p ++ rest_b) there.1) at)
  one_chain tips base (step ∷ steps) a b pa pb rest_a rest_b here there at =
      let first =
      one_lowered tips step.line base step.action here.0 there.0 here.1 there.1 (here.2 ++ rest_a) (there.2 ++ rest_b) here.3 there.3
      (moved _ _ _ _ (ap (λ p. p ++ rest_a) here.5 ∙ append_assoc here.1 here.2 rest_a) (ap (λ p. p ++ rest_b) there.5 ∙ append_assoc there.1 there.2 rest_b) at) in
      let rest = one_chain tips here.0 steps a b here.2 there.2 rest_a rest_b here.4 (subst (λ i. AreLowered B tips i steps b there.2) (sym first.0) there.4) first.2 in
      (rest.0, here.5 ∙ (ap (λ ps. ps ++ here.2) first.1 ∙ (ap (λ ps. there.1 ++ ps) rest.1 ∙ sym there.5)), rest.2)

  -- stages
  one_stage : (tips : Tips) (stage : Stage) (a b : ℕ) (pa pb rest_a rest_b : Places) → IsStageLowered A tips stage a pa → IsStageLowered B tips stage b pb
      → AreMet A B (pa ++ rest_a) (pb ++ rest_b) end_a end_b → (a ≡ b) × (pa ≡ pb) × AreMet A B rest_a rest_b end_a end_b
  one_stage tips stage a b pa pb rest_a rest_b here there at =
      let begun =
      one_origin tips stage.line stage.base here.base there.base (here.others ++ rest_a) (there.others ++ rest_b) here.begins there.begins
      (moved _ _ _ _ (ap (λ p. p ++ rest_a) here.all ∙ append_assoc (origin_places stage.line stage.base here.base) here.others rest_a)
      (ap (λ p. p ++ rest_b) there.all ∙ append_assoc (origin_places stage.line stage.base there.base) there.others rest_b) at) in
      let rest =
      one_chain tips here.base stage.steps a b here.others there.others rest_a rest_b here.steps
      (subst (λ i. AreLowered B tips i stage.steps b there.others) (sym begun.0) there.steps) begun.1 in (
        rest.0,
        here.all
            ∙ (ap (λ i. origin_places stage.line stage.base i ++ here.others) begun.0 ∙ (ap (λ ps. origin_places stage.line stage.base there.base ++ ps) rest.1 ∙ sym there.all)),
        rest.2,
      )

  one_row : (tips : Tips) (row : Option Stage) (a b : Option ℕ) (pa pb rest_a rest_b : Places) → IsRowLowered A tips row a pa → IsRowLowered B tips row b pb
      → AreMet A B (pa ++ rest_a) (pb ++ rest_b) end_a end_b → (a ≡ b) × (pa ≡ pb) × AreMet A B rest_a rest_b end_a end_b
  one_row tips None a b pa pb rest_a rest_b here there at =
      (here.0 ∙ sym there.0, here.1 ∙ sym there.1, moved _ _ _ _ (ap (λ p. p ++ rest_a) here.1) (ap (λ p. p ++ rest_b) there.1) at)
  one_row tips (Some stage) a b pa pb rest_a rest_b here there at =
      let one = one_stage tips stage here.0 there.0 pa pb rest_a rest_b here.2 there.2 at in
      (here.1 ∙ (ap (λ i. Some i) one.0 ∙ sym there.1), one.1, one.2)

  one_rows : (tips : Tips) (rows : Rows) (lasts_a lasts_b : Tips) (pa pb rest_a rest_b : Places) → AreRowsLowered A tips rows lasts_a pa → AreRowsLowered B tips rows lasts_b pb
      → AreMet A B (pa ++ rest_a) (pb ++ rest_b) end_a end_b → (lasts_a ≡ lasts_b) × (pa ≡ pb) × AreMet A B rest_a rest_b end_a end_b
  one_rows tips [] lasts_a lasts_b pa pb rest_a rest_b here there at =
      (here.0 ∙ sym there.0, here.1 ∙ sym there.1, moved _ _ _ _ (ap (λ p. p ++ rest_a) here.1) (ap (λ p. p ++ rest_b) there.1) at)
  one_rows tips (row ∷ rows) lasts_a lasts_b pa pb rest_a rest_b here there at =
      let first =
      one_row tips row here.0 there.0 here.2 there.2 (here.3 ++ rest_a) (there.3 ++ rest_b) here.4 there.4
      (moved _ _ _ _ (ap (λ p. p ++ rest_a) here.7 ∙ append_assoc here.2 here.3 rest_a) (ap (λ p. p ++ rest_b) there.7 ∙ append_assoc there.2 there.3 rest_b) at) in
      let rest =
      one_rows (tips ++ here.0 ∷ []) rows here.1 there.1 here.3 there.3 rest_a rest_b here.5
      (subst (λ tip. AreRowsLowered B (tips ++ tip ∷ []) rows there.1 there.3) (sym first.0) there.5) first.2 in (
        here.6 ∙ (ap (λ tip. tip ∷ here.1) first.0 ∙ (ap (λ more. there.0 ∷ more) rest.0 ∙ sym there.6)),
        here.7 ∙ (ap (λ ps. ps ++ here.3) first.1 ∙ (ap (λ ps. there.2 ++ ps) rest.1 ∙ sym there.7)),
        rest.2,
      )

pub one_graph : {C : Type 0} (one other : PlanValue C) (rows : Rows) (target : ℕ) (this : StandsFor one rows target) (that : StandsFor other rows target)
    → AreVertices one.graph.vertices → AreVertices other.graph.vertices → (one.graph.vertices ≡ other.graph.vertices) × (one.target ≡ other.target) × (this.places ≡ that.places)
one_graph one other rows target this that are were =
    let A = one.graph.vertices in
    let B = other.graph.vertices in
    let begun : AreMet A B (this.places ++ []) (that.places ++ []) (length A) (length B) = record {
      n = 0;
      agree = λ k low. absurd (omega (arith, low));
      left_a = subst (λ p. AreNumbered 0 p (length A)) (sym (append-nil this.places)) this.order;
      left_b = subst (λ p. AreNumbered 0 p (length B)) (sym (append-nil that.places)) that.order;
    } in
    let met = one_rows A B are.once were.once (length A) (length B) [] rows this.tips that.tips this.places that.places [] [] this.lowered that.lowered begun in
    let end_a = met.2.left_a in
    let end_b = met.2.left_b in
    let tips : slice_get this.tips target ≡ Some (Some other.target) = ap (λ ts. slice_get ts target) met.0 ∙ that.last in (
      same_items A B (omega (arith, end_a, end_b)) (λ k low. met.2.agree k (omega (arith, low, end_a))),
      (let f : Some (Some one.target) ≡ Some (Some other.target) = sym this.last ∙ tips in cc),
      met.1,
    )
