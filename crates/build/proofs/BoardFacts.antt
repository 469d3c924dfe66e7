-- A board that can't go on has settled the file's first failure.
use Rattle.std.proofs.Common.{◌≡◌, ◌≤◌, ℕ, Some, None, refl, sym, subst}
use Rattle.plans.specs.Plan.{PlanValue, Problem, IsPlan, NeedsAll, line_at, HasLinesInOrder, problem_of}
use Rattle.plans.specs.Value.{Out}
use Rattle.board.specs.Legal.{vertex_out, IsSettled, HasTree, HasCause, IsReady}
use Rattle.board.specs.Play.{Run, IsReplay}
use Rattle.board.specs.Problem.{IsProblem}
use Rattle.board.proofs.ProblemLemmas.{plan-problem}
use Rattle.rows.specs.Order.{IsInOrder, NeedsAllStages}
use Rattle.lowering.specs.Meaning.{Rows, serial}
use Rattle.lowering.specs.Means.{Means, StandsFor, AreLined, world}
use Rattle.lowering.specs.Order.{LinesInOrder}
use Rattle.lowering.proofs.NeededFacts.{stands_needed}
use Rattle.lowering.proofs.OrderFacts.{stands_in_order, in_order_least}
use Rattle.rewrite.specs.Flat.{IsFlattened}
use Rattle.rewrite.specs.Pruned.{IsPruned, KeepsMeaning}
use Rattle.rewrite.proofs.FlattenedFacts.{flat_needs, flat_keeps}
use Rattle.rewrite.proofs.LawFacts.{lined, flat_lined, kept_on}
use Rattle.rewrite.proofs.OrderFacts.{pruned_in_order, flat_in_order, first_is}
use Rattle.rewrite.proofs.PrunedFacts.{pruned_needs, pruned_keeps}
use Rattle.build.specs.Interleaving.{FindsFirst}

-- the laws of boards that can't go on, as premises
pub record BoardLaws : Type 0 where
  pub some : (problem : Problem) (run : Run) → IsProblem problem → IsReplay problem run
      → ((worker : ℕ) → vertex_out run.history worker ≡ None)
      → ((vertex : ℕ) → ¬ IsReady problem run.history vertex)
      → ¬ (IsSettled run.history problem.target × HasTree problem problem.target)
      → (vertex : ℕ) × IsSettled run.history vertex × HasCause problem vertex
  pub first : (problem : Problem) (run : Run) → IsProblem problem → IsReplay problem run → NeedsAll problem → HasLinesInOrder problem
      → ((worker : ℕ) → vertex_out run.history worker ≡ None)
      → ((vertex : ℕ) → ¬ IsReady problem run.history vertex)
      → ¬ (IsSettled run.history problem.target × HasTree problem problem.target)
      → (first : ℕ) → ((other : ℕ) → IsSettled run.history other → HasCause problem other → line_at problem first ≤ line_at problem other)
      → (vertex : ℕ) → HasCause problem vertex → line_at problem first ≤ line_at problem vertex

-- a plan that stands for a file whose lines ascend and whose target needs all its stages
pub record IsFilePlan {C : Type 0} (plan : PlanValue C) (rows : Rows) (target : ℕ) : Type 0 where
  pub means : Means plan rows target
  pub stands : StandsFor plan rows target
  pub order : IsInOrder rows
  pub needs : NeedsAllStages rows target
  pub is : IsPlan plan

-- another plan means the same, needs all its vertices and has its lines in order
pub record IsSolvable {C : Type 0} (out : Out) (plan new : PlanValue C) : Type 0 where
  pub is : IsPlan new
  pub lined : AreLined new.graph
  pub order : LinesInOrder new.graph
  pub keeps : KeepsMeaning plan new
  pub needs : NeedsAll (problem_of out new)

finds : {C : Type 0} (laws : BoardLaws) (out : Out) (plan new : PlanValue C) (rows : Rows) (target : ℕ) → IsFilePlan plan rows target → IsSolvable out plan new
    → FindsFirst out new rows
finds laws out plan new rows target file new_is run ends =
    let problem = problem_of out new in
    let is : IsProblem problem = plan-problem out new new_is.is in (
      laws.some problem run is ends.replay ends.idle ends.none ends.treeless,
      λ line cause settled.
          subst (λ s. serial (world out s) rows ≡ Some (line, cause)) (sym new_is.keeps.sources)
          (first_is out plan new rows target settled.vertex line cause file.means file.order (stands_needed out plan rows target file.stands file.needs)
          new_is.lined new_is.is new_is.keeps new_is.needs settled.value settled.on (λ other why fails.
          subst (λ (l : ℕ). l ≤ line_at problem other) (sym settled.on)
          (laws.first problem run is ends.replay new_is.needs (in_order_least out new new_is.order new_is.lined) ends.idle ends.none ends.treeless
          settled.vertex (λ o s c. subst (λ (l : ℕ). l ≤ line_at problem o) settled.on (settled.least o s c)) other (why, fails)))).1,
    )

itself : {C : Type 0} (plan : PlanValue C) → KeepsMeaning plan plan
itself plan = record {
  config = refl;
  sources = refl;
  last = λ out. refl;
  failures = λ out line cause. (λ f. f, λ f. f);
}

lowered_is : {C : Type 0} (out : Out) (plan : PlanValue C) (rows : Rows) (target : ℕ) → IsFilePlan plan rows target → IsSolvable out plan plan
lowered_is out plan rows target file = record {
  is = file.is;
  lined = file.stands.lined;
  order = stands_in_order plan rows target file.stands file.order;
  keeps = itself plan;
  needs = stands_needed out plan rows target file.stands file.needs;
}

pruned_is : {C : Type 0} (out : Out) (plan old new : PlanValue C) → IsSolvable out plan old → IsPlan new → IsPruned old new → IsSolvable out plan new
pruned_is out plan old new was is pruned = record {
  is = is;
  lined = λ id within. lined old new id was.lined pruned within;
  order = pruned_in_order old new pruned was.order;
  keeps = kept_on plan old new was.keeps (pruned_keeps old new pruned was.is.graph is.graph);
  needs = pruned_needs old new pruned out;
}

flat_is : {C : Type 0} (out : Out) (plan old new : PlanValue C) → IsSolvable out plan old → IsPlan new → IsFlattened old new → IsSolvable out plan new
flat_is out plan old new was is flattened = record {
  is = is;
  lined = λ id within. flat_lined old new id was.lined flattened within;
  order = flat_in_order old new flattened was.order;
  keeps = kept_on plan old new was.keeps (flat_keeps old new flattened was.is.graph is.graph);
  needs = flat_needs old new flattened out;
}

pub lowered_finds : {C : Type 0} (laws : BoardLaws) (out : Out) (plan : PlanValue C) (rows : Rows) (target : ℕ) → IsFilePlan plan rows target → FindsFirst out plan rows
lowered_finds laws out plan rows target file = finds laws out plan plan rows target file (lowered_is out plan rows target file)

pub pruned_finds : {C : Type 0} (laws : BoardLaws) (out : Out) (plan pruned : PlanValue C) (rows : Rows) (target : ℕ) → IsFilePlan plan rows target → IsPlan pruned
    → IsPruned plan pruned → FindsFirst out pruned rows
pruned_finds laws out plan pruned rows target file is kept =
    finds laws out plan pruned rows target file (pruned_is out plan plan pruned (lowered_is out plan rows target file) is kept)

pub flat_finds : {C : Type 0} (laws : BoardLaws) (out : Out) (plan flat : PlanValue C) (rows : Rows) (target : ℕ) → IsFilePlan plan rows target → IsPlan flat
    → IsFlattened plan flat → FindsFirst out flat rows
flat_finds laws out plan flat rows target file is flattened =
    finds laws out plan flat rows target file (flat_is out plan plan flat (lowered_is out plan rows target file) is flattened)

pub both_find : {C : Type 0} (laws : BoardLaws) (out : Out) (plan flat pruned : PlanValue C) (rows : Rows) (target : ℕ) → IsFilePlan plan rows target → IsPlan flat
    → IsFlattened plan flat → IsPlan pruned → IsPruned flat pruned → FindsFirst out pruned rows
both_find laws out plan flat pruned rows target file is_flat flattened is kept =
    finds laws out plan pruned rows target file
    (pruned_is out plan flat pruned (flat_is out plan plan flat (lowered_is out plan rows target file) is_flat flattened) is kept)
