-- A plan whose graph stands for a file means the file.
use Rattle.std.proofs.Common.{◌≡◌, ◌↔◌, inl, inr, ◌<◌, ◌≤◌, ◌+◌, ◌*◌, ℕ, [], Some, None, sym, ap, ◌∙◌, arith}
use Rattle.std.specs.Prelude.{slice_get, slice_index_or, Contains}
use Rattle.std.specs.FinMap.{len}
use Rattle.std.specs.List.{All}
use Rattle.std.proofs.lemmas.List.{get_or-map}
use Rattle.std.proofs.lemmas.Option.{slice_get_within, get_or_from_slice_get}
use Rattle.llb.specs.Graph.{GraphValue, IsGraph}
use Rattle.plans.specs.Plan.{PlanValue, vertex_value}
use Rattle.plans.specs.Sources.{SourcesValue, HasSources}
use Rattle.plans.specs.Value.{World}
use Rattle.lowering.specs.Meaning.{Rows}
use Rattle.lowering.specs.Means.{world, lines_at, Means, AreLined, StandsFor}
use Rattle.lowering.specs.Vertices.{Tips, Places, HasPlace}
use Rattle.rows.specs.WellFormed.{HasTree, RowNames, count_of_steps}
use Rattle.plain.specs.Limits.{most_images, most_lines}
use Rattle.lowering.specs.PrivateRoom.{HasRoom}
use Rattle.lowering.specs.PrivateGrowth.{no_graph, Grows, AreRowsPut}
use Rattle.llb.proofs.LineFacts.{contains_nil}
use Rattle.lowering.proofs.Rooms.{room_less}
use Rattle.lowering.proofs.ValueFacts.{tip_tree, rows_are, rows_fail}

-- a plan that stands for a file means it
pub stands_means : {C : Type 0} (plan : PlanValue C) (rows : Rows) (target : ℕ) → IsGraph plan.graph → StandsFor plan rows target → Means plan rows target
unfolding vertex_value
stands_means plan rows target is stands = record {
  tree = λ out.
      let w : World = world out plan.sources in
      let within = slice_get_within stands.tips target (Some plan.target) stands.last in
      let at : slice_index_or stands.tips target None ≡ Some plan.target = get_or_from_slice_get stands.tips target (Some plan.target) None stands.last in
      let trees = rows_are w plan.graph.vertices [] rows stands.tips stands.places is.vertices stands.lowered in
      sym (ap (λ ts. slice_index_or ts target None) (sym trees)
      ∙ (get_or-map (tip_tree w plan.graph.vertices) stands.tips target None None within ∙ ap (tip_tree w plan.graph.vertices) at));
  failures = λ out line cause.
      let w : World = world out plan.sources in
      let fails = rows_fail w plan.graph.vertices [] rows stands.tips stands.places is.vertices stands.lowered in (
        λ f. fails.to line cause (record { id = f.id; place = (stands.lines f.id line).0 f.behind; value = f.value }),
        λ h. (let f = fails.from line cause h in record { id = f.id; behind = (stands.lines f.id line).1 f.place; value = f.value }),
      );
}

-- a graph that grew out of nothing has just the lines that came to it
grown_lines : (graph : GraphValue) (places : Places) → Grows no_graph graph places → (id line : ℕ)
    → Contains (lines_at graph id) line ↔ HasPlace places line id
grown_lines graph places grows id line = (
  λ h. elim ((grows.lines id line).0 h) [ inl none ↦ absurd (contains_nil line none) | inr here ↦ here ],
  λ here. (grows.lines id line).1 (inr here),
)

grown_lined : (graph : GraphValue) (places : Places) → Grows no_graph graph places → AreLined graph
grown_lined graph places grows id lt = elim (grows.more id lt) [
  | inl none ↦ absurd (omega (arith, none))
  | inr here ↦ (here.0, (grows.lines id here.0).1 (inr here.1))
]

pub put_stands : {C : Type 0} (plan : PlanValue C) (rows : Rows) (target tip : ℕ) (graph : GraphValue) (tips : Tips) (config : C)
    (sources : SourcesValue) → AreRowsPut rows graph tips → slice_get tips target ≡ Some (Some tip)
    → plan ≡ record { graph = graph; target = tip; config = config; sources = sources } → StandsFor plan rows target
put_stands plan rows target tip graph tips config sources are is made = rw made (record {
  tips = tips;
  places = are.places;
  lowered = are.are;
  order = are.grows.order;
  last = is;
  lines = grown_lines graph are.places are.grows;
  lined = grown_lined graph are.places are.grows;
})

-- a graph without a vertex has room for a file
pub no_room : (rows : Rows) (sources : SourcesValue) → len sources.images ≤ most_images → count_of_steps rows < most_lines
    → HasRoom sources no_graph (2 * count_of_steps rows)
no_room rows sources few short = record { few = few; known = λ k vertex e. absurd cc; others = omega (arith, short) }

pub rows_known : (rows : Rows) (graph : GraphValue) (tips : Tips) (sources : SourcesValue) → AreRowsPut rows graph tips
    → All (RowNames (HasTree sources)) rows → len sources.images ≤ most_images → count_of_steps rows < most_lines → HasSources sources graph.vertices
rows_known rows graph tips sources are has few short =
    (are.uses sources 0 has
    (room_less sources no_graph (2 * count_of_steps rows) (0 + 2 * count_of_steps rows) (no_room rows sources few short) (omega arith))).known
