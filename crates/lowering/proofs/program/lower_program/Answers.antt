use Rattle.std.proofs.Common.{◌≡◌, ℕ, List, Option, Some, subst, sym, ap}
use Rattle.std.specs.Prelude.{slice_get}
use Rattle.llb.specs.Graph.{IsGraph}
use Rattle.lowering.proofs.PlanFacts.{stands_means, put_stands, no_room, rows_known}
use Rattle.lowering.proofs.program.lower_program.Goals as goal

pub lower_rows-requires-clause-room : goal.lower_rows-requires-clause-room
lower_rows-requires-clause-room g c =
    record { sources = c.args.sources; has = c.requires.named; room = no_room c.args.rows c.args.sources c.requires.images c.requires.steps }

pub find_tip-tip-requires : goal.find_tip-tip-requires
find_tip-tip-requires g c =
    subst (λ (ts : List (Option ℕ)). (id : ℕ) × (slice_get ts c.args.target ≡ Some (Some id))) (sym c.as_slice.ensures) (c.in_ok-graph.ensures.there c.args.target c.requires.target.0 c.requires.target.1)

pub new-requires-clause-target : goal.new-requires-clause-target
new-requires-clause-target g c =
    c.in_ok-graph.ensures.inside c.args.target c.find_tip-tip.result (subst (λ (ts : List (Option ℕ)). slice_get ts c.args.target ≡ Some (Some c.find_tip-tip.result)) c.as_slice.ensures c.find_tip-tip.ensures)

pub new-requires-clause-sources : goal.new-requires-clause-sources
new-requires-clause-sources g c = rows_known c.args.rows _ _ c.args.sources c.in_ok-graph.ensures c.requires.named c.requires.images c.requires.steps

pub returns-clause-stands : goal.returns-clause-stands
returns-clause-stands g c =
    let at = subst (λ (ts : List (Option ℕ)). slice_get ts c.args.target ≡ Some (Some c.find_tip-tip.result)) c.as_slice.ensures c.find_tip-tip.ensures in
    put_stands c.new.result c.args.rows c.args.target c.find_tip-tip.result _ _ c.args.config c.args.sources c.in_ok-graph.ensures at c.new.ensures

pub returns-clause-means : goal.returns-clause-means
returns-clause-means g c =
    let at = subst (λ (ts : List (Option ℕ)). slice_get ts c.args.target ≡ Some (Some c.find_tip-tip.result)) c.as_slice.ensures c.find_tip-tip.ensures in
    stands_means c.new.result c.args.rows c.args.target (subst IsGraph (sym (ap (λ p. p.graph) c.new.ensures)) c.vertices-known.ensures.graph)
    (put_stands c.new.result c.args.rows c.args.target c.find_tip-tip.result _ _ c.args.config c.args.sources c.in_ok-graph.ensures at c.new.ensures)
