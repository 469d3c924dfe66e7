use Rattle.std.proofs.Common.{◌≡◌, ◌<◌, ◌∙◌, Bool, List, ℕ, [], false, length, refl, sym, ap, arith}
use Rattle.std.specs.Prelude.{slice_index_or}
use Rattle.std.proofs.lemmas.List.{get_or_read}
use Rattle.std.proofs.lemmas.Option.{slice_get_read}
use Rattle.llb.specs.Graph.{GraphValue}
use Rattle.rewrite.specs.PrivateSpelled.{spelled_vertex}
use Rattle.rewrite.proofs.SpelledFacts.{spelled_more}
use Rattle.rewrite.proofs.spelled.spell_all.Goals as goal

pub loop-at-preserved : goal.loop-at-preserved
loop-at-preserved c =
    let graph : GraphValue = record { vertices = c.args.vertices.now; places = c.args.places.now } in
    let at = c.loop-at.at in
    let vertex = c.index-vertices-at.result in
    let mark : Bool = slice_index_or c.args.marks.now at false in
    let there = slice_get_read c.args.vertices.now _ at vertex refl c.loop-at-test.true c.index-vertices-at.is in
    let lines : c.as_slice-lines.result.now ≡ slice_index_or c.args.places.now at [] =
    c.as_slice-lines.ensures ∙ get_or_read c.args.places.now at c.index-places-at.result (omega (arith, c.loop-at-test.true, c.requires.graph.beside)) c.index-places-at.is [] in
    spelled_more graph c.args.marks.now c.loop-at.spelled.items c.push.new.self.items at vertex c.in_ok-one.one c.loop-at.invariant there c.in_ok-push.ensures.items
    (c.in_ok-one.ensures ∙ ap (λ (ls : List ℕ). spelled_vertex c.args.vertices.now vertex ls mark) lines)
