use Rattle.fileactions.proofs.Placed.{root-place}
use Rattle.fileactions.proofs.Plans.{plan-gives}
use Rattle.fileactions.proofs.laws.a_plan_gives_its_trees.Goals as goal

pub returns : goal.returns
returns c = λ finder world trees options names graph places definition placed are named gives made finds.
    plan-gives c.a_text_relates_by_grammar_and_cuts.ensures finder world gives trees graph.vertices places are named made finds
    (root-place options names graph.places graph.vertices (places, definition) are placed)
