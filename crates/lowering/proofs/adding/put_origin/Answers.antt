use Rattle.std.proofs.Common.{sym, subst, IfOk}
use Rattle.rows.specs.WellFormed.{HasTree}
use Rattle.lowering.specs.PrivateGrowth.{IsOriginPut}
use Rattle.lowering.proofs.InputFacts.{source_ok, tip_is}
use Rattle.lowering.proofs.adding.put_origin.Goals as goal

pub put-requires-clause-room : goal.put-requires-clause-room
put-requires-clause-room c = record {
  sources = c.requires.room.sources;
  has = subst (HasTree c.requires.room.sources) c.in-Source.is c.requires.room.has;
  room = c.requires.room.room;
}

pub returns-in-Source : goal.returns-in-Source
returns-in-Source c =
    subst (λ o. IfOk c.put.result (IsOriginPut c.args.graph.now c.put.new.graph c.args.tips.now c.args.line o)) (sym c.in-Source.is)
    (source_ok _ _ c.args.tips.now c.in-Source.source c.args.line _ c.put.result c.new.ensures c.put.ensures)

pub returns-in-Stage : goal.returns-in-Stage
returns-in-Stage c =
    subst (λ o. IsOriginPut c.args.graph.now c.args.graph.now c.args.tips.now c.args.line o c.find_tip.result) (sym c.in-Stage.is)
    (tip_is c.args.graph.now c.args.tips.now c.args.line c.in-Stage.number c.find_tip.result c.requires.inside c.find_tip.ensures)
