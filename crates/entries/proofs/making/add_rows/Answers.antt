use Rattle.std.proofs.Common.{List, lit<, flat_map, subst}
use Rattle.rayon.specs.Lists.{chunks_of}
use Rattle.rayon.proofs.ToStd.{chunks_of-concat}
use Rattle.entries.specs.PrivateKeys.{AreRowsOf}
use Rattle.entries.specs.declared.spelled.Spelled.{Spelled}
use Rattle.entries.proofs.MadeFacts.{ok_then, runs_made}
use Rattle.entries.proofs.making.add_rows.Goals as goal

pub returns-then-spelled-le-RUN : goal.returns-then-spelled-le-RUN
returns-then-spelled-le-RUN g c = ok_then c.take.result _ _ (λ all. (c.in_ok-made.made.items, all, c.in_ok-made.ensures)) c.take.ensures

pub returns : goal.returns
returns g c =
    let spelled = c.args.spelled.now in
    ok_then c.add_runs.result _ _
    (λ all. (
      flat_map (λ rows. rows.items) all.0,
      all.2,
      subst (λ (l : List Spelled). AreRowsOf l (flat_map (λ rows. rows.items) all.0)) (chunks_of-concat 2048 spelled (lit< tt)) (runs_made (chunks_of 2048 spelled) c.in_ok-runs.runs.items all.0 c.in_ok-runs.ensures all.1),
    ))
    c.add_runs.ensures
