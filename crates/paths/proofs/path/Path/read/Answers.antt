use Rattle.paths.specs.Reading.{pieces}
use Rattle.paths.proofs.ReadingLaws.{names-walked, whole-pieces}
use Rattle.paths.proofs.WalkLaws.{names_kept, few_kept}
use Rattle.paths.proofs.path.Path.read.Goals as goal

pub path-requires-clause-names : goal.path-requires-clause-names
path-requires-clause-names c =
    names_kept _ _ _ c.in_ok-walk.ensures (names-walked c.start.result.now (pieces c.args.text.now) c.start.ensures.clean.names (whole-pieces c.args.text.now))

pub path-requires-clause-few : goal.path-requires-clause-few
path-requires-clause-few c = few_kept _ _ _ c.in_ok-walk.ensures
