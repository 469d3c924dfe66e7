use Rattle.std.specs.List.{list_all}
use Rattle.std.proofs.lemmas.Bool.{and_parts}
use Rattle.std.proofs.lemmas.List.Splits.{join_with_byte-slice_split}
use Rattle.paths.specs.Path.{is_whole}
use Rattle.paths.proofs.ReadingLaws.{whole-pieces, pieces-join}
use Rattle.paths.proofs.laws.pieces_are_unique.Goals as goal

pub returns-clause-joined : goal.returns-clause-joined
returns-clause-joined c text = join_with_byte-slice_split 47 text

pub returns-clause-whole : goal.returns-clause-whole
returns-clause-whole c = whole-pieces

pub returns-clause-only : goal.returns-clause-only
returns-clause-only c piece ps h =
    let both = and_parts (is_whole piece) (list_all is_whole ps) h in
    pieces-join piece ps both.0 both.1
