use Rattle.std.proofs.lemmas.Str.{IsCharBoundary-after_ascii}
use Rattle.words.proofs.FlagLaws.{second_dash}
use Rattle.words.proofs.flag.read_flag.Goals as goal

pub range_from-text-requires : goal.range_from-text-requires
range_from-text-requires c =
    let at = second_dash c.args.piece.now c.requires in
    λ _. IsCharBoundary-after_ascii c.args.piece.now 1 c.utf8.piece at.0 at.1
