use Rattle.dockerfile.proofs.FaultsFacts.{first_is_refusal, refused_is_first, none_is_read, read_has_none}
use Rattle.dockerfile.proofs.laws.the_first_fault_is_the_refusal.Goals as goal

pub returns : goal.returns
returns c =
    let either = c.lines_are_spelled_or_refused.ensures.either in
    record { first = first_is_refusal either; refused = refused_is_first either; free = none_is_read either; read = read_has_none either }
