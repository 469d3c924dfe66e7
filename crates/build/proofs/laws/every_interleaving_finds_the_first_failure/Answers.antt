use Rattle.build.proofs.BoardFacts.{lowered_finds, pruned_finds, flat_finds, both_find}
use Rattle.build.proofs.laws.every_interleaving_finds_the_first_failure.Goals as goal

pub returns-clause-lowered : goal.returns-clause-lowered
returns-clause-lowered c =
    let laws = c.an_idle_board_has_the_first_failure.ensures in
    λ out made plan lowerable is means stands.
    lowered_finds (record { some = laws.some; first = laws.first }) out plan made.rows made.target
    (record { means = means; stands = stands; order = lowerable.order; needs = lowerable.needs; is = is })

pub returns-clause-pruned : goal.returns-clause-pruned
returns-clause-pruned c =
    let laws = c.an_idle_board_has_the_first_failure.ensures in
    λ out made plan pruned lowerable is means stands new_is kept.
    pruned_finds (record { some = laws.some; first = laws.first }) out plan pruned made.rows made.target
    (record { means = means; stands = stands; order = lowerable.order; needs = lowerable.needs; is = is }) new_is kept

pub returns-clause-flattened : goal.returns-clause-flattened
returns-clause-flattened c =
    let laws = c.an_idle_board_has_the_first_failure.ensures in
    λ out made plan flat lowerable is means stands new_is flattened.
    flat_finds (record { some = laws.some; first = laws.first }) out plan flat made.rows made.target
    (record { means = means; stands = stands; order = lowerable.order; needs = lowerable.needs; is = is }) new_is flattened

pub returns-clause-both : goal.returns-clause-both
returns-clause-both c =
    let laws = c.an_idle_board_has_the_first_failure.ensures in
    λ out made plan flat pruned lowerable is means stands flat_is flattened new_is kept.
    both_find (record { some = laws.some; first = laws.first }) out plan flat pruned made.rows made.target
    (record { means = means; stands = stands; order = lowerable.order; needs = lowerable.needs; is = is }) flat_is flattened new_is kept
