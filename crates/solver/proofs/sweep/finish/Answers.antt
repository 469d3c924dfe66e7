use Rattle.std.proofs.Common.{refl}
use Rattle.solver.proofs.sweep.finish.Goals as goal

pub finish_alone-requires-clause-named : goal.finish_alone-requires-clause-named
finish_alone-requires-clause-named g c κs within = record { same_out = refl; same_values = refl }

pub finish_alone-requires-clause-stays : goal.finish_alone-requires-clause-stays
finish_alone-requires-clause-stays g c κs within = λ request trees known. absurd known
