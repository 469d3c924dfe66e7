use Rattle.std.proofs.Common.{rules, ◌==◌, not}
use Rattle.std.proofs.lemmas.Fn.{filter_same}
use Rattle.cachemounts.specs.declared.holds.Hold.{Hold}
use Rattle.cachemounts.proofs.holds.drop_holder.Goals as goal

pub returns : goal.returns
returns c = filter_same _ (λ (hold : Hold). not (hold.holder == c.args.holder)) _ (λ x b q h. search rules) _ _ c.retain.ensures.filtered
