use Rattle.std.proofs.Common.{ℕ, List, IsTrue, ◌↔◌, subst}
use Rattle.vertexrun.specs.PrivateMatches.{BeginsAs}
use Rattle.vertexrun.proofs.FrontSteps.{begins-both}
use Rattle.vertexrun.proofs.patterns.begins_as.Goals as goal

pub returns : goal.returns
returns c =
    subst (λ (front : List ℕ). IsTrue c.starts_with.result ↔ BeginsAs front c.args.name.now) c.as_str-2.ensures
    (subst (λ (name : List ℕ). IsTrue c.starts_with.result ↔ BeginsAs c.as_str-2.result.now name) c.as_str.ensures (begins-both c.starts_with.result _ _ c.starts_with.ensures.cases))
