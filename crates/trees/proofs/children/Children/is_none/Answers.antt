use Rattle.std.proofs.Common.{sym, ◌∙◌, ap, ◌==◌}
use Rattle.std.proofs.lemmas.Bool.{eqb-true}
use Rattle.trees.proofs.PartSteps.{no-parts}
use Rattle.trees.proofs.children.Children.is_none.Goals as goal

pub returns : goal.returns
returns c =
    let h = no-parts c.self.inside.parts.items c.args.self.now c.self.invariant c.self.view_is in
    (λ t. h.0 (sym c.self.inside.parts.ok.0 ∙ eqb-true c.self.inside.parts.len 0 (sym c.is_empty.ensures ∙ t)), λ e. c.is_empty.ensures ∙ ap (λ n. n == 0) (c.self.inside.parts.ok.0 ∙ h.1 e))
