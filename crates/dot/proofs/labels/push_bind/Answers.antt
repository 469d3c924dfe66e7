use Rattle.std.proofs.Common.{◌∙◌, ap, ◌++◌, List, ℕ, string_bytes}
use Rattle.std.specs.Prelude.{codes}
use Rattle.dot.specs.Quoted.{shown}
use Rattle.dot.proofs.labels.push_bind.Goals as goal

pub returns : goal.returns
returns c =
    c.in_ok-push_quoted.ensures
    ∙ ap (λ (text : List ℕ). string_bytes c.args.out.now ++ (codes " [label=\"bind " ++ (shown text ++ codes "\" style=dotted]")))
    (c.as_str.ensures ∙ c.in_ok-target.ensures)
