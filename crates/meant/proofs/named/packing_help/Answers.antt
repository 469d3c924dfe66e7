use Rattle.std.proofs.Common.{◌≡◌, ◌∙◌, ◌++◌, List, ℕ, Bor, IfOk, codes, map, subst}
use Rattle.std.specs.String.{string_bytes}
use Rattle.meant.specs.Named.{listed_help}
use Rattle.meant.proofs.named.packing_help.Goals as goal

pub returns : goal.returns
returns c =
    let names = map (λ (n : Bor (List ℕ)). n.now) c.args.names.now in
    let other : c.as_str.result.now ≡ codes "pack the image by --image " ++ (c.args.name.now ++ codes "=FILE") = c.as_str.ensures.value ∙ c.in_ok-other.ensures.ok in
    subst (λ (text : List ℕ). IfOk c.listed_help.result (λ it. string_bytes it ≡ listed_help names text)) other c.listed_help.ensures
