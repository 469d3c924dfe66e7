use Rattle.std.proofs.Common.{◌≡◌, Some, rules, option_and_then, ap, sym, ◌∙◌}
use Rattle.strict.specs.Strict.{at_most_one}
use Rattle.bundle.specs.Digest.{digest_in}
use Rattle.bundle.proofs.FoundFacts.{image_is, lent_is_owned}
use Rattle.bundle.proofs.pulling.image_of.Goals as goal

pub returns-in-Some : goal.returns-in-Some
returns-in-Some g c ms h =
    let found = c.args.found.now in
    let tree : found.tree ≡ Some c.in-Some.tree = search rules in
    image_is g.C.FromLentKeyed.reading found ms c.in_ok-config.config c.in_ok-digest.digest c.in-Some.tree h
    (ap (option_and_then g.C.FromLentKeyed.reading) (sym (lent_is_owned c.as_ref.result found.config c.as_ref.ensures.value)) ∙ c.in_ok-config.ensures)
    (ap (at_most_one digest_in) (sym (lent_is_owned c.as_ref-2.result found.digest c.as_ref-2.ensures.value)) ∙ c.in_ok-digest.ensures)
    tree
