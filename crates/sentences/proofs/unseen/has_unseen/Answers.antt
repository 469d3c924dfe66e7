use Rattle.std.proofs.Common.{◌∙◌, List, ℕ, ap, sym, map-id}
use Rattle.std.specs.List.{list_any}
use Rattle.std.proofs.lemmas.Iterator.{YieldsList-from_chars}
use Rattle.std.proofs.lemmas.Iterator.Consumers.{YieldsList-end}
use Rattle.sentences.specs.Unseen.{has_unseen, is_unseen}
use Rattle.sentences.proofs.unseen.has_unseen.Goals as goal

pub returns : goal.returns
unfolding has_unseen
returns c =
    let all =
    YieldsList-end (YieldsList-from_chars c.args.text.now c.utf8.text cc) c.loop-character.yielded _ c.loop-character.yielded_by _ _ c.in-None.is c.next.ensures.steps in
    c.loop-character.invariant ∙ ap (list_any is_unseen) (sym (map-id c.loop-character.yielded) ∙ all.0)
