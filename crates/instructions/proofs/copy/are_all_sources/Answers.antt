use Rattle.std.proofs.Common.{sym, ◌∙◌}
use Rattle.std.proofs.lemmas.List.{at_drop_all}
use Rattle.instructions.specs.Copy.{are_all_sources}
use Rattle.instructions.specs.PrivateLent.{lent_texts}
use Rattle.instructions.proofs.TextLemmas.{none_left}
use Rattle.instructions.proofs.copy.are_all_sources.Goals as goal

pub returns : goal.returns
returns c =
    c.is_empty-2.ensures ∙ sym (none_left c.loop-text.left.now)
    ∙ sym (at_drop_all (λ ts. are_all_sources c.loop-text.left.now (lent_texts ts)) c.args.texts.now c.loop-text.text-index c.loop-text-test.false) ∙ c.loop-text.invariant
