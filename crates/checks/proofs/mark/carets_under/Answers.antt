use Rattle.std.proofs.Common.{◌∙◌, ◌++◌, [], List, ℕ, ap, sym, map-id}
use Rattle.std.specs.List.{flat_map}
use Rattle.std.proofs.lemmas.Iterator.{YieldsList-from_chars}
use Rattle.std.proofs.lemmas.Iterator.Consumers.{YieldsList-end}
use Rattle.std.proofs.lemmas.List.{flat_map_more}
use Rattle.checks.specs.Mark.{caret_under}
use Rattle.checks.proofs.mark.carets_under.Goals as goal

pub loop-character-preserved : goal.loop-character-preserved
loop-character-preserved c =
    c.in_ok-push_str.ensures.bytes ∙ ap (λ (text : List ℕ). text ++ caret_under c.in-Some._character) c.loop-character.invariant
    ∙ flat_map_more caret_under [] c.loop-character.yielded c.in-Some._character

pub returns : goal.returns
returns c =
    let all =
    YieldsList-end (YieldsList-from_chars c.args.text.now c.utf8.text cc) c.loop-character.yielded _ c.loop-character.yielded_by _ _ c.in-None.is c.next.ensures.steps in
    c.loop-character.invariant ∙ ap (flat_map caret_under) (sym (map-id c.loop-character.yielded) ∙ all.0)
