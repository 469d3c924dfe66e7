use Rattle.std.proofs.Common.{take, sym, ◌∙◌}
use Rattle.entries.specs.PrivatePrinting.{rows_text}
use Rattle.entries.proofs.TogetherFacts.{printed-whole}
use Rattle.entries.proofs.together.print_rows.Goals as goal

pub returns-in-Ok-clause-text : goal.returns-in-Ok-clause-text
returns-in-Ok-clause-text c = λ ok.
    printed-whole _ _ (rows_text c.args.later (take 2048 c.args.walk.now.left)) _ _ _ _ _ c.requires.empty c.in-Ok.ensures c.put_rows.ensures.says c.finish.ensures (sym c.is_ok.ensures.value ∙ ok)
