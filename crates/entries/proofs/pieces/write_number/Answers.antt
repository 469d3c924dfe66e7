use Rattle.std.proofs.Common.{◌++◌, take, sym, ap, ◌∙◌}
use Rattle.std.proofs.lemmas.Fmt.{decimal_digit}
use Rattle.entries.proofs.pieces.write_number.Goals as goal

pub returns-then-number-lt10-clause-front : goal.returns-then-number-lt10-clause-front
returns-then-number-lt10-clause-front c =
    ap (λ n. take n c.write_at.new.text) c.write_at.ensures.end
    ∙ c.write_at.ensures.front
    ∙ ap (λ d. take c.args.at c.args.text.now ++ d) (sym (decimal_digit c.args.number c.if-number-lt10.true))
