use Rattle.std.proofs.Common.{ap, ◌∙◌, subst}
use Rattle.std.specs.Prelude.{ℕ, List, ◌∷◌}
use Rattle.std.specs.Fmt.{styled_decimal, HasWritten}
use Rattle.plain.proofs.CodeLemmas.{two_digits}
use Rattle.plain.specs.Codes.{number_of}
use Rattle.plain.proofs.refusal.CodeDisplay.fmt.Goals as goal

pub returns-clause-writes : goal.returns-clause-writes
returns-clause-writes g c = λ is ok.
    let number = ap (styled_decimal c.laid_out.result) c.number.ensures in
    let style = ap (λ s. styled_decimal s (number_of c.args.self.now)) c.laid_out.ensures in
    subst (λ (shown : List ℕ). HasWritten {W = g.row.W.Denot} g.W.Write.write_str_gives c.args.f.now (82 ∷ shown) c.write.new.self)
    (number ∙ (style ∙ two_digits c.args.self.now))
    (c.write.ensures.writes is ok)
