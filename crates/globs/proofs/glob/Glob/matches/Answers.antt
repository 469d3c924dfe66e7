use Rattle.std.proofs.Common.{◌∙◌, ap, sym, length}
use Rattle.globs.proofs.Texts.{unequal-matches}
use Rattle.globs.proofs.glob.Glob.matches.Goals as goal

pub returns-then-len-depth : goal.returns-then-len-depth
returns-then-len-depth c = unequal-matches c.args.self.now c.args.path.now (λ e. c.if-len-depth.true (c.len.ensures ∙ ap (λ l. length l) c.self.view_is ∙ e ∙ sym c.depth.ensures))
