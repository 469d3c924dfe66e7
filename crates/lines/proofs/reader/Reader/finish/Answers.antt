use Rattle.std.proofs.Common.{List, ℕ, subst}
use Rattle.lines.specs.Reader.{Holds}
use Rattle.lines.specs.Text.{ReadsText}
use Rattle.lines.specs.declared.kept.Kept.{Kept}
use Rattle.lines.proofs.reader.Reader.finish.Goals as goal

pub returns : goal.returns
returns c = subst (λ (kept : Kept). (text : List ℕ) → Holds kept text → ReadsText text c.finish.result) c.self.view_is c.finish.ensures
