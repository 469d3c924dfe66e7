use Rattle.std.proofs.Common.{sym, ◌∙◌}
use Rattle.ignorefile.proofs.Leaving.{dead}
use Rattle.ignorefile.proofs.line.Line.is_dead_in.Goals as goal

pub returns-then-not-takes_any : goal.returns-then-not-takes_any
returns-then-not-takes_any c = dead c.args.self.now _ _ c.args.folder.now c.as_slice.ensures c.in-len1-up.len_at_least c.last-item.is (sym c.takes_any.ensures ∙ c.if-not-takes_any.true) _ c.can_be_cut.ensures
