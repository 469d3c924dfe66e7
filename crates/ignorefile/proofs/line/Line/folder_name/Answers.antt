use Rattle.std.proofs.Common.{sym, ◌∙◌}
use Rattle.ignorefile.proofs.Lines.{lies-in}
use Rattle.ignorefile.proofs.line.Line.folder_name.Goals as goal

pub returns-else-takes_any : goal.returns-else-takes_any
returns-else-takes_any c = lies-in c.args.self.now _ c.folder-item.result c.last-item.result _ c.as_slice.ensures c.in-len2-up.len_at_least c.last-item.is c.folder-item.is (sym c.takes_any.ensures ∙ c.if-takes_any.false) c.only_name.ensures
