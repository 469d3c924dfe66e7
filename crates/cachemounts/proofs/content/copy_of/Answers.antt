use Rattle.std.proofs.Common.{sym, ◌∙◌, rules}
use Rattle.cachemounts.proofs.ContentLemmas.{content-seen, content-none}
use Rattle.cachemounts.proofs.content.copy_of.Goals as goal

pub returns-in_ok-copy-in-Some : goal.returns-in_ok-copy-in-Some
returns-in_ok-copy-in-Some c = content-seen c.as_slice-list.result.now c.args.contents.now c.args.id.now c.args.slot c.in-Some.at c.index-list-at.result c.in_ok-copy-in-Some.field-0 c.as_slice-list.ensures c.in-Some.ensures.found c.in_ok-copy-in-Some.ensures

pub returns-in-None : goal.returns-in-None
returns-in-None c = c.empty.ensures ∙ sym (content-none c.args.contents.now c.args.id.now c.args.slot (search rules))
