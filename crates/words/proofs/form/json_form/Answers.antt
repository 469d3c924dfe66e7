use Rattle.std.proofs.Common.{sym}
use Rattle.words.proofs.FormLaws.{no_json_form}
use Rattle.words.proofs.form.json_form.Goals as goal

pub returns-then-not-begins_list : goal.returns-then-not-begins_list
returns-then-not-begins_list c = sym (no_json_form c.args.text.now (cc))
