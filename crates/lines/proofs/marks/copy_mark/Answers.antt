use Rattle.ascii.proofs.NameLaws.{is_name-utf8}
use Rattle.lines.proofs.marks.copy_mark.Goals as goal

pub text_of-requires : goal.text_of-requires
text_of-requires c = is_name-utf8 _ c.args.written.has_name
