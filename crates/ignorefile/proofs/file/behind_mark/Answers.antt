use Rattle.std.proofs.Common.{lit<}
use Rattle.std.proofs.lemmas.Str.Pattern.{strip_prefix_char}
use Rattle.ignorefile.proofs.file.behind_mark.Goals as goal

pub returns : goal.returns
returns c = strip_prefix_char 33 _ _ c.strip_prefix.ensures.cases (lit< tt)
