use Rattle.std.proofs.Common.{◌∙◌, sym}
use Rattle.checks.proofs.ImageFacts.{text_names, no_text_names}
use Rattle.checks.proofs.images.bytes_names.Goals as goal

pub returns-in-Ok : goal.returns-in-Ok
returns-in-Ok c = rw (text_names c.args.bytes.now c.in-Ok.ensures.cases.1, ← c.in-Ok.ensures.cases.0) c.names_in.ensures

pub returns-in-Err : goal.returns-in-Err
returns-in-Err c = c.new.ensures ∙ sym (no_text_names c.args.bytes.now c.in-Err.ensures.cases.0)
