use Rattle.std.proofs.Common.{◌≡◌, ◌∙◌, sym, ap, subst, IfOk, Option}
use Rattle.std.proofs.lemmas.Bool.{false_from_ne_true}
use Rattle.std.proofs.lemmas.Str.{IsUtf8-from_is_utf8, is_utf8-from_IsUtf8}
use Rattle.std.specs.Str.{is_utf8}
use Rattle.ascii.specs.Blanks.{trimmed}
use Rattle.ignorefile.specs.declared.line.Line.{Line}
use Rattle.ignorefile.specs.File.{body_of}
use Rattle.ignorefile.proofs.Bodies.{line-bad, line-comment, line-body}
use Rattle.ignorefile.proofs.file.read_line.Goals as goal

pub returns-in-Err : goal.returns-in-Err
returns-in-Err c = sym (line-bad c.args.bytes.now (false_from_ne_true (is_utf8 c.args.bytes.now) (λ h. c.in-Err.ensures.cases.0 (IsUtf8-from_is_utf8 c.args.bytes.now h))))

pub returns-then-is_comment : goal.returns-then-is_comment
returns-then-is_comment c = sym (line-comment c.args.bytes.now (is_utf8-from_IsUtf8 c.args.bytes.now c.in-Ok.ensures.cases.1) (sym c.is_comment.ensures ∙ c.if-is_comment.true))

pub returns-else-is_comment : goal.returns-else-is_comment
returns-else-is_comment c =
    let said = line-body c.args.bytes.now (is_utf8-from_IsUtf8 c.args.bytes.now c.in-Ok.ensures.cases.1) (sym c.is_comment.ensures ∙ c.if-is_comment.false) in
    let same = ap (λ t. body_of t) (c.trimmed.ensures ∙ ap (λ t. trimmed t) c.in-Ok.ensures.cases.0) ∙ sym said in
    subst (λ (said : Option (Option Line)). IfOk c.read_body.result (λ found. found ≡ said)) same c.read_body.ensures
