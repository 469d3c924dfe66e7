use Rattle.std.proofs.Common.{ℕ, List, not, ap, subst, ◌∙◌}
use Rattle.memchr.specs.Find.{IsFirstByte, is_byte}
use Rattle.lines.proofs.MarkLaws.{none_marked}
use Rattle.lines.proofs.marks.is_unmarked.Goals as goal

pub returns : goal.returns
returns c =
    let searched : IsFirstByte (is_byte 60) c.args.text.now c.memchr.result = subst (λ (bytes : List ℕ). IsFirstByte (is_byte 60) bytes c.memchr.result) c.as_bytes.ensures.value c.memchr.ensures in
    λ is. none_marked c.args.text.now c.memchr.result searched (c.is_none.ensures ∙ ap not is)
