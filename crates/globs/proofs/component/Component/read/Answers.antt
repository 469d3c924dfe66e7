use Rattle.std.proofs.Common.{◌∙◌, sym, ap, subst, Some, ℕ, List}
use Rattle.std.specs.Str.{chars}
use Rattle.globs.specs.Component.{plain_parts, HasFront, HasEnd}
use Rattle.globs.specs.PrivateShape.{ending_parts, beginning_parts}
use Rattle.globs.proofs.PlainNames.{parts_of-plain}
use Rattle.globs.proofs.Beginnings.{plain-front, beginning-front, no-front}
use Rattle.globs.proofs.Ends.{plain-end, ending-end, no-end}
use Rattle.globs.proofs.component.Component.read.Goals as goal

pub invariant_of-result : goal.invariant_of-result
invariant_of-result c = (
  subst (λ (front : List ℕ). HasFront (plain_parts front) front) (sym c.in_ok-front.ensures) (plain-front c.args.text.now c.utf8.text),
  subst (λ (front : List ℕ). HasEnd (plain_parts front) front) (sym c.in_ok-front.ensures) (plain-end c.args.text.now c.utf8.text),
)

pub returns-then-is_spelled_out : goal.returns-then-is_spelled_out
returns-then-is_spelled_out c = ap (λ name. Some (plain_parts name)) c.in_ok-front.ensures ∙ sym (parts_of-plain (chars c.args.text.now) (sym c.is_spelled_out.ensures ∙ c.if-is_spelled_out.true))

pub invariant_of-result-in-Some : goal.invariant_of-result-in-Some
invariant_of-result-in-Some c = (
  subst (HasFront (ending_parts c.in_ok-own.own)) (sym c.in_ok-front-2.ensures) (no-front (ending_parts c.in_ok-own.own)),
  subst (λ (own : List ℕ). HasEnd (ending_parts own) own) c.as_str-ending.ensures (ending-end c.as_str-ending.result.now c.as_str-ending.utf8),
)

pub invariant_of-result-in-Some-plain_beginning : goal.invariant_of-result-in-Some-plain_beginning
invariant_of-result-in-Some-plain_beginning c = (
  subst (λ (front : List ℕ). HasFront (beginning_parts front) front) c.as_str-text.ensures (beginning-front c.as_str-text.result.now c.as_str-text.utf8),
  no-end (beginning_parts c.in_ok-front-3.front),
)
