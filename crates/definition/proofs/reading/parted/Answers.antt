use Rattle.std.proofs.Common.{ap, ◌∙◌}
use Rattle.std.specs.List.{list_any}
use Rattle.definition.specs.Reading.{is_end}
use Rattle.serde_json.specs.View.{view}
use Rattle.definition.proofs.ShapeFacts.{ended, parted-has, parted-none, parted-some}
use Rattle.definition.proofs.reading.parted.Goals as goal

pub returns-then-has_end : goal.returns-then-has_end
returns-then-has_end c = parted-has view c.args.values.items c.pop.new.self.items c.in_ok-end.end (ended _ _ c.pop.result c.in_ok-end.end c.pop.ensures.items c.in_ok-end.was) c.has_end.result (c.has_end.ensures ∙ ap (list_any (λ v. is_end (view v))) c.as_slice.ensures.value) c.if-has_end.true

pub returns-then-not-is_end : goal.returns-then-not-is_end
returns-then-not-is_end c = parted-none view c.args.values.items c.pop.new.self.items c.in_ok-end.end (ended _ _ c.pop.result c.in_ok-end.end c.pop.ensures.items c.in_ok-end.was) c.has_end.result c.is_end.result (c.has_end.ensures ∙ ap (list_any (λ v. is_end (view v))) c.as_slice.ensures.value) c.if-has_end.false c.is_end.ensures c.if-not-is_end.true

pub returns : goal.returns
returns c = parted-some view c.args.values.items c.pop.new.self.items c.in_ok-end.end (ended _ _ c.pop.result c.in_ok-end.end c.pop.ensures.items c.in_ok-end.was) c.has_end.result c.is_end.result (c.has_end.ensures ∙ ap (list_any (λ v. is_end (view v))) c.as_slice.ensures.value) c.if-has_end.false c.is_end.ensures c.if-not-is_end.false
