use Rattle.std.proofs.Common.{◌≡◌, ◌∙◌, ap, sym, subst, false, true≢false}
use Rattle.std.specs.List.{list_any}
use Rattle.ignorefile.specs.Walk.{DecidedValue}
use Rattle.ignorefile.specs.PrivateWalk.{may_except_below}
use Rattle.ignorefile.proofs.Reaching.{keeps_nothing}
use Rattle.ignorefile.proofs.walk.Decided.may_keep.Goals as goal

pub returns : goal.returns
returns c = λ none.
    let lines : c.self.inside.lines.now ≡ c.args.self.now.lines = ap (λ (d : DecidedValue). d.lines) c.self.view_is in
    let path : c.components.result.now ≡ c.args.self.now.path = c.components.ensures.value ∙ ap (λ (d : DecidedValue). d.path) c.self.view_is in
    keeps_nothing c.args.self.now.lines c.args.self.now.path (λ kept. true≢false (sym (c.is_kept.ensures.1 kept) ∙ c.if-is_kept.false))
    (subst (λ ls. list_any (may_except_below c.args.self.now.path) ls ≡ false) lines
    (subst (λ p. list_any (may_except_below p) c.self.inside.lines.now ≡ false) path (sym c.excepts_below.ensures ∙ none)))
