use Rattle.std.proofs.Common.{◌≡◌, ◌∙◌, sym, subst}
use Rattle.globs.specs.declared.component.Shape.{Shape}
use Rattle.globs.specs.declared.component.Shape.TheVariants.{Parts}
use Rattle.globs.specs.Component.{plain_parts, relates_to_name, HasEnd}
use Rattle.globs.specs.PrivateShape.{ending_parts, beginning_parts, parts_in, ending_in}
use Rattle.globs.proofs.Ends.{unended}
use Rattle.globs.proofs.Tests.{matched}
use Rattle.globs.proofs.component.Component.matches.Goals as goal

pub returns-in-Plain : goal.returns-in-Plain
returns-in-Plain c =
    let parts : plain_parts c.as_str.result.now ≡ c.args.self.now = cc in
    matched _ _ _ c.is_name.ensures ∙ (λ i. relates_to_name (parts i) (c.as_str-in-Plain.ensures i))

pub returns-in-Ending : goal.returns-in-Ending
returns-in-Ending c =
    let parts : ending_parts c.as_str-in-Ending.result.now ≡ c.args.self.now = cc in
    matched _ (ending_parts c.as_str-in-Ending.result.now) c.as_str-in-Ending-2.result.now c.is_ending.ensures ∙ (λ i. relates_to_name (parts i) (c.as_str-in-Ending-2.ensures i))

pub returns-in-Beginning : goal.returns-in-Beginning
returns-in-Beginning c =
    let parts : beginning_parts c.as_str-in-Beginning.result.now ≡ c.args.self.now = cc in
    matched _ (beginning_parts c.as_str-in-Beginning.result.now) c.as_str-in-Beginning-2.result.now c.is_beginning.ensures ∙ (λ i. relates_to_name (parts i) (c.as_str-in-Beginning-2.ensures i))

pub returns-then-has_end : goal.returns-then-has_end
returns-then-has_end c =
    let parts : c.as_slice.result.now ≡ c.args.self.now = cc in
    matched _ c.as_slice.result.now c.as_str-then-has_end.result.now ((λ h. (c.as_str-then-has_end.utf8, c.name_can_be_cut.ensures.0 h)), (λ r. c.name_can_be_cut.ensures.1 r.1))
    ∙ (λ i. relates_to_name (parts i) (c.as_str-then-has_end.ensures i))

pub returns-else-has_end : goal.returns-else-has_end
returns-else-has_end c =
    let parts : c.in-Parts.parts ≡ c.args.self.now = cc in
    let shape : c.self.inside.shape ≡ Parts c.in-Parts.parts c.in-Parts.end = cc in
    let known : HasEnd c.in-Parts.parts c.in-Parts.end = subst (λ (s : Shape). HasEnd (parts_in c.self.inside.front s) (ending_in c.self.inside.front s)) shape c.self.invariant.1 in
    matched _ c.in-Parts.parts c.as_str-in-Parts-2.result.now (unended _ c.in-Parts.parts c.as_str-in-Parts.result.now c.as_str-in-Parts-2.result.now (subst (HasEnd c.in-Parts.parts) (sym c.as_str-in-Parts.ensures) known) c.has_end.ensures c.if-has_end.false)
    ∙ (λ i. relates_to_name (parts i) (c.as_str-in-Parts-2.ensures i))
