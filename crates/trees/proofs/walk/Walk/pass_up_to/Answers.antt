use Rattle.std.proofs.Common.{ap, sym, ◌∙◌, ◌++◌, ◌∷◌, Option, drop}
use Rattle.trees.specs.declared.lent_entry.LentEntry.{LentEntry}
use Rattle.trees.specs.Rows.{lent_names, entry_of}
use Rattle.trees.specs.Walk.{WalkValue}
use Rattle.trees.specs.PrivateWalk.{root_row, left_below_root}
use Rattle.trees.proofs.WalkSteps.{passed_left}
use Rattle.trees.proofs.walk.Walk.pass_up_to.Goals as goal

pub returns-in-Some-clause-last : goal.returns-in-Some-clause-last
returns-in-Some-clause-last c = λ _. (
  entry_of c.in-Some.field-0,
  ap (λ (w : WalkValue). w.left) (sym c.self.view_is)
      ∙ ap (λ (r : Option LentEntry). root_row (lent_names c.self.inside.names.items) r ++ left_below_root c.self.inside.names c.self.inside.above c.self.inside.kids) (sym c.take.ensures.value ∙ c.in-Some.is)
      ∙ ap (λ (r : Option LentEntry). (lent_names c.self.inside.names.items, entry_of c.in-Some.field-0) ∷ (root_row (lent_names c.self.inside.names.items) r ++ left_below_root c.self.inside.names c.self.inside.above c.self.inside.kids)) (sym c.take.ensures.after),
)

pub returns-in-None-clause-left : goal.returns-in-None-clause-left
returns-in-None-clause-left c =
    ap (λ (r : Option LentEntry). root_row (lent_names c.step_up_to.new.names.items) r ++ left_below_root c.step_up_to.new.names c.step_up_to.new.above c.step_up_to.new.kids) c.take.ensures.after
    ∙ (passed_left c.step_up_to.result c.args.most _ _ _ c.step_up_to.ensures.passed c.step_up_to.ensures.end).0
    ∙ ap (drop c.step_up_to.result)
    (sym (ap (λ (w : WalkValue). w.left) (sym c.self.view_is)
    ∙ ap (λ (r : Option LentEntry). root_row (lent_names c.self.inside.names.items) r ++ left_below_root c.self.inside.names c.self.inside.above c.self.inside.kids) (sym c.in-None.ensures.value)))
