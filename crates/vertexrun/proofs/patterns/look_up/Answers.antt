use Rattle.std.proofs.Common.{◌≡◌, ◌∙◌, [], ◌∷◌, ◌++◌, Some, ap, not, subst}
use Rattle.paths.specs.Reading.{read_from, limit_of}
use Rattle.vertexrun.proofs.LookUps.{found-one, found-none, found-beyond, nothing-there, something-there}
use Rattle.vertexrun.proofs.patterns.look_up.Goals as goal

pub returns-in-Err-Because : goal.returns-in-Err-Because
returns-in-Err-Because c =
    c.new.ensures
    ∙ found-beyond c.args.from.now c.args.pattern.now c.in-Err-Because.field-0-0 c.root-root.ensures.tree c.utf8.pattern c.requires
    (subst (λ root. limit_of (read_from c.args.pattern.now root) ≡ Some c.in-Err-Because.field-0-0) c.root.ensures
    (rw c.in-Err-Because.field-0-is at c.in-Err-Because.ensures))

pub returns-then-is_none : goal.returns-then-is_none
returns-then-is_none c =
    c.new-then-is_none.ensures
    ∙ found-none c.args.from.now c.args.pattern.now c.in-Ok.path c.utf8.pattern c.requires (c.in-Ok.ensures.0 ∙ ap (read_from c.args.pattern.now) c.root.ensures)
    (nothing-there c.get.result _ c.get.ensures (c.is_none.ensures ∙ ap not c.if-is_none.true))

pub returns : goal.returns
returns c =
    c.from_vec.ensures ∙ c.in_ok-push.ensures.items ∙ ap (λ paths. paths ++ c.in-Ok.path ∷ []) c.new-paths.ensures.items
    ∙ found-one c.args.from.now c.args.pattern.now c.in-Ok.path c.utf8.pattern c.requires (c.in-Ok.ensures.0 ∙ ap (read_from c.args.pattern.now) c.root.ensures)
    (something-there c.get.result _ c.get.ensures (c.is_none.ensures ∙ ap not c.if-is_none.false))
