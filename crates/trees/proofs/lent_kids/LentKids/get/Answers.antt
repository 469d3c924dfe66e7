use Rattle.std.proofs.Common.{◌∙◌, sym, ap, Some, option_map}
use Rattle.std.specs.Map.{lookup}
use Rattle.std.specs.BTreeMap.{is_at}
use Rattle.paths.specs.Order.{name_cmp}
use Rattle.trees.specs.PrivateSeen.{seen}
use Rattle.trees.proofs.SeenSteps.{lookup-seen}
use Rattle.trees.proofs.lent_kids.LentKids.get.Goals as goal

pub returns-in-Some : goal.returns-in-Some
returns-in-Some c =
    ap Some c.of.ensures ∙ ap (option_map (seen c.self.inside.options)) c.in-Some.ensures.value ∙ sym (lookup-seen c.self.inside.options c.args.name.now c.self.inside.kids.now) ∙ ap (lookup (is_at (name_cmp c.args.name.now))) c.self.view_is

pub returns-in-None : goal.returns-in-None
returns-in-None c =
    ap (option_map (seen c.self.inside.options)) c.in-None.ensures.value ∙ sym (lookup-seen c.self.inside.options c.args.name.now c.self.inside.kids.now) ∙ ap (lookup (is_at (name_cmp c.args.name.now))) c.self.view_is
