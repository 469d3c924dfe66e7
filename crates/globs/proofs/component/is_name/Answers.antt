use Rattle.std.proofs.Common.{◌≡◌, IsTrue, rules}
use Rattle.globs.proofs.PlainNames.{relates-plain}
use Rattle.globs.proofs.component.is_name.Goals as goal

pub returns : goal.returns
returns c =
    let both = relates-plain c.args.own.now c.args.name.now c.utf8.own in
    let to : IsTrue c.eq.result → c.args.own.now ≡ c.args.name.now = search rules in
    let from : c.args.own.now ≡ c.args.name.now → IsTrue c.eq.result = search rules in
    ((λ h. both.0 (to h)), (λ r. from (both.1 r)))
