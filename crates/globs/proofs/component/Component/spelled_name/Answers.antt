use Rattle.std.proofs.Common.{◌≡◌, subst}
use Rattle.std.specs.Str.{IsUtf8}
use Rattle.globs.specs.Component.{plain_parts}
use Rattle.globs.proofs.PlainNames.{stands-plain}
use Rattle.globs.proofs.component.Component.spelled_name.Goals as goal

pub returns-in-Plain : goal.returns-in-Plain
returns-in-Plain c =
    let parts : plain_parts c.self.inside.front ≡ c.args.self.now = cc in
    stands-plain c.args.self.now c.self.inside.front (subst IsUtf8 c.as_str-text.ensures c.as_str-text.utf8) parts
