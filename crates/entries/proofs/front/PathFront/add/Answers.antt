use Rattle.std.proofs.Common.{◌≡◌, ◌+◌, ◌<◌, ◌≤◌, true, length, get_or, ◌∙◌, arith, rules}
use Rattle.std.specs.List.{list_all}
use Rattle.trees.specs.Rows.{lent_names}
use Rattle.quoted.specs.Plain.{is_plain}
use Rattle.quoted.proofs.EscapeFacts.{escape-plain}
use Rattle.entries.proofs.HeldFacts.{holds-more, holds-behind}
use Rattle.entries.proofs.front.PathFront.add.Goals as goal

pub returns-then-write_plain : goal.returns-then-write_plain
returns-then-write_plain c =
    let front = c.args.self.now in
    let bytes = c.as_bytes-name.result.now in
    let plain : list_all is_plain bytes ≡ true = c.write_plain.ensures.plain c.if-write_plain.true in
    let begin = get_or front.ends front.names 0 in
    let inside : begin ≤ 4096 = c.requires.holds.inside in
    let room : front.names < 65 = c.requires.holds.room in
    let other : front.names + 1 < 65 = first_of (omega arith, grind (arith)) in
    let fits : begin + 1 + length bytes ≤ 4096 = first_of (omega arith, grind (arith)) in
    holds-more c.args.names.now front c.index-names-self.result bytes c.write_at.new.text c.write_plain.new.text c.requires.holds c.requires.more
    (first_of (search rules, grind (arith))) (c.as_bytes-name.ensures.value ∙ c.as_str.ensures) (escape-plain bytes plain) other fits c.write_at.ensures.front c.write_at.ensures.long (c.write_plain.ensures.whole c.if-write_plain.true) c.write_plain.ensures.long

pub returns-else-write_plain : goal.returns-else-write_plain
returns-else-write_plain c =
    holds-behind (lent_names c.args.names.now) c.args.self.now c.args.self.now.names c.write_at.new.text c.write_plain.new.text c.requires.holds c.write_at.ensures.front c.write_at.ensures.long c.write_plain.ensures.before c.write_plain.ensures.long
