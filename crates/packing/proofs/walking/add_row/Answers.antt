use Rattle.std.proofs.Common.{◌≡◌, arith, false, inr, rules, subst, sym, true}
use Rattle.packing.specs.Leaving.{FileKind, IsPacked, OtherKind, Place}
use Rattle.packing.specs.PrivateLeaving.{Takes}
use Rattle.packing.proofs.GatherFacts.{not_taken, takes_as}
use Rattle.packing.proofs.walking.add_row.Goals as goal

pub add_file-requires : goal.add_file-requires
add_file-requires g c =
    let is : c.packs.result ≡ true = first_of (cc, search rules, grind (arith)) in
    subst (IsPacked c.args.leaving.now) (sym c.path.ensures) (c.packs.ensures.0 is)

pub pass_over-requires : goal.pass_over-requires
pass_over-requires g c =
    let is : c.packs.result ≡ true = first_of (cc, search rules, grind (arith)) in
    subst (IsPacked c.args.leaving.now) (sym c.path-in-Ok-4.ensures) (c.packs.ensures.0 is)

pub returns-in-Ok-2 : goal.returns-in-Ok-2
returns-in-Ok-2 g c =
    let isnt : c.packs.result ≡ false = first_of (cc, search rules, grind (arith)) in
    inr (FileKind, not_taken c.args.leaving.now c.args.at.now.path FileKind c.packs.result c.args.found.now c.packs.ensures isnt)

pub returns-in-Ok-3 : goal.returns-in-Ok-3
returns-in-Ok-3 g c =
    subst (λ (p : Place). Takes c.args.leaving.now p c.add_file.result c.args.found.now c.add_file.new.found) c.path.ensures
    (takes_as c.args.leaving.now c.path.result.now FileKind c.add_file.result c.args.found.now c.add_file.new.found c.add_file.ensures)

pub returns-in-Ok-4 : goal.returns-in-Ok-4
returns-in-Ok-4 g c =
    subst (λ (p : Place). Takes c.args.leaving.now p c.pass_over.result c.args.found.now c.pass_over.new.found) c.path-in-Ok-4.ensures
    (takes_as c.args.leaving.now c.path-in-Ok-4.result.now OtherKind c.pass_over.result c.args.found.now c.pass_over.new.found c.pass_over.ensures)
