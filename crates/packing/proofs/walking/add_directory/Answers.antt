use Rattle.std.proofs.Common.{◌≡◌, arith, false, rules}
use Rattle.packing.specs.Leaving.{FolderKind}
use Rattle.packing.proofs.GatherFacts.{not_taken}
use Rattle.packing.proofs.walking.add_directory.Goals as goal

pub returns-then-not-packs : goal.returns-then-not-packs
returns-then-not-packs c =
    let isnt : c.packs.result ≡ false = first_of (cc, search rules, grind (arith)) in
    not_taken c.args.leaving.now c.args.at.now.path FolderKind c.packs.result c.args.found.now c.packs.ensures isnt
