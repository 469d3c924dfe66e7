use Rattle.std.proofs.Common.{◌≡◌, ◌-◌, ◌∷◌, length, take, drop, ap, sym, refl, ◌∙◌, arith}
use Rattle.std.specs.declared.cmp.Ordering.TheVariants.{Less, Equal}
use Rattle.paths.specs.Order.{name_cmp}
use Rattle.trees.proofs.ForkSteps.{first-rest, spine-below, fork-last, fork-past, fork-further}
use Rattle.trees.proofs.spine.+fork.Goals as goal

pub fork-requires : goal.fork-requires
fork-requires t c =
    let all = c.args.folders.now in
    let path = c.args.path.now in
    let most : length path ≡ t = c.decreases in
    let long : length path ≡ length (c.name-item.result ∷ take (length path - 1) (drop 1 path)) = ap length (first-rest path c.name-item.result c.in-len1-up-path.len_at_least c.name-item.is) in (
      omega arith,
      spine-below all (take (length all - 1) (drop 1 all)) c.folder-item.result (first-rest all c.folder-item.result c.in-len1-up.len_at_least c.folder-item.is) c.requires,
    )

pub returns-then-is_directory : goal.returns-then-is_directory
returns-then-is_directory t c =
    let all = c.args.folders.now in
    let path = c.args.path.now in
    fork-last all (take (length all - 1) (drop 1 all)) path (take (length path - 1) (drop 1 path)) c.folder-item.result c.name-item.result (first-rest all c.folder-item.result c.in-len1-up.len_at_least c.folder-item.is)
    (first-rest path c.name-item.result c.in-len1-up-path.len_at_least c.name-item.is) c.requires c.in-empty.len_below (sym c.is_directory.ensures ∙ c.if-is_directory.true)

pub returns-in-Less : goal.returns-in-Less
returns-in-Less t c =
    let all = c.args.folders.now in
    let path = c.args.path.now in
    let below = take (length all - 1) (drop 1 all) in
    let less : name_cmp c.child-item.result.name c.name-item.result ≡ Less = ap (λ n. name_cmp n c.name-item.result) (sym c.name.ensures) ∙ sym c.cmp.ensures ∙ c.in-Less.is in
    fork-past all below path (take (length path - 1) (drop 1 path)) c.folder-item.result c.name-item.result (first-rest all c.folder-item.result c.in-len1-up.len_at_least c.folder-item.is)
    (first-rest path c.name-item.result c.in-len1-up-path.len_at_least c.name-item.is) c.requires c.child-item.result (take (length below - 1) (drop 1 below)) (first-rest below c.child-item.result c.in-len1-up-below.len_at_least c.child-item.is) less (length below) refl

pub returns-in-Equal : goal.returns-in-Equal
returns-in-Equal t c =
    let all = c.args.folders.now in
    let path = c.args.path.now in
    let below = take (length all - 1) (drop 1 all) in
    let same : name_cmp c.child-item.result.name c.name-item.result ≡ Equal = ap (λ n. name_cmp n c.name-item.result) (sym c.name.ensures) ∙ sym c.cmp.ensures ∙ c.in-Equal.is in
    fork-further all below path (take (length path - 1) (drop 1 path)) c.folder-item.result c.name-item.result (first-rest all c.folder-item.result c.in-len1-up.len_at_least c.folder-item.is)
    (first-rest path c.name-item.result c.in-len1-up-path.len_at_least c.name-item.is) c.requires c.child-item.result (take (length below - 1) (drop 1 below)) (first-rest below c.child-item.result c.in-len1-up-below.len_at_least c.child-item.is) same c.fork.result c.fork.ensures
