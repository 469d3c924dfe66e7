use Rattle.std.proofs.Common.{ap, refl, ◌∙◌}
use Rattle.ignorefile.specs.PrivateIndex.{lying}
use Rattle.ignorefile.proofs.Deciding.{lying-order, verdict-found, moved-order, moved-best}
use Rattle.ignorefile.proofs.index.Index.verdict.Goals as goal

pub best-least-requires : goal.best-least-requires
best-least-requires c = moved-order _ _ _ _ refl c.positions_lying-lying.ensures (lying-order _ _ _ _ _ _ c.requires c.folder_of.result.now)

pub best-low-requires : goal.best-low-requires
best-low-requires c = moved-order _ _ _ _ refl c.as_slice.ensures c.requires.others_order

pub best-middle-requires : goal.best-middle-requires
best-middle-requires c = moved-order _ _ _ _ refl c.under.ensures (c.requires.counted_order _)

pub returns : goal.returns
returns c =
    verdict-found _ _ _ _ _ _ c.requires _ _ _ _ _
    (moved-best _ _ _ _ _ _ _ refl (c.positions_lying-lying.ensures ∙ ap (lying c.args.self.now.by_folder.entries) c.folder_of.ensures) c.best-least.ensures)
    (moved-best _ _ _ _ _ _ _ refl c.as_slice.ensures c.best-low.ensures) (moved-best _ _ _ _ _ _ _ refl c.under.ensures c.best-middle.ensures) _ c.verdict_found.ensures
