use Rattle.std.proofs.Common.{refl}
use Rattle.ignorefile.proofs.Deciding.{begun-order, found-root, found-some, moved-order, moved-best}
use Rattle.ignorefile.proofs.index.Index.verdict_found.Goals as goal

pub best-high-requires : goal.best-high-requires
best-high-requires c = moved-order _ _ _ _ refl c.positions_beginning-begun.ensures (begun-order _ _ _ _ _ _ c.requires c.last-item.result)

pub best-requires : goal.best-requires
best-requires c = moved-order _ _ _ _ refl c.positions_under.ensures.value (c.requires.named_order c.last-item.result)

pub returns-in-empty : goal.returns-in-empty
returns-in-empty c = found-root _ _ _ _ _ c.in-empty.len_below

pub returns-in-len1-up : goal.returns-in-len1-up
returns-in-len1-up c =
    found-some _ _ _ _ _ c.last-item.result _ _ (moved-best _ _ _ _ _ _ _ refl c.positions_beginning-begun.ensures c.best-high.ensures) (moved-best _ _ _ _ _ _ _ refl c.positions_under.ensures.value c.best.ensures)
    c.in-len1-up.len_at_least c.last-item.is c.positions_under.ensures.text
