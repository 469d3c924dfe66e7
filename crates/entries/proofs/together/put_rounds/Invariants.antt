use Rattle.std.proofs.Common.{◌≡◌, ◌*◌, false, List, length}
use Rattle.counted.specs.Gathering.{Sink, sink, Says, HasRoom}
use Rattle.trees.specs.Row.{Row}
use Rattle.entries.specs.declared.together.TheConstants.{SHARES, ROUND}
use Rattle.entries.specs.PrivatePrinting.{rest_text}
use Rattle.entries.specs.PrivateTogether.{text_behind_rows, ArePast, HavePrinted}
use Rattle.entries.proofs.together.put_rounds.Given as goal

-- whoever says the text behind so many rounds has said that of all, and the entries of the next round are printed
abbrev pub invariant-loop-round : goal.invariant-loop-round
invariant-loop-round g l = record {
  said : (rows : List Row) → ArePast rows 0 l.fn.shares → (last : Sink)
      → Says (sink (g.W.CountedWrite.contents l.output) (g.W.CountedWrite.failures l.output) l.gathered) last (text_behind_rows rows (l.round * ROUND))
      → Says (sink (g.W.CountedWrite.contents l.fn.output) (g.W.CountedWrite.failures l.fn.output) l.fn.gathered) last (rest_text false rows);
  printed : (rows : List Row) → ArePast rows 0 l.fn.shares → HavePrinted rows (l.round * ROUND) l.shares;
  shares : length l.shares ≡ SHARES;
  blocks : length l.blocks ≡ SHARES;
  room : HasRoom (g.W.CountedWrite.failures l.output) l.gathered;
}
