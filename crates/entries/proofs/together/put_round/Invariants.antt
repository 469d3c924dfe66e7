use Rattle.std.proofs.Common.{ℕ, ◌+◌, ◌*◌, List}
use Rattle.counted.specs.Gathering.{Sink, sink, Says, HasRoom}
use Rattle.trees.specs.Row.{Row}
use Rattle.entries.specs.declared.together.TheConstants.{ROWS}
use Rattle.entries.specs.PrivateTogether.{text_behind_rows, AreBlocks}
use Rattle.entries.proofs.together.put_round.Given as goal

-- whoever says the text behind so many blocks has said that of all
abbrev pub invariant-loop-place : goal.invariant-loop-place
invariant-loop-place g l = record {
  said : (rows : List Row) (behind : ℕ) → AreBlocks rows behind l.blocks → (last : Sink)
      → Says (sink (g.W.CountedWrite.contents l.output) (g.W.CountedWrite.failures l.output) l.gathered) last (text_behind_rows rows (behind + l.place * ROWS))
      → Says (sink (g.W.CountedWrite.contents l.fn.output) (g.W.CountedWrite.failures l.fn.output) l.fn.gathered) last (text_behind_rows rows behind);
  room : HasRoom (g.W.CountedWrite.failures l.output) l.gathered;
}
