use Rattle.std.proofs.Common.{◌≡◌, ◌-◌, ◌≤◌, length, take, drop}
use Rattle.counted.specs.Gathering.{Sink, sink, Says, HasRoom}
use Rattle.entries.specs.PrivateFront.{HoldsNames}
use Rattle.entries.specs.PrivatePrinting.{rows_text}
use Rattle.entries.proofs.printing.put_rows.Given as goal

-- whoever says the text of the entries to come has said that of all; names are held of the path of the last
abbrev pub invariant-loop-done : goal.invariant-loop-done
invariant-loop-done g l = record {
  said : (last : Sink)
      → Says (sink (g.W.CountedWrite.contents l.output) (g.W.CountedWrite.failures l.output) l.gathered) last (rows_text l.later (take (l.most - l.done) l.walk.left))
      → Says (sink (g.W.CountedWrite.contents l.fn.output) (g.W.CountedWrite.failures l.fn.output) l.fn.gathered) last (rows_text l.fn.later (take l.most l.fn.walk.left));
  left : l.walk.left ≡ drop l.done l.fn.walk.left;
  inside : l.done ≤ length l.fn.walk.left;
  held : HoldsNames l.walk.at l.front.names l.front;
  room : HasRoom (g.W.CountedWrite.failures l.output) l.gathered;
}
