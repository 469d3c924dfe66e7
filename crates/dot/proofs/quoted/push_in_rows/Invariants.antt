use Rattle.std.proofs.Common.{◌≡◌, ◌++◌, drop, string_bytes}
use Rattle.dot.specs.Quoted.{in_rows, row_width}
use Rattle.dot.proofs.quoted.push_in_rows.Given as goal

-- what is added so far, and what is left
abbrev pub invariant-loop-byte : goal.invariant-loop-byte
invariant-loop-byte l = string_bytes l.out ++ in_rows l.room (drop l.byte-index l.text) ≡ string_bytes l.fn.out ++ in_rows row_width l.text
