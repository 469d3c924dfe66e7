use Rattle.std.proofs.Common.{◌≡◌, ◌∷◌, List, length}
use Rattle.json.specs.Token.{Token, begin_array}
use Rattle.entries.proofs.MadeFacts.{WaitsAt}
use Rattle.entries.proofs.pulling.pull_rows.Given as goal

-- the rows, and those that the entries that wait will get, are what is read of the items so far
abbrev pub invariant-making : goal.invariant-making
invariant-making g l = (first : List Token) × (l.fn.reader ≡ begin_array ∷ first) × WaitsAt l.inner first l.reader (g.S.TakesRows.rows l.rows) l.waiting.items l.more

abbrev pub decreases-making : goal.decreases-making
decreases-making g l = length l.reader
