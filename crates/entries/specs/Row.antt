-- The rows of a list of entries in plain data, for generic code (own).
use Rattle.std.specs.Prelude.{List}
use Rattle.std.specs.Coded.{Coded, coded×, coded_list, coded_ℕ}
use Rattle.trees.specs.Row.{Row}
use Rattle.trees.specs.contracts.entry.Entry as entry

abbrev pub rows_code : Coded (List Row)
rows_code = coded_list (coded× (coded_list (coded_list coded_ℕ)) entry.the_row.coded)
