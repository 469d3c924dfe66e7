-- Images by their names in plain data.
use Rattle.std.specs.Prelude.{ℕ, List}
use Rattle.std.specs.Coded.{Coded, coded×, coded_list, coded_ℕ}
use Rattle.imagelist.specs.contracts.image_rows.ImageUse as used
use Rattle.imagelist.specs.declared.image_rows.ImageUse.{ImageUse}

-- images by their names in plain data, for generic code (own)
abbrev pub rows_code : Coded (List (List ℕ × ImageUse))
rows_code = coded_list (coded× (coded_list coded_ℕ) used.the_row.coded)
