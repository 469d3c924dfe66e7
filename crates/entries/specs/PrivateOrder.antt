-- Neighbours in a list of rows.
use Rattle.std.specs.Prelude.{Bool, true, not, ◌&&◌, Option, Some, None, List, [], ◌∷◌}
use Rattle.std.specs.Ordering.{is_lt}
use Rattle.paths.specs.Order.{path_cmp}
use Rattle.trees.specs.Row.{Row}
use Rattle.entries.specs.Listing.{is_in_way, clash}

-- no row clashes with the next, and the first one not with the row before it, if there is one
abbrev pub fits_after : Option Row → List Row → Bool
fits_after before [] = true
fits_after None (row ∷ rows) = fits_after (Some row) rows
fits_after (Some last) (row ∷ rows) = not (clash last row) && fits_after (Some row) rows

-- a row's path comes after another's, and doesn't lie below it where that is a file's
abbrev pub follows : Row → Row → Bool
follows last row = is_lt (path_cmp last.0 row.0) && not (is_in_way last row)

-- each row follows the one before it
abbrev pub in_order_after : Option Row → List Row → Bool
in_order_after before [] = true
in_order_after None (row ∷ rows) = in_order_after (Some row) rows
in_order_after (Some last) (row ∷ rows) = follows last row && in_order_after (Some row) rows
