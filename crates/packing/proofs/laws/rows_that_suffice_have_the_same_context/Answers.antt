use Rattle.packing.proofs.LeavingFacts.{whole_context}
use Rattle.packing.proofs.laws.rows_that_suffice_have_the_same_context.Goals as goal

pub returns : goal.returns
returns c rows some lines tree other listing enough is was =
    c.a_listing_has_one_context.ensures rows lines other tree listing (whole_context lines rows some other enough was) is
