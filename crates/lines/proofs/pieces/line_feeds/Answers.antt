use Rattle.std.proofs.Common.{ℕ, List, ◌∙◌}
use Rattle.std.proofs.lemmas.Iterator.Consumers.{YieldsList-from_first, count_from_yields_List}
use Rattle.memchr.specs.Find.{is_byte, places}
use Rattle.memchr.proofs.lemmas.CallerLemmas.{length-places}
use Rattle.lines.proofs.pieces.line_feeds.Goals as goal

pub returns : goal.returns
returns c =
    let found = places (is_byte 10) c.args.bytes.now in
    count_from_yields_List c.memchr_iter.result c.count.result c.count.ensures.ran (YieldsList-from_first (λ (at : ℕ). at) (λ (rest : List ℕ). rest) found c.memchr_iter.ensures.value)
    ∙ length-places (is_byte 10) c.args.bytes.now
