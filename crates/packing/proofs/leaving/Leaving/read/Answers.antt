use Rattle.std.proofs.Common.{◌∙◌, sym}
use Rattle.packing.proofs.ExceptFacts.{no_exception}
use Rattle.packing.proofs.leaving.Leaving.read.Goals as goal

-- without a `!` no line is an exception
pub by-requires : goal.by-requires
by-requires c = λ none. no_exception c.args.bytes.now _ c.in_ok-ignore.ensures (sym c.contains.ensures.value ∙ none)
