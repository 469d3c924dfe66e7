use Rattle.std.proofs.Common.{List, ℕ, sym, subst, arith}
use Rattle.std.specs.Prelude.{IsCharBoundary}
use Rattle.std.proofs.lemmas.Str.{IsCharBoundary-after_ascii}
use Rattle.lines.proofs.BlankLemmas.{starts_with-some}
use Rattle.lines.proofs.directives.after_sharp.Goals as goal

pub range_from-requires : goal.range_from-requires
range_from-requires c =
    let some = starts_with-some 35 c.as_bytes.result.now (sym c.if-not-starts_with.ensures) in
    let cut = IsCharBoundary-after_ascii c.as_bytes.result.now 0 c.as_bytes.ensures.utf8 some.0 (omega (arith, some.1)) in
    λ _. subst (λ (bs : List ℕ). IsCharBoundary bs 1) c.as_bytes.ensures.value cut
