use Rattle.std.specs.Prelude.{ℕ, List, nat_eq}
use Rattle.std.proofs.Common.{subst, ap, sym, ◌∙◌}
use Rattle.std.specs.List.{list_all, IsDistinct}
use Rattle.trees.specs.Row.{Row}
use Rattle.entries.specs.PrivateFingerprint.{is_clear}
use Rattle.entries.proofs.FingerprintFacts.{told-apart}
use Rattle.entries.proofs.fingerprint.are_told_apart.Goals as goal

pub returns-then-are_distinct : goal.returns-then-are_distinct
returns-then-are_distinct c told =
    told-apart c.args.rows.now (subst (λ (numbers : List ℕ). IsDistinct nat_eq numbers) c.in_ok-all.ensures.all (c.are_distinct.ensures.0 c.if-are_distinct.true))
    (ap (λ (numbers : List ℕ). list_all (λ (row : Row). is_clear numbers row.0) c.args.rows.now) (sym c.in_ok-all.ensures.files) ∙ sym c.in_ok-clear.ensures ∙ told)
