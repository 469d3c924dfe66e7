use Rattle.std.proofs.Common.{sym, ◌∙◌, refl}
use Rattle.wire.proofs.MapLemmas.{is_after_all}
use Rattle.wire.proofs.map.is_after.Goals as goal

pub returns-in-Less : goal.returns-in-Less
returns-in-Less g c =
    let both = is_after_all c.args.key.now c.args.entries.now c.index-entries-entries.result c.in-len1-up.len_at_least c.index-entries-entries.is
    c.requires in
    (λ _. both.0 (sym c.cmp.ensures ∙ c.in-Less.is), λ _. refl)

pub returns-in_default : goal.returns-in_default
returns-in_default g c =
    let both = is_after_all c.args.key.now c.args.entries.now c.index-entries-entries.result c.in-len1-up.len_at_least c.index-entries-entries.is
    c.requires in
    (λ isnt. absurd cc, λ after. absurd (c.in_default.not-Less (c.cmp.ensures ∙ both.1 after)))
