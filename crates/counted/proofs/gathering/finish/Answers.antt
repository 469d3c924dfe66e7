use Rattle.std.proofs.Common.{◌≡◌, false, take, sym, ap, ◌∙◌}
use Rattle.counted.proofs.GatheringFacts.{ends_written}
use Rattle.counted.proofs.gathering.finish.Goals as goal

pub returns : goal.returns
returns g c = λ contents failures text said.
    let fine : c.args.gathered.failed ≡ false = sym (ap (λ g. g.failed) c.gathered.view_is) ∙ c.if-failed.false in
    ends_written contents _ _ failures _ _ c.args.gathered text _ c.write_all.result fine (ap (take c.gathered.inside.filled) c.deref.ensures.value ∙ ap (λ g. g.bytes) c.gathered.view_is)
    c.write_all.ensures.whole c.write_all.ensures.beginning c.write_all.ensures.device c.write_all.ensures.count said
