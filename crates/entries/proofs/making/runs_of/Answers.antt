use Rattle.std.proofs.Common.{ap, ◌∙◌, max}
use Rattle.rayon.specs.Lists.{chunks_of, chunks_size, chunks_slice}
use Rattle.rayon.proofs.ToStd.{slice-AllZip}
use Rattle.entries.proofs.MadeFacts.{RunHas}
use Rattle.entries.proofs.making.runs_of.Goals as goal

pub returns : goal.returns
returns g c =
    let h = c.in_ok-runs.ensures in
    let chain = h.1 in
    let size = ap (λ it. chunks_size it) c.map.ensures.base ∙ c.par_chunks.ensures.size in
    let slice = ap (λ it. chunks_slice it) c.map.ensures.base ∙ c.par_chunks.ensures.slice in
    rw h.2 (slice-AllZip chain.0 (chunks_of 2048 c.args.spelled.now) (chain.1 ∙ (λ i. chunks_of (max (size i) 1) (slice i))) RunHas h.0 chain.2)
