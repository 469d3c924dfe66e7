use Rattle.std.proofs.Common.{◌↔◌, IsTrue, IfOk, ap, ◌∙◌, max, subst, List}
use Rattle.std.specs.List.{AllZip}
use Rattle.rayon.specs.Lists.{chunks_of, chunks_size, chunks_slice}
use Rattle.rayon.proofs.ToStd.{slice-AllZip}
use Rattle.ignorefile.specs.declared.line.Line.{Line}
use Rattle.ignorefile.specs.Kept.{Kept}
use Rattle.contexts.proofs.flags.flag_runs.Goals as goal

pub returns : goal.returns
returns g c =
    let h = c.in_ok-runs.ensures in
    let chain = h.1 in
    let size = ap (λ it. chunks_size it) c.map.ensures.base ∙ c.par_chunks.ensures.size in
    let slice = ap (λ it. chunks_slice it) c.map.ensures.base ∙ c.par_chunks.ensures.slice in
    let at = slice-AllZip chain.0 (chunks_of 1024 c.args.rows.now) (chain.1 ∙ (λ i. chunks_of (max (size i) 1) (slice i))) (λ run row. IfOk row (λ flags. AllZip (λ row flag. IsTrue flag ↔ Kept c.map.result.f.0.now row.0) run flags.items)) h.0 chain.2 in
    rw h.2 (subst (λ (lines : List Line). AllZip (λ run row. IfOk row (λ flags. AllZip (λ row flag. IsTrue flag ↔ Kept lines row.0) run flags.items)) (chunks_of 1024 c.args.rows.now) h.0) (ap (λ f. f.0.now) c.map.ensures.f) at)
