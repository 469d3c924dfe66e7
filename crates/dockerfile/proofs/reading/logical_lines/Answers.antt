use Rattle.std.proofs.Common.{◌≡◌, ◌≤◌, ◌+◌, ◌-◌, ◌++◌, List, ℕ, length, take, drop, sym, ap, ◌∙◌, subst, arith}
use Rattle.std.proofs.Math.Seq.{take-add}
use Rattle.std.proofs.lemmas.List.{take_all}
use Rattle.lines.specs.Reader.{Holds}
use Rattle.dockerfile.proofs.reading.logical_lines.Goals as goal

pub feeding-preserved : goal.feeding-preserved
feeding-preserved c =
    let text = c.args.text.now in
    let fed = c.feeding.fed in
    let n = c.min.result in
    let within = c.feeding.invariant.within in
    let fits : fed + n ≤ length text = omega arith in
    let size : fed + n - fed ≡ n = omega arith in
    let more : take fed text ++ take (fed + n - fed) (drop fed text) ≡ take (fed + n) text = ap (λ k. take fed text ++ take k (drop fed text)) size ∙ sym (take-add fed n text) in
    record { within = fits; held = subst (λ (bytes : List ℕ). Holds c.feed.new.self bytes) more (c.in-Ok.ensures.ok (take fed text) c.feeding.invariant.held) }

pub returns : goal.returns
returns c =
    let text = c.args.text.now in
    let all : take c.feeding.fed text ≡ text = take_all c.feeding.fed text (omega arith) in
    c.finish.ensures text (subst (λ (bytes : List ℕ). Holds c.feeding.reader bytes) all c.feeding.invariant.held)
