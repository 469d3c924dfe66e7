use Rattle.bundle.specs.declared.parts.ReadImages.{ReadImages}
use Rattle.bundle.proofs.FoundFacts.{named_is}
use Rattle.bundle.proofs.pulling.named_of.Goals as goal

pub returns : goal.returns
returns g c config i o images caches =
    let read : ReadImages g.row.C.Denot = c.in_ok-read.read in
    named_is config i _ o read c.in_ok-args.args c.in_ok-caches.caches (c.in_ok-read.ensures config i images) c.in_ok-args.ensures (c.in_ok-caches.ensures o caches)
