use Rattle.std.proofs.Common.{◌≡◌, drop, map}
use Rattle.meant.specs.Sources.{first_source}
use Rattle.meant.proofs.sources.first_source.Given as goal

-- the parts that are left decide
abbrev pub invariant-loop-part : goal.invariant-loop-part
invariant-loop-part l = first_source (map (λ part. part.now) (drop l.part-index l.parts)) ≡ first_source (map (λ part. part.now) l.parts)
