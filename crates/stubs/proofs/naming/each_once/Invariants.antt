use Rattle.std.proofs.Common.{◌≡◌, drop, map}
use Rattle.stages.specs.declared.image_name.ImageName.{ImageName}
use Rattle.imageconfig.specs.Rows.{add_names}
use Rattle.stubs.specs.Naming.{each_once}
use Rattle.stubs.proofs.naming.each_once.Given as goal

-- the names so far are those that were seen, and with those that are left they are all
abbrev pub invariant-loop-named : goal.invariant-loop-named
invariant-loop-named l = record {
  seen : l.once ≡ map (λ row. row.0) l.seen;
  rest : add_names l.once (map (λ (named : ImageName). named.name) (drop l.named-index l.names)) ≡ each_once l.names;
}
