use Rattle.std.proofs.Common.{◌≡◌, drop, map}
use Rattle.std.specs.List.{find}
use Rattle.meant.specs.Sources.{is_astray}
use Rattle.meant.proofs.sources.first_astray.Given as goal

-- the names that are left decide
abbrev pub invariant-loop-name : goal.invariant-loop-name
invariant-loop-name l =
    find (is_astray (map (λ stage. stage.now) l.stages) l.images) (map (λ name. name.now) (drop l.name-index l.names))
    ≡ find (is_astray (map (λ stage. stage.now) l.stages) l.images) (map (λ name. name.now) l.names)
