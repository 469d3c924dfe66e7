use Rattle.std.proofs.Common.{◌≡◌, ◌++◌, drop, map, string_bytes}
use Rattle.meant.specs.Named.{listed}
use Rattle.meant.proofs.named.listed.Given as goal

-- the names so far and those that are left are all
abbrev pub invariant-loop-name : goal.invariant-loop-name
invariant-loop-name l = string_bytes l.text ++ listed (map (λ name. name.now) (drop l.name-index l.names)) ≡ listed (map (λ name. name.now) l.names)
