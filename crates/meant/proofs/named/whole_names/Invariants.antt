use Rattle.std.proofs.Common.{◌≡◌, ◌++◌, drop, filter, map}
use Rattle.meant.specs.Escapes.{is_whole}
use Rattle.meant.proofs.named.whole_names.Given as goal

-- the names so far with those that are left and stand there whole are all
abbrev pub invariant-loop-name : goal.invariant-loop-name
invariant-loop-name l =
    map (λ name. name.now) l.whole.items ++ filter is_whole (map (λ name. name.now) (drop l.name-index l.names)) ≡ filter is_whole (map (λ name. name.now) l.names)
