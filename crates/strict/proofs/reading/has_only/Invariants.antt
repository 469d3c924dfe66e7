use Rattle.std.proofs.Common.{◌≡◌, bytes_eq, map}
use Rattle.std.specs.List.{list_any}
use Rattle.serde_json.specs.View.{members_view}
use Rattle.strict.specs.Strict.{has_only}
use Rattle.strict.proofs.reading.has_only.Given as goal

-- the keys that are left decide
abbrev pub invariant-loop-key : goal.invariant-loop-key
invariant-loop-key l =
    has_only (λ key. list_any (λ known. bytes_eq known key) (map (λ k. k.now) l.keys)) (members_view l.fn.members.entries) ≡ has_only (λ key. list_any (λ known. bytes_eq known key) (map (λ k. k.now) l.keys)) (members_view l.key-iterator)
