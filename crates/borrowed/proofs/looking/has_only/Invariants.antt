use Rattle.std.proofs.Common.{◌≡◌, bytes_eq, map, drop}
use Rattle.std.specs.List.{list_any}
use Rattle.json.specs.Value.{members_view}
use Rattle.borrowed.proofs.LookFacts.{keys_pass}
use Rattle.borrowed.proofs.looking.has_only.Given as goal

-- the keys that are left decide
abbrev pub invariant-loop-member : goal.invariant-loop-member
invariant-loop-member l =
    keys_pass (λ key. list_any (λ known. bytes_eq known key) (map (λ k. k.now) l.keys)) (members_view l.members) ≡ keys_pass (λ key. list_any (λ known. bytes_eq known key) (map (λ k. k.now) l.keys)) (members_view (drop l.member-index l.members))
