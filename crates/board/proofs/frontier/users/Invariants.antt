use Rattle.std.proofs.Common.{◌≡◌, ℕ, ◌<◌, ◌≤◌, [], length, replicate}
use Rattle.board.specs.PrivateFrontier.{times, users_at, inputs_at}
use Rattle.board.proofs.frontier.users.Given as goal

abbrev pub invariant-loop : goal.invariant-loop
invariant-loop l = l.users.items ≡ replicate l.counter []

abbrev pub invariant-loop-number : goal.invariant-loop-number
invariant-loop-number l = record {
  long : length l.users.items ≡ length l.vertices;
  noted : (input user : ℕ) → user < l.number → times user (users_at l.users.items input) ≡ times input (inputs_at l.vertices user);
  others : (input user : ℕ) → l.number ≤ user → times user (users_at l.users.items input) ≡ 0;
}
