use Rattle.std.proofs.Common.{◌≡◌, ◌≢◌, ℕ, ◌+◌, drop}
use Rattle.board.specs.PrivateFrontier.{times, users_at}
use Rattle.board.proofs.frontier.note_user.Given as goal

abbrev pub invariant-loop-input : goal.invariant-loop-input
invariant-loop-input l = record {
  own : (input : ℕ) → times l.user (users_at l.users input) + times input (drop l.input-index l.inputs) ≡ times l.user (users_at l.initial.users input) + times input l.inputs;
  others : (input other : ℕ) → other ≢ l.user → times other (users_at l.users input) ≡ times other (users_at l.initial.users input);
}
