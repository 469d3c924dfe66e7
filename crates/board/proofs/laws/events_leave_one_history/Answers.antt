use Rattle.board.proofs.HistoryLemmas.{one_history}
use Rattle.board.proofs.laws.events_leave_one_history.Goals as goal

pub returns : goal.returns
returns c = one_history
