use Rattle.std.proofs.Common.{sym, ap, ◌∙◌, subst}
use Rattle.board.specs.Board.{board_problem}
use Rattle.board.specs.Job.{job_problem}
use Rattle.board.specs.Leaving.{LeaveTheSame}
use Rattle.sites.specs.Seats.{IsBook, AreLoans}
use Rattle.sites.proofs.BeginLemmas.{book-begun, loans-begun}
use Rattle.sites.proofs.site.Site.new.Goals as goal

-- nothing stands on the roll, and no claim is out any more
pub invariant_of-held : goal.invariant_of-held
invariant_of-held g c =
    let out = g.E.Executor.out in
    let problem = g.J.Case.problem in
    let before = g.J.Case.before in
    let old = c.args.board in
    let cleared = c.abandon_all.ensures in
    let board = c.abandon_all.new.self in
    let book = book-begun before (board_problem out old) old.run board.run c.requires.before cleared.run cleared.claims in
    let loans = loans-begun problem g.J.Case.first board.run cleared.claims in (
      ap (job_problem out) cleared.job ∙ c.requires.problem,
      subst (λ roll. IsBook before roll board.run) (sym c.named-roll.ensures.roll) book,
      cleared.first ∙ c.requires.first,
      subst (λ roll. AreLoans problem g.J.Case.first roll board.run) (sym c.named-roll.ensures.roll) loans,
      (λ promised. subst (λ job. LeaveTheSame (g.E.Executor.leaves job.executor) g.J.Case.leaves) (sym cleared.job) (c.requires.leaves promised)),
      (λ promised. cleared.left (c.requires.given promised)),
    )
