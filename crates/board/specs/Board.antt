-- What contracts see of a board: its job, what has happened, what it holds now, and the contents of its caches.
use Rattle.std.specs.Prelude.{◌≡◌, ℕ, List, map, Option, refl}
use Rattle.std.specs.Coded.{Coded, code_by, coded×, coded_list, coded_option, coded_result}
use Rattle.trees.specs.Cause.{TreeOrCause}
use Rattle.trees.specs.contracts.tree.Tree as tree
use Rattle.trees.specs.contracts.cause.Cause as cause
use Rattle.plans.specs.Plan.{Problem}
use Rattle.plans.specs.Value.{Out}
use Rattle.cachemounts.specs.contracts.content.Content as content_row
use Rattle.cachemounts.specs.contracts.holds.Hold as hold_row
use Rattle.cachemounts.specs.declared.content.Content.{Content}
use Rattle.cachemounts.specs.declared.holds.Hold.{Hold}
use Rattle.cachemounts.specs.Changes.{content_after}
use Rattle.cachemounts.specs.Content.{tree_in}
use Rattle.board.specs.contracts.claim.ClaimOut as claim_row
use Rattle.board.specs.contracts.event.Happened as happened_row
use Rattle.board.specs.declared.claim.ClaimOut.{ClaimOut}
use Rattle.board.specs.declared.event.Happened.{Happened}
use Rattle.board.specs.Job.{JobValue, job_code, job_problem}
use Rattle.board.specs.Legal.{change_of, IsLegal}
use Rattle.board.specs.Play.{Run, Step, go, IsReplay}
use Rattle.board.specs.Problem.{IsProblem}

-- a board: its job, the contents of the caches at the start and now, and what has happened with what is settled, out and held since (own)
pub record BoardValue (E : Type 0) : Type 0 where
  pub job : JobValue E
  pub first : List Content
  pub contents : List Content
  pub run : Run

-- what has happened on a board, in plain data, for generic code (own)
abbrev pub run_code : Coded Run
run_code =
    code_by (List Happened × (List (Option TreeOrCause) × (List ClaimOut × List Hold)))
    (coded× (coded_list happened_row.the_row.coded)
    (coded× (coded_list (coded_option (coded_result tree.the_row.coded cause.the_row.coded)))
    (coded× (coded_list claim_row.the_row.coded) (coded_list hold_row.the_row.coded))))
    (λ r. (r.history, (r.state.settled, (r.state.claims, r.state.holds))))
    (λ t. record { history = t.0; state = record { settled = t.1.0; claims = t.1.1.0; holds = t.1.1.1 } })
    (λ _. refl)

-- a board in plain data, for generic code (own)
abbrev pub board_code : {E : Type 0} → Coded E → Coded (BoardValue E)
board_code {E} e =
    code_by (JobValue E × (List Content × (List Content × Run)))
    (coded× (job_code e) (coded× (coded_list content_row.the_row.coded) (coded× (coded_list content_row.the_row.coded) run_code)))
    (λ b. (b.job, (b.first, (b.contents, b.run))))
    (λ t. record { job = t.0; first = t.1.0; contents = t.1.1.0; run = t.1.1.1 })
    (λ _. refl)

-- the problem that a board solves (own)
abbrev pub board_problem : {E : Type 0} → (E → Out) → BoardValue E → Problem
board_problem out board = job_problem out board.job

-- the contents of the caches are those that a history leaves of the contents at the start (own)
abbrev pub AreContents : Problem → List Happened → List Content → List Content → Type 0
AreContents problem history first contents =
    (id : List ℕ) (slot : Option ℕ) → tree_in contents id slot ≡ content_after (tree_in first) (map (change_of problem) history) id slot

-- these contents are those that some legal history of a problem leaves of the contents at the start: so a content that no vertex used is as it was (own)
unfoldable pub AreLeft : Problem → List Content → List Content → Type 0
AreLeft problem first contents = (history : List Happened) × IsLegal problem history × AreContents problem history first contents

-- a board is another one after a step: its job and the contents at the start are as they were. The contents now follow from the history, by `IsBoard`.
-- (own)
pub record IsStep {E : Type 0} (out : E → Out) (step : Step) (old new : BoardValue E) : Type 0 where
  pub job : new.job ≡ old.job
  pub first : new.first ≡ old.first
  pub run : new.run ≡ go (board_problem out old) old.run step

-- a board is well-formed: its problem can be solved, what it holds is the replay of its history, and the contents of its caches are the history's (own)
pub record IsBoard {E : Type 0} (out : E → Out) (board : BoardValue E) : Type 0 where
  pub replay : IsReplay (board_problem out board) board.run
  pub problem : IsProblem (board_problem out board)
  pub contents : AreContents (board_problem out board) board.run.history board.first board.contents
