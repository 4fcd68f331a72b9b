-- The call month, for every file and all lists, refusals included (01, "The board and one month").
use Rattle.std.specs.Prelude.{◌≡◌, Bool, List, ℕ, suc, ◌+◌, ltb, length, Option, None, Some}
use Rattle.general.specs.Sums.{only}
use Rattle.general.specs.Tables.{tab}
use Rattle.general.specs.Tests.{◌and◌}
use Rattle.places.specs.Board.{due_at}
use Rattle.rules.specs.Answers.{Answer, or_else}
use Rattle.rules.specs.Basin.{Basin, rows}
use Rattle.rules.specs.Month.{returns_at, MonthRun, month, short_count}
use Rattle.rules.specs.Tally.{Call, lists_fit, over_limit, over_answer}
use Rattle.records.specs.Records.{basin_of}
use Rattle.boards.specs.Board.{carried_of, board_of, board_fits}
use Rattle.boards.specs.Report.{report_of}
use Rattle.answers.specs.Answers.{lent_refusal}

-- ---- what is turned down: what is lent, then runoff over its limit

-- the call as the rules see it: of the report only its length
abbrev pub call_with : List ℕ → List ℕ → Call
call_with runoff report = record { runoff = runoff; report = length report }

unfoldable pub all_fit : Basin → List ℕ → List ℕ → List ℕ → Bool
all_fit b runoff board report = lists_fit b (call_with runoff report) and board_fits board

unfoldable pub month_refusal : List ℕ → List ℕ → List ℕ → List ℕ → Option Answer
month_refusal f runoff board report = or_else (lent_refusal f (all_fit (basin_of f) runoff board report) board) (over_answer (over_limit runoff))

-- ---- the month that is run

-- what is due at k = 1 arrives
unfoldable pub run_of : Basin → List ℕ → List ℕ → MonthRun
run_of b runoff board = month b (carried_of b board) runoff (tab (rows b) (λ w. due_at board w 1))

-- What was on its way at k + 1 is now at k, and what arrived is used up; to this the month's grants add what they return.
unfoldable pub due_after : Basin → MonthRun → List ℕ → ℕ → ℕ → ℕ
due_after b h board w k = only (ltb k 11) (due_at board w (suc k)) + returns_at b h.turns w k

unfoldable pub board_after : Basin → List ℕ → List ℕ → List ℕ
board_after b runoff board = let h : MonthRun = run_of b runoff board in board_of b h.carried (due_after b h board)

-- ---- answer, board and report

pub record Outcome : Type 0 where
  pub answer : Answer
  pub board : List ℕ
  pub report : List ℕ

unfoldable pub month_settled : Option Answer → Basin → List ℕ → List ℕ → List ℕ → Outcome
month_settled None b runoff board report = record {
  answer = record { number = 0; place = short_count (run_of b runoff board).turns };
  board = board_after b runoff board;
  report = report_of b (run_of b runoff board) report;
}
month_settled (Some a) b runoff board report = record { answer = a; board = board; report = report }

unfoldable pub month_of : List ℕ → List ℕ → List ℕ → List ℕ → Outcome
month_of f runoff board report = month_settled (month_refusal f runoff board report) (basin_of f) runoff board report

-- ---- the month's contract

-- What month promises: answer, board and report, as one equation.
abbrev pub MonthMeets : List ℕ → List ℕ → List ℕ → List ℕ → Outcome → Type 0
MonthMeets f runoff board report outcome = outcome ≡ month_of f runoff board report

-- the outcome as the call gives it: what it answers, and what it leaves
abbrev pub outcome_of : Answer → List ℕ → List ℕ → Outcome
outcome_of a board report = record { answer = a; board = board; report = report }
