-- A month of an accepted basin, on a possible board: what it asks for, and what it leaves.
use Rattle.std.specs.Prelude.{true, List, ◌≡◌, ℕ, ◌≤◌, length, get_or}
use Rattle.rules.specs.Accepted.{Accepted}
use Rattle.rules.specs.Basin.{Basin, rows}
use Rattle.rules.specs.Month.{short_count}
use Rattle.rules.specs.Tally.{most_runoff, report_length, over_limit, over_answer}
use Rattle.boards.specs.Board.{possible}
use Rattle.boards.specs.Report.{report_of}
use Rattle.month.specs.Month.{run_of, board_after, Outcome, month_settled}

-- an accepted basin, a sheet of its rows, a possible board, room for the report
pub record CanRunSheet (b : Basin) (runoff bd rp : List ℕ) : Type 0 where
  pub accepted : Accepted b
  pub sheet : length runoff ≡ rows b
  pub can : possible b bd ≡ true
  pub room : report_length b ≤ length rp

-- Then only the runoff can be turned down. All else is as month promises.
abbrev pub SheetRan : Basin → List ℕ → List ℕ → List ℕ → Outcome → Type 0
SheetRan b runoff bd rp outcome = outcome ≡ month_settled (over_answer (over_limit runoff)) b runoff bd rp

-- the same with runoff within its limit
pub record CanRun (b : Basin) (runoff bd rp : List ℕ) : Type 0 where
  pub accepted : Accepted b
  pub sheet : length runoff ≡ rows b
  pub small : (j : ℕ) → get_or runoff j 0 ≤ most_runoff
  pub can : possible b bd ≡ true
  pub room : report_length b ≤ length rp

pub record Ran (b : Basin) (runoff bd rp bd' rp' : List ℕ) (c : ℕ) : Type 0 where
  pub board : bd' ≡ board_after b runoff bd
  pub report : rp' ≡ report_of b (run_of b runoff bd) rp
  pub shorts : c ≡ short_count (run_of b runoff bd).turns
