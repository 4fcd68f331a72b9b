-- The steps of a year run on a basin: what each asks for, and what it leaves.
use Rattle.std.specs.Prelude.{◌≡◌, true, List, [], ◌∷◌, ◌++◌, ℕ, ◌-◌, ◌*◌, ◌≤◌, ◌<◌, length, take, drop, Option, None, Ok}
use Rattle.places.specs.Board.{month_at}
use Rattle.rules.specs.Accepted.{Accepted}
use Rattle.rules.specs.Answers.{Answer, or_else}
use Rattle.rules.specs.Basin.{Basin, rows}
use Rattle.rules.specs.Tally.{report_length, over_limit, over_answer}
use Rattle.records.specs.Records.{basin_of}
use Rattle.filecheck.specs.Check.{check_of}
use Rattle.boards.specs.Board.{possible}
use Rattle.boards.specs.Report.{report_of}
use Rattle.answers.specs.Answers.{lent_refusal}
use Rattle.month.specs.Month.{run_of, board_after, Outcome}
use Rattle.sheets.specs.Sheets.{sheet_size, sheet_at}
use Rattle.years.specs.Years.{sheets_in, Made, calls_made, run_fits, run_settled}

-- ---- months that are not refused

-- 8: of the first sheet that has a row over its limit
unfoldable pub first_over : List (List ℕ) → Option Answer
first_over [] = None
first_over (r ∷ rs) = or_else (over_answer (over_limit r)) (first_over rs)

-- the board after them, and the list with their reports
unfoldable pub boards_after : Basin → List (List ℕ) → List ℕ → List ℕ
boards_after b [] board = board
boards_after b (r ∷ rs) board = boards_after b rs (board_after b r board)

unfoldable pub reports_of : Basin → List (List ℕ) → List ℕ → List ℕ → List ℕ
reports_of b [] board old = old
reports_of b (r ∷ rs) board old = report_of b (run_of b r board) (take (report_length b) old) ++ reports_of b rs (board_after b r board) (drop (report_length b) old)

abbrev pub made_of : Basin → List (List ℕ) → List ℕ → List ℕ → Made
made_of b rs board old = record { refused = first_over rs; board = boards_after b rs board; reports = reports_of b rs board old }

-- ---- the functions

-- sheets are read off a body of twelve into a list of one number to a station
pub record CanRead (body runoff : List ℕ) : Type 0 where
  pub few : length runoff ≤ 64
  pub bytes : length body ≡ 12 * sheet_size (length runoff)

-- an accepted file and a possible board
pub record CanJudge (f bd : List ℕ) : Type 0 where
  pub accepted : check_of f ≡ Ok tt
  pub can : possible (basin_of f) bd ≡ true

-- an accepted basin, a body of the book and a possible board
pub record CanYear (b : Basin) (body runoff bd : List ℕ) : Type 0 where
  pub accepted : Accepted b
  pub numbers : length runoff ≡ rows b
  pub bytes : length body ≡ 12 * sheet_size (length runoff)
  pub can : possible b bd ≡ true

-- month k: its sheet is not over its limit
pub record CanMonth (b : Basin) (body : List ℕ) (k : ℕ) (runoff bd rp : List ℕ) : Type 0 where
  pub year : CanYear b body runoff bd
  pub month : k < 12
  pub none_over : over_limit (sheet_at (length runoff) body k) ≡ None
  pub room : report_length b ≤ length rp

-- month k and those after it: none of their sheets is over its limit, and there is room for their reports
pub record CanRest (b : Basin) (body : List ℕ) (k told : ℕ) (runoff bd old : List ℕ) : Type 0 where
  pub year : CanYear b body runoff bd
  pub month : k ≤ 12
  pub none_over : first_over (drop k (sheets_in (length runoff) body)) ≡ None
  pub report : told ≡ report_length b
  pub room : (12 - k) * told ≤ length old

pub record RestRan (b : Basin) (rs : List (List ℕ)) (board old board' old' : List ℕ) : Type 0 where
  pub board-left : board' ≡ boards_after b rs board
  pub reports_left : old' ≡ reports_of b rs board old

pub record CanThrough (b : Basin) (body : List ℕ) (told : ℕ) (runoff bd old : List ℕ) : Type 0 where
  pub year : CanYear b body runoff bd
  pub report : told ≡ report_length b
  pub room : 12 * told ≤ length old

-- the run where only the runoff can be turned down; rs: the sheets from the board's month on
abbrev pub WentThrough : Basin → List (List ℕ) → List ℕ → List ℕ → Outcome → Type 0
WentThrough b rs board old outcome = outcome ≡ run_settled (first_over rs) (length rs) (made_of b rs board old) board old

-- ---- the run of a body's sheets on what is lent beside an accepted file

unfoldable pub body_refusal : List ℕ → List (List ℕ) → List ℕ → List ℕ → Option Answer
body_refusal f sheets board reports =
    or_else (lent_refusal f (run_fits (basin_of f) board reports) board) (calls_made f (drop (month_at board) sheets) board reports).refused

abbrev pub BodyMeets : List ℕ → List (List ℕ) → List ℕ → List ℕ → Outcome → Type 0
BodyMeets f sheets board reports outcome =
    outcome ≡ run_settled (body_refusal f sheets board reports) (length (drop (month_at board) sheets)) (calls_made f (drop (month_at board) sheets) board reports) board reports
