-- A year of the runoff book, run on a board (02, No. 4): from the month at which the board stands up to September, all of its month calls or none.
use Rattle.std.specs.Prelude.{◌≡◌, Bool, List, [], ◌∷◌, ◌++◌, ℕ, length, take, drop, Option, None, Some}
use Rattle.general.specs.Tables.{tab}
use Rattle.general.specs.Tests.{◌and◌}
use Rattle.places.specs.Board.{month_at}
use Rattle.rules.specs.Answers.{Answer, or_else}
use Rattle.rules.specs.Basin.{Basin, rows}
use Rattle.rules.specs.Tally.{report_length}
use Rattle.rules.specs.Years.{room_for_year, run_answer}
use Rattle.records.specs.Records.{basin_of}
use Rattle.sheets.specs.Sheets.{sheet_at}
use Rattle.boards.specs.Board.{board_fits}
use Rattle.answers.specs.Answers.{lent_refusal}
use Rattle.month.specs.Month.{month_refusal, Outcome, month_of}
use Rattle.book.specs.Book.{lookup_refusal, year_part}

-- ---- the sheets of a year

-- the twelve sheets of a body, October's first, for n stations
unfoldable pub sheets_in : ℕ → List ℕ → List (List ℕ)
sheets_in n body = tab 12 (sheet_at n body)

unfoldable pub year_sheets : List ℕ → List ℕ → ℕ → List (List ℕ)
year_sheets f book year = sheets_in (rows (basin_of f)) (year_part f book year)

-- those from the month on at which the board stands
abbrev pub sheets_left : List ℕ → List ℕ → ℕ → List ℕ → List (List ℕ)
sheets_left f book year board = drop (month_at board) (year_sheets f book year)

-- ---- month calls one after another

-- what they leave: the refusal of the first that is refused, the board, and the list with their reports
pub record Made : Type 0 where
  pub refused : Option Answer
  pub board : List ℕ
  pub reports : List ℕ

-- The first call is lent this board, each next the board that the one before left. Of the list each is lent as much as a report needs, one part after the
-- other; what lies beyond their parts stays.
unfoldable pub calls_made : List ℕ → List (List ℕ) → List ℕ → List ℕ → Made
calls_made f [] board reports = record { refused = None; board = board; reports = reports }
calls_made f (r ∷ rs) board reports =
    let n : ℕ = report_length (basin_of f) in
    let first : Outcome = month_of f r board (take n reports) in
    let later : Made = calls_made f rs first.board (drop n reports) in
    record {
      refused = or_else (month_refusal f r board (take n reports)) later.refused;
      board = later.board;
      reports = first.report ++ later.reports;
    }

-- the calls of a year run
abbrev pub year_made : List ℕ → List ℕ → ℕ → List ℕ → List ℕ → Made
year_made f book year board reports = calls_made f (sheets_left f book year board) board reports

-- ---- what is turned down

-- the lengths of board and list: room for twelve reports, even where fewer calls are left
unfoldable pub run_fits : Basin → List ℕ → List ℕ → Bool
run_fits b board reports = board_fits board and room_for_year b (length reports)

-- what the look-up turns down; then what is lent, as of a month call; then the first of the calls that is refused
unfoldable pub run_refusal : List ℕ → List ℕ → ℕ → List ℕ → List ℕ → Option Answer
run_refusal f book year board reports =
    or_else (lookup_refusal f book year) (or_else (lent_refusal f (run_fits (basin_of f) board reports) board) (year_made f book year board reports).refused)

-- ---- answer, board and list

-- An accepted run answers how many calls it made and leaves what they leave; a refused one changes neither board nor list.
unfoldable pub run_settled : Option Answer → ℕ → Made → List ℕ → List ℕ → Outcome
run_settled None calls made board reports = record { answer = run_answer None calls; board = made.board; report = made.reports }
run_settled (Some a) calls made board reports = record { answer = a; board = board; report = reports }

unfoldable pub year_of : List ℕ → List ℕ → ℕ → List ℕ → List ℕ → Outcome
year_of f book year board reports =
    run_settled (run_refusal f book year board reports) (length (sheets_left f book year board)) (year_made f book year board reports) board reports

-- ---- the contract of a year run: answer, board and list, as one equation

abbrev pub YearMeets : List ℕ → List ℕ → ℕ → List ℕ → List ℕ → Outcome → Type 0
YearMeets f book year board reports outcome = outcome ≡ year_of f book year board reports
