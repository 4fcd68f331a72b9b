-- What is proved of year runs beside their contract. proofs/Theorems.antt has the proofs, under the same names in small letters.
use Rattle.std.specs.Prelude.{◌≡◌, List, [], ◌∷◌, ℕ, ◌-◌, ◌≤◌, length, None}
use Rattle.places.specs.Board.{month_at}
use Rattle.rules.specs.Tally.{report_length}
use Rattle.records.specs.Records.{basin_of}
use Rattle.month.specs.Month.{month_of}
use Rattle.years.specs.Years.{sheets_left, run_refusal, year_of}

-- the board that month calls with these sheets leave, each lent the same list for its report
unfoldable pub after_months : List ℕ → List (List ℕ) → List ℕ → List ℕ → List ℕ
after_months f [] board report = board
after_months f (r ∷ rs) board report = after_months f rs (month_of f r board report).board report

-- ---- an accepted run leaves the board that plain month calls leave, on whatever list that is long enough for their reports

pub record LikeMonths (f book : List ℕ) (year : ℕ) (board reports report : List ℕ) : Type 0 where
  pub left : (year_of f book year board reports).board ≡ after_months f (sheets_left f book year board) board report
  -- from October on there are twelve of them
  pub count : length (sheets_left f book year board) ≡ 12 - month_at board

abbrev pub YearOfMonths : Type 0
YearOfMonths = (f book : List ℕ) (year : ℕ) (board reports report : List ℕ) → run_refusal f book year board reports ≡ None → report_length (basin_of f) ≤ length report
    → LikeMonths f book year board reports report
