-- The theorems of specs/Theorems.antt. Assumes nothing.
use Rattle.std.specs.Prelude.{Option, None, Some, Ok}
use mathlib.Core.Path.{◌≡◌, refl, sym, ap, ◌∙◌}
use mathlib.Core.Bool.{true}
use mathlib.Core.List.{List, [], ◌∷◌}
use Prim.Native.Nat.{ℕ, ◌-◌, ◌≤◌}
use native.Mathlib.Omega.{arith}
use lib.ListN.{length, length-drop}
use Rattle.general.specs.Tables.{All}
use Rattle.places.specs.Board.{board_length, month_at}
use Rattle.rules.specs.Answers.{Answer, or_else}
use Rattle.rules.specs.Basin.{rows}
use Rattle.rules.specs.Tally.{report_length, over_limit, over_answer}
use Rattle.rules.proofs.Answers.{or-first, or-second}
use Rattle.records.specs.Records.{basin_of}
use Rattle.filecheck.specs.Check.{check_of}
use Rattle.boards.specs.Board.{possible}
use Rattle.answers.specs.Answers.{lent_refusal}
use Rattle.answers.proofs.Answers.{Clear, lent-clear}
use Rattle.month.specs.Month.{board_after, month_of}
use Rattle.book.specs.Book.{lookup_refusal, year_part}
use Rattle.years.specs.Years.{year_sheets, sheets_left, Made, year_made, run_fits, run_refusal, run_settled, year_of}
use Rattle.years.specs.Runs.{first_over, boards_after}
use Rattle.years.specs.Theorems.{after_months, YearOfMonths}
use Rattle.years.proofs.Sheets.{sheets-length}
use Rattle.years.proofs.Calls.{Lent, next-size, next-can, next-board, CanCall, refused_over, made-months}
use Rattle.years.proofs.Runs.{can-call}

-- ---- plain month calls with sheets that are not over their limit

module _ (f : List ℕ) (acc : check_of f ≡ Ok tt) (report : List ℕ) (room : report_length (basin_of f) ≤ length report) where
  months-after : (rs : List (List ℕ)) (bd : List ℕ) → All (λ (r : List ℕ). length r ≡ rows (basin_of f)) rs → length bd ≡ board_length → possible (basin_of f) bd ≡ true → first_over rs ≡ None
      → after_months f rs bd report ≡ boards_after (basin_of f) rs bd
  unfolding after_months first_over boards_after
  months-after [] bd w n can e = refl
  months-after (r ∷ rs) bd w n can e =
      let h : Lent f acc r bd report = record { sheet = w.0; size = n; can = can; room = room } in
      let first : over_answer (over_limit r) ≡ None = or-first (over_answer (over_limit r)) (first_over rs) e in
      let eb : (month_of f r bd report).board ≡ board_after (basin_of f) r bd = next-board f acc r bd report h first in
      months-after rs (month_of f r bd report).board w.1 (next-size f acc r bd report h) (next-can f acc r bd report h) (or-second (over_answer (over_limit r)) (first_over rs) e)
      ∙ ap (boards_after (basin_of f) rs) eb

-- ---- a run that is accepted

settled-board : (v : Option Answer) (k : ℕ) (x : Made) (bd old : List ℕ) → v ≡ None → (run_settled v k x bd old).board ≡ x.board
unfolding run_settled
settled-board None k x bd old e = refl
settled-board (Some a) k x bd old e = absurd (let z : ◌≡◌ {A = ℕ} 0 1 = cc in omega arith)

module _ (f book : List ℕ) (year : ℕ) (bd old : List ℕ) (run : run_refusal f book year bd old ≡ None) where
  abbrev made : Made
  made = year_made f book year bd old

  beside : or_else (lent_refusal f (run_fits (basin_of f) bd old) bd) made.refused ≡ None
  unfolding run_refusal
  beside = or-second (lookup_refusal f book year) (or_else (lent_refusal f (run_fits (basin_of f) bd old) bd) made.refused) run

  clear : Clear f (run_fits (basin_of f) bd old) bd
  clear = lent-clear f (run_fits (basin_of f) bd old) bd (or-first (lent_refusal f (run_fits (basin_of f) bd old) bd) made.refused beside)

  calls : CanCall f clear.file-ok (sheets_left f book year bd) bd old
  unfolding year_sheets
  calls = can-call f (year_part f book year) bd old clear

  pub none_over : first_over (sheets_left f book year bd) ≡ None
  none_over = sym (refused_over f clear.file-ok (sheets_left f book year bd) bd old calls) ∙ or-second (lent_refusal f (run_fits (basin_of f) bd old) bd) made.refused beside

  run-board : (year_of f book year bd old).board ≡ boards_after (basin_of f) (sheets_left f book year bd) bd
  unfolding year_of
  run-board = settled-board (run_refusal f book year bd old) (length (sheets_left f book year bd)) made bd old run ∙ (made-months f clear.file-ok (sheets_left f book year bd) bd old calls none_over).0

  run-count : length (sheets_left f book year bd) ≡ 12 - month_at bd
  unfolding year_sheets
  run-count = omega (arith, length-drop (month_at bd) (year_sheets f book year), sheets-length (rows (basin_of f)) (year_part f book year))

pub year_of_months : YearOfMonths
year_of_months f book year bd old report run room =
    let c = calls f book year bd old run in
    record {
      left = run-board f book year bd old run ∙ sym (months-after f (clear f book year bd old run).file-ok report room (sheets_left f book year bd) bd c.sheets c.size c.can (none_over f book year bd old run));
      count = run-count f book year bd old run;
    }
