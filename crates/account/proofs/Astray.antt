-- A month call and a year run on a board that is not possible: refused, at the latest for the board, and nothing is changed. Assumes nothing.
use Rattle.std.specs.Prelude.{Option, None, Some, Ok}
use mathlib.Core.Path.{◌≡◌, refl, ap, ◌∙◌}
use mathlib.Core.Bool.{Bool, true, false}
use mathlib.Core.List.{List}
use Prim.Native.Nat.{ℕ}
use lib.ListN.{length}
use Rattle.general.specs.Tests.{◌and◌}
use Rattle.rules.specs.Tally.{lists_fit, over_limit, over_answer}
use Rattle.rules.specs.Years.{room_for_year}
use Rattle.rules.specs.Answers.{Answer, told, or_else, unless}
use Rattle.rules.specs.declared.Refusal.TheVariants.{Lists, Board}
use Rattle.records.specs.Records.{basin_of}
use Rattle.filecheck.specs.Check.{check_of}
use Rattle.boards.specs.Board.{possible}
use Rattle.places.specs.Board.{board_length}
use Rattle.answers.specs.Answers.{lent_refusal, settled}
use Rattle.answers.proofs.Answers.{no-refusal}
use Rattle.month.specs.Month.{all_fit, month_refusal, Outcome, month_settled, month_of, MonthMeets}
use Rattle.book.specs.Book.{lookup_refusal}
use Rattle.years.specs.Years.{Made, year_made, sheets_left, run_fits, run_refusal, run_settled, year_of, YearMeets}
use Rattle.account.specs.Runs.{MonthCall, YearCall, month_event, year_event}
use Rattle.account.specs.Reports.{call_of}
use Rattle.account.specs.Claim.{astray, stray_answer, Follows}
use Rattle.account.proofs.Months.{lists-same}

-- ---- a refusal that there is

-- the board is the cause, unless the lists come before it
board-last : Bool → Option Answer
board-last fits = or_else (unless fits Lists) (Some (told Board))

-- it is a refusal, so what comes after it is not asked
stops : (fits : Bool) (later : Option Answer) → or_else (board-last fits) later ≡ Some (settled (board-last fits))
unfolding board-last or_else unless settled
stops true later = refl
stops false later = refl

stops-after : (first : Option Answer) (fits : Bool) (later : Option Answer) → or_else first (or_else (board-last fits) later) ≡ Some (settled (or_else first (board-last fits)))
unfolding board-last or_else unless settled
stops-after None true later = refl
stops-after None false later = refl
stops-after (Some a) fits later = refl

module _ (f : List ℕ) (ok : check_of f ≡ Ok tt) (l : List ℕ) (size : length l ≡ board_length) (cannot : possible (basin_of f) l ≡ false) where
  lent-astray : (fits : Bool) → lent_refusal f fits l ≡ board-last fits
  unfolding lent_refusal board-last or_else unless
  lent-astray true = rw (no-refusal f ok, cannot)
  lent-astray false = rw (no-refusal f ok)

  -- ---- a month call

  module _ (e : MonthCall) where
    abbrev fits : Bool
    fits = lists_fit (basin_of f) (call_of e)

    month-refused : month_refusal f e.runoff l e.report ≡ Some (settled (board-last fits))
    unfolding month_refusal
    month-refused =
        ap (λ (v : Option Answer). or_else v (over_answer (over_limit e.runoff))) (lent-astray (all_fit (basin_of f) e.runoff l e.report))
        ∙ ap (λ (t : Bool). or_else (board-last t) (over_answer (over_limit e.runoff))) (lists-same (basin_of f) e.runoff l e.report size)
        ∙ stops fits (over_answer (over_limit e.runoff))

    month-left : MonthMeets f e.runoff l e.report e.outcome → e.outcome ≡ record { answer = settled (board-last fits); board = l; report = e.report }
    unfolding month_of month_settled
    month-left m = m ∙ ap (λ (v : Option Answer). month_settled v (basin_of f) e.runoff l e.report) month-refused

    pub astray-month : MonthMeets f e.runoff l e.report e.outcome → Follows f (astray l) (month_event e)
    unfolding stray_answer board-last
    astray-month m = record {
      answer = ap (λ (o : Outcome). o.answer) (month-left m);
      report = ap (λ (o : Outcome). o.report) (month-left m);
      board = ap (λ (o : Outcome). o.board) (month-left m);
    }

  -- ---- a year run

  module _ (e : YearCall) where
    abbrev look : Option Answer
    look = lookup_refusal f e.book e.year

    abbrev made : Made
    made = year_made f e.book e.year l e.reports

    abbrev room : Bool
    room = room_for_year (basin_of f) (length e.reports)

    fits-same : run_fits (basin_of f) l e.reports ≡ room
    unfolding run_fits ◌and◌
    fits-same = rw size

    run_refused : run_refusal f e.book e.year l e.reports ≡ Some (settled (or_else look (board-last room)))
    unfolding run_refusal
    run_refused =
        ap (λ (v : Option Answer). or_else look (or_else v made.refused)) (lent-astray (run_fits (basin_of f) l e.reports))
        ∙ ap (λ (t : Bool). or_else look (or_else (board-last t) made.refused)) fits-same
        ∙ stops-after look room made.refused

    year-left : YearMeets f e.book e.year l e.reports e.outcome → e.outcome ≡ record { answer = settled (or_else look (board-last room)); board = l; report = e.reports }
    unfolding year_of run_settled
    year-left m = m ∙ ap (λ (v : Option Answer). run_settled v (length (sheets_left f e.book e.year l)) made l e.reports) run_refused

    pub astray-year : YearMeets f e.book e.year l e.reports e.outcome → Follows f (astray l) (year_event e)
    unfolding stray_answer board-last
    astray-year m = record {
      answer = ap (λ (o : Outcome). o.answer) (year-left m);
      report = ap (λ (o : Outcome). o.report) (year-left m);
      board = ap (λ (o : Outcome). o.board) (year-left m);
    }
