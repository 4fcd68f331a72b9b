-- A run of calls is accounted for: one claim about any list of calls that can change a board, months, years, fresh and recalls, accepted and refused in any
-- mix, from any board. What the calls answer and leave is what the tally says (01, "The tally of a list of months"; 02, Nos. 4 to 7). It cites only
-- definitions; proofs/Theorems.antt proves it.
use Rattle.std.specs.Prelude.{◌≡◌, true, false, cond, List, [], ◌∷◌, map, ℕ, ◌<◌, ltb, length, Some, Ok}
use Rattle.general.specs.Sums.{only}
use Rattle.general.specs.Tables.{All}
use Rattle.rules.specs.Basin.{Basin, rows}
use Rattle.rules.specs.Tally.{lists_fit, refusal, Start, fresh_start, Tally, begun, fresh, pending}
use Rattle.rules.specs.Years.{YearRun, calls_in, room_for_year, run_refusal, Entry, monthly, yearly, after_entry, entry_answer}
use Rattle.rules.specs.Answers.{Answer, told, or_else, unless}
use Rattle.rules.specs.Water.{MonthSound, WaterKept}
use Rattle.rules.specs.Shortness.{since_october, short_in, short_now}
use Rattle.rules.specs.declared.Refusal.TheVariants.{Lists, Board}
use Rattle.records.specs.Records.{basin_of}
use Rattle.filecheck.specs.Check.{check_of}
use Rattle.places.specs.Board.{board_length, due_at}
use Rattle.boards.specs.Board.{carried_of, board_of, possible}
use Rattle.answers.specs.Answers.{accepted, settled}
use Rattle.fresh.specs.Fresh.{fresh_board}
use Rattle.stock.specs.Months.{short_months_of}
use Rattle.month.specs.Month.{run_of}
use Rattle.book.specs.Book.{lookup_refusal}
use Rattle.years.specs.Years.{year_sheets}
use Rattle.entries.specs.Entries.{board_at}
use Rattle.store.specs.Calls.{Meant, refused, entry, name_means, save_of, recall_of}
use Rattle.store.specs.Theorems.{Words, Change, change_name, after_changes}
use Rattle.account.specs.Runs.{MonthCall, YearCall, Event, month_event, year_event, fresh_event, recall_event, answer_by, left_by, Run, board_left, lent_to}
use Rattle.account.specs.Reports.{call_of, MonthReport, RunReports}

-- ---- boards and the tally

-- what a board starts a list of calls from: m, storages, marks, taken, the months in which each right was short, and what is due at each row
unfoldable pub start_of : Basin → List ℕ → Start
start_of b l = record { carried = carried_of b l; due = λ w k. only (ltb w (rows b)) (due_at l w k) }

-- the board that the tally keeps: m, storages, marks, taken, short words, and pending at each row and k
unfoldable pub tally_board : Basin → Tally → List ℕ
tally_board b t = board_of b t.carried (pending b t.start t.months)

-- ---- where a run stands

-- with a tally, which has counted since the last start; or astray, on a board that is not possible for the basin
pub data Standing : Type 0 where
  tallied : Tally → Standing
  astray : List ℕ → Standing

-- A board that is possible starts a tally, which reads it once. On another no month is run.
unfoldable pub stands_on : Basin → List ℕ → Standing
stands_on b l = cond (possible b l) (tallied (begun (start_of b l))) (astray l)

abbrev pub board_there : Basin → Standing → List ℕ
board_there b (tallied t) = tally_board b t
board_there b (astray l) = l

-- ---- the calls as the tally sees them, without their board

-- of the book it sees what the look-up of the year gives, of the list only how long it is
abbrev pub run_in : List ℕ → YearCall → YearRun
run_in f e = record { lookup = lookup_refusal f e.book e.year; sheets = year_sheets f e.book e.year; room = length e.reports }

-- month calls and year runs go on with the tally that there is; astray nothing moves
abbrev pub goes_on : Basin → Standing → Entry → Standing
goes_on b (tallied t) x = tallied (after_entry b t x)
goes_on b (astray l) x = astray l

-- a recall that is refused leaves all as it is; another starts anew from the board that it means
abbrev pub starts_anew : Basin → Standing → List ℕ → Meant → Standing
starts_anew b st s (refused a) = st
starts_anew b st s (entry e) = stands_on b (board_at s e)

abbrev pub after_event : List ℕ → Standing → Event → Standing
after_event f st (month_event e) = goes_on (basin_of f) st (monthly (call_of e))
after_event f st (year_event e) = goes_on (basin_of f) st (yearly (run_in f e))
after_event f st (fresh_event e) = tallied (fresh (basin_of f))
after_event f st (recall_event e) = starts_anew (basin_of f) st e.store (name_means e.store e.name)

abbrev pub after_events : List ℕ → Standing → List Event → Standing
after_events f st [] = st
after_events f st (e ∷ es) = after_events f (after_event f st e) es

-- ---- their answers

-- Astray the board is the cause of the refusal, unless another comes before it.
unfoldable pub stray_answer : Basin → Entry → Answer
stray_answer b (monthly c) = settled (or_else (unless (lists_fit b c) Lists) (Some (told Board)))
stray_answer b (yearly y) = settled (or_else y.lookup (or_else (unless (room_for_year b y.room) Lists) (Some (told Board))))

abbrev pub answers_entry : Basin → Standing → Entry → Answer
answers_entry b (tallied t) x = entry_answer b t x
answers_entry b (astray l) x = stray_answer b x

abbrev pub meant_answer : Meant → Answer
meant_answer (refused a) = a
meant_answer (entry e) = accepted

abbrev pub answer_to : List ℕ → Standing → Event → Answer
answer_to f st (month_event e) = answers_entry (basin_of f) st (monthly (call_of e))
answer_to f st (year_event e) = answers_entry (basin_of f) st (yearly (run_in f e))
answer_to f st (fresh_event e) = accepted
answer_to f st (recall_event e) = meant_answer (name_means e.store e.name)

-- ---- their reports

abbrev pub MonthReportOk : List ℕ → Standing → MonthCall → Type 0
MonthReportOk f (tallied t) e = MonthReport (refusal (basin_of f) (call_of e)) (basin_of f) t e
MonthReportOk f (astray l) e = e.outcome.report ≡ e.report

abbrev pub YearReportsOk : List ℕ → Standing → YearCall → Type 0
YearReportsOk f (tallied t) e = RunReports (run_refusal (basin_of f) t (run_in f e)) (basin_of f) t (calls_in (basin_of f) t (run_in f e)) e
YearReportsOk f (astray l) e = e.outcome.report ≡ e.reports

-- fresh and recall are lent no report
abbrev pub ReportOk : List ℕ → Standing → Event → Type 0
ReportOk f st (month_event e) = MonthReportOk f st e
ReportOk f st (year_event e) = YearReportsOk f st e
ReportOk f st (fresh_event e) = Unit {0}
ReportOk f st (recall_event e) = Unit {0}

-- ---- call for call

pub record Follows (f : List ℕ) (st : Standing) (e : Event) : Type 0 where
  pub answer : answer_by e ≡ answer_to f st e
  pub report : ReportOk f st e
  pub board : left_by e ≡ board_there (basin_of f) (after_event f st e)

abbrev pub AllFollow : List ℕ → Standing → List Event → Type 0
AllFollow f st [] = Unit {0}
AllFollow f st (e ∷ es) = Follows f st e × AllFollow f (after_event f st e) es

-- ---- the claim

-- what holds of the tally at which a run stands, since its start
pub record Kept (f : List ℕ) (t : Tally) : Type 0 where
  -- what is answered on its board as a right's short months are the months of the present water year in which its grants for it were short
  pub short-months : (i : ℕ) → i < length (basin_of f).rights → short_months_of f (tally_board (basin_of f) t) i ≡ record { number = 0; place = 0; months = short_now t.start t.months i }
  -- No water is lost and none has appeared since the start, whose storages and dues are counted; each reservoir holds what its grants and its evaporation
  -- leave; at no checkpoint was a flow negative or below the available flow.
  pub water : WaterKept (basin_of f) t

abbrev pub KeptAt : List ℕ → Standing → Type 0
KeptAt f (tallied t) = Kept f t
KeptAt f (astray l) = possible (basin_of f) l ≡ false

-- The run es that began with this board is accounted for.
pub record Accounted (f board : List ℕ) (es : List Event) : Type 0 where
  -- call for call, answer, report and board are the tally's
  pub follows : AllFollow f (stands_on (basin_of f) board) es
  -- and so is the board after the whole run, be it empty
  pub left : board_left board es ≡ board_there (basin_of f) (after_events f (stands_on (basin_of f) board) es)
  -- by then nothing is lost
  pub kept : KeptAt f (after_events f (stands_on (basin_of f) board) es)

-- So is every run, for every file that the check accepts and every board, with months, years, fresh and recalls accepted and refused in any mix.
abbrev pub Claim : Type 0
Claim = (f board : List ℕ) → check_of f ≡ Ok tt → length board ≡ board_length → (es : List Event) → Run f board es → Accounted f board es

-- ---- two starts

-- The board that fresh leaves is possible, and what it starts from is the fresh start: that is the tally with which a run goes on after fresh.
pub record FreshBoard (b : Basin) : Type 0 where
  pub size : length (fresh_board b) ≡ board_length
  pub is_possible : possible b (fresh_board b) ≡ true
  pub starts : start_of b (fresh_board b) ≡ fresh_start b

abbrev pub FreshStarts : Type 0
FreshStarts = (f : List ℕ) → check_of f ≡ Ok tt → FreshBoard (basin_of f)

-- since a fresh start the short months are just those of the grants since October
abbrev pub ShortFromFresh : Type 0
ShortFromFresh = (f board : List ℕ) → check_of f ≡ Ok tt → length board ≡ board_length → (es : List Event) → Run f board es
    → (t : Tally) → after_events f (stands_on (basin_of f) board) es ≡ tallied t → t.start ≡ fresh_start (basin_of f) → (i : ℕ) → i < length (basin_of f).rights
    → short_months_of f (board_left board es) i ≡ record { number = 0; place = 0; months = short_in i (since_october t.months) }

-- What was tried leaves no trace: after a save, whatever else was saved and dropped under other names meanwhile, a run that goes on from the board recalled is
-- the run that would have gone on from the board saved, answer for answer, report for report, board for board.
abbrev pub Untried : Type 0
Untried = (f board store name lent : List ℕ) → Words board → (save_of store name board).answer.number ≡ 0 → length lent ≡ board_length
    → (cs : List Change) → All (λ (c : Change). change_name c ≡ name → ⊥) cs → (es es' : List Event) → map lent_to es' ≡ map lent_to es
    → Run f board es → Run f (recall_of (after_changes (save_of store name board).store cs) name lent).board es' → es' ≡ es

-- ---- the checkpoints of a month from any possible board, with any runoff: before the first right and three times in each right's turn

abbrev pub Checkpoints : Type 0
Checkpoints = (f board runoff : List ℕ) → check_of f ≡ Ok tt → length board ≡ board_length → possible (basin_of f) board ≡ true → MonthSound (basin_of f) (run_of (basin_of f) runoff board)
