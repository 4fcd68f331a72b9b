-- The reports of accepted months, told number by number against the tally's months.
use Rattle.std.specs.Prelude.{◌≡◌, List, [], ◌∷◌, ℕ, ◌≤◌, ◌<◌, length, get_or, take, drop, pos, Option, None, Some}
use Rattle.rules.specs.Basin.{Basin, rows}
use Rattle.rules.specs.River.{flow_at, available_at}
use Rattle.rules.specs.Month.{MonthRun, reason_number, grant_at, deep_of}
use Rattle.rules.specs.Tally.{Call, report_length, Tally, next_run, after_call}
use Rattle.rules.specs.Answers.{Answer}
use Rattle.boards.specs.Report.{report_of}
use Rattle.places.specs.Report.{from_river_place, from_storage_place, reason_place, station_place, flow_place, available_place, evaporation_place, deep_place}
use Rattle.month.specs.Month.{call_with}
use Rattle.account.specs.Runs.{MonthCall, YearCall}

-- the report after a month run, told number by number; before is the report that was lent
pub record Tells (b : Basin) (h : MonthRun) (before after : List ℕ) : Type 0 where
  -- all grants: river part, reservoir part, reason and station
  pub from-river : (i : ℕ) → i < length b.rights → get_or after (from_river_place i) 0 ≡ (grant_at h.turns i).from_river
  pub from-storage : (i : ℕ) → i < length b.rights → get_or after (from_storage_place i) 0 ≡ (grant_at h.turns i).from_storage
  pub reason : (i : ℕ) → i < length b.rights → get_or after (reason_place i) 0 ≡ reason_number (grant_at h.turns i).reason
  pub station : (i : ℕ) → i < length b.rights → get_or after (station_place i) 0 ≡ (grant_at h.turns i).station
  -- flows and available flows, as signed numbers
  pub flow : (w : ℕ) → w < rows b → pos (get_or after (flow_place (length b.rights) w) 0) ≡ flow_at h.closed.levels w
  pub available : (w : ℕ) → w < rows b → pos (get_or after (available_place (length b.rights) w) 0) ≡ available_at h.closed.levels w
  -- evaporation
  pub evaporation : (v : ℕ) → v < length b.reservoirs → get_or after (evaporation_place (length b.rights) (rows b) v) 0 ≡ get_or h.evaporation v 0
  -- what went deep, by the grants
  pub deep : get_or after (deep_place (length b.rights) (rows b) (length b.reservoirs)) 0 ≡ deep_of b h.turns
  -- the rest of the list is as it was
  pub beyond : drop (report_length b) after ≡ drop (report_length b) before
  pub size : length after ≡ length before

-- Nothing is left untold: a report of which all this holds is the month's report, number for number.
abbrev pub TellsAll : Type 0
TellsAll = (b : Basin) (h : MonthRun) (before after : List ℕ) → report_length b ≤ length before → Tells b h before after → after ≡ report_of b h before

-- a month call as the tally sees it: no board, and of the report only how long it is
abbrev pub call_of : MonthCall → Call
call_of e = call_with e.runoff e.report

-- an accepted month call tells the tally's month; a refused one leaves the report as it was
abbrev pub MonthReport : Option Answer → Basin → Tally → MonthCall → Type 0
MonthReport None b t e = Tells b (next_run b t (call_of e)) e.report e.outcome.report
MonthReport (Some a) b t e = e.outcome.report ≡ e.report

-- the reports of calls one after another, each on a part of the list as long as a report; beyond them the list is as it was
abbrev pub TellsEach : Basin → Tally → List Call → List ℕ → List ℕ → Type 0
TellsEach b t [] before after = after ≡ before
TellsEach b t (c ∷ cs) before after =
    Tells b (next_run b t c) (take (report_length b) before) (take (report_length b) after)
    × TellsEach b (after_call b t c) cs (drop (report_length b) before) (drop (report_length b) after)

-- an accepted year run tells each of its months; a refused one leaves the list as it was
abbrev pub RunReports : Option Answer → Basin → Tally → List Call → YearCall → Type 0
RunReports None b t cs e = TellsEach b t cs e.reports e.outcome.report
RunReports (Some a) b t cs e = e.outcome.report ≡ e.reports
