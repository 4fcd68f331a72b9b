-- The season computed. By the claim the calls tell the tally's months, so that no board has to be computed. Assumes nothing.
use Rattle.std.specs.Prelude.{Option, None, Ok}
use mathlib.Core.Path.{◌≡◌, refl, sym, ◌∙◌, subst}
use mathlib.Core.List.{List, [], ◌∷◌}
use Prim.Native.Nat.{ℕ, ◌<◌}
use native.Mathlib.Omega.{arith}
use lib.ListN.{length}
use Rattle.general.specs.Sums.{sum_over, sum_to}
use Rattle.general.specs.Tables.{tab}
use Rattle.general.specs.Tests.{◌and◌, has, first_at, bit}
use Rattle.general.specs.Routes.{follow}
use Rattle.rules.specs.Answers.{Answer, or_else, unless}
use Rattle.rules.specs.Basin.{Basin}
use Rattle.rules.specs.Path.{carries_on, row_below, path, until_row}
use Rattle.rules.specs.River.{diverted, reserved, released, returned, along, lowest, lesser}
use Rattle.rules.specs.Returns.{consumption, returning, shares_from, shares, parts_at, parts_of, lagged, return_now, returned_at}
use Rattle.rules.specs.Turn.{scheduled, demand, any_on, called, divertible, river_part, with_levels, after_diversion, river_stage, storage_part, storage_stage, return_stage, shortage, reason_of, first_on, low_row, number_at, controlling, Grant, turn}
use Rattle.rules.specs.Month.{grant_at, gathered, opening_levels, opening, turns, after_turns, returned_by, returns_at, towards, area_from, area_by, area_at, evaporation, evaporations, evaporated, next_month, MonthRun, month, reason_number, is_short, opening_shorts, noted, short_count}
use Rattle.rules.specs.Tally.{Call, lists_fit, over_limit, over_answer, refusal, fresh_carried, fresh_start, begun, Tally, fresh, pending_from, still_due, pending, arriving, next_run, accept, after_judged, after_call, after_calls, answer_judged, answer_of}
use Rattle.rules.specs.Years.{monthly, counts_as, after_entry, entry_answer}
use Rattle.rules.specs.October.{october, elder_alone}
use Rattle.numbers.specs.Bytes.{le32_at}
use Rattle.sections.specs.File.{width_of, offset_of, count_of, section_of}
use Rattle.records.specs.Records.{basin_of}
use Rattle.filecheck.specs.Check.{check_of}
use Rattle.filecheck.specs.October.{october_file, elder_alone_file}
use Rattle.filecheck.proofs.October.{october-checked}
use Rattle.answers.proofs.Answers.{no-refusal}
use Rattle.fresh.specs.Fresh.{fresh_refusal, fresh_board, fresh_settled, fresh_of}
use Rattle.month.specs.Month.{call_with}
use Rattle.account.specs.Runs.{MonthCall, Event, month_event, fresh_event}
use Rattle.account.specs.Reports.{Tells, call_of, MonthReport}
use Rattle.account.specs.Claim.{Follows, Accounted, tallied}
use Rattle.account.proofs.Theorems.{claim}
use Rattle.elders.specs.Elders.{SameElders}
use Rattle.elders.proofs.Theorems.{one_fresh_board}
use Rattle.elders.specs.Season.{lent_board, fresh_call, october_sheet, november_sheet, lent_list, october_call, november_call, short_rights, first_line, Season}

elders-so : SameElders october_file elder_alone_file 1
unfolding october_file elder_alone_file section_of offset_of count_of width_of le32_at ◌and◌
elders-so = record { stations = refl; reservoirs = refl; patterns = refl; rights = refl; first_has = omega arith; second_has = omega arith }

-- ---- the two months of the tally

abbrev october_asked : Call
october_asked = call_with october_sheet lent_list

abbrev november_asked : Call
november_asked = call_with november_sheet lent_list

abbrev after_october : Basin → Tally
after_october b = after_entry b (fresh b) (monthly october_asked)

-- the first right's line as a month has it
abbrev line_in : MonthRun → List ℕ
line_in h = let g : Grant = grant_at h.turns 0 in g.from_river ∷ g.from_storage ∷ reason_number g.reason ∷ g.station ∷ []

record Tallied (b : Basin) (in_october : ℕ) (october_line : List ℕ) (in_november : ℕ) (november_line : List ℕ) : Type 0 where
  some_right : 0 < length b.rights
  october-fits : refusal b october_asked ≡ None
  november-fits : refusal b november_asked ≡ None
  october_answer : entry_answer b (fresh b) (monthly october_asked) ≡ short_rights in_october
  october-line : line_in (next_run b (fresh b) october_asked) ≡ october_line
  november_answer : entry_answer b (after_october b) (monthly november_asked) ≡ short_rights in_november
  november-line : line_in (next_run b (after_october b) november_asked) ≡ november_line

tallied-so : Tallied october 2 (1500 ∷ 0 ∷ 0 ∷ 0 ∷ []) 4 (542 ∷ 0 ∷ 2 ∷ 300 ∷ []) × Tallied elder_alone 0 (1500 ∷ 0 ∷ 0 ∷ 0 ∷ []) 1 (300 ∷ 0 ∷ 2 ∷ 300 ∷ [])
unfolding sum_over sum_to tab ◌and◌ has first_at bit follow or_else unless carries_on row_below path until_row diverted reserved released returned along lowest lesser consumption returning shares_from shares parts_at parts_of lagged return_now returned_at scheduled demand any_on called divertible river_part with_levels after_diversion river_stage storage_part storage_stage return_stage shortage reason_of first_on low_row number_at controlling turn gathered opening_levels opening turns after_turns returned_by returns_at towards area_from area_by area_at evaporation evaporations evaporated next_month month reason_number is_short opening_shorts noted short_count lists_fit over_limit over_answer refusal fresh_carried fresh_start begun pending_from still_due pending arriving next_run accept after_judged after_call after_calls answer_judged answer_of counts_as after_entry entry_answer
tallied-so = (
  record { some_right = omega arith; october-fits = refl; november-fits = refl; october_answer = refl; october-line = refl; november_answer = refl; november-line = refl },
  record { some_right = omega arith; october-fits = refl; november-fits = refl; october_answer = refl; october-line = refl; november_answer = refl; november-line = refl },
)

-- ---- the calls tell them

-- what a month call that follows the tally tells of the first right
line-told : (f : List ℕ) (t : Tally) (e : MonthCall) → Follows f (tallied t) (month_event e) → refusal (basin_of f) (call_of e) ≡ None → 0 < length (basin_of f).rights
    → first_line e.outcome.report ≡ line_in (next_run (basin_of f) t (call_of e))
line-told f t e w accepted h =
    let tells : Tells (basin_of f) (next_run (basin_of f) t (call_of e)) e.report e.outcome.report = subst (λ (v : Option Answer). MonthReport v (basin_of f) t e) accepted w.report in
    λ z. tells.from-river 0 h z ∷ tells.from-storage 0 h z ∷ tells.reason 0 h z ∷ tells.station 0 h z ∷ []

module _ (f : List ℕ) (ok : check_of f ≡ Ok tt) {october_short november_short : ℕ} {october_line november_line : List ℕ} (w : Tallied (basin_of f) october_short october_line november_short november_line) where
  abbrev october_made : MonthCall
  october_made = record { runoff = october_sheet; report = lent_list; outcome = october_call f }

  abbrev november_made : MonthCall
  november_made = record { runoff = november_sheet; report = lent_list; outcome = november_call f }

  abbrev made : List Event
  made = fresh_event (record { outcome = fresh_call f }) ∷ month_event october_made ∷ month_event november_made ∷ []

  accounted : Accounted f lent_board made
  accounted = claim f lent_board ok refl made (refl, (refl, (refl, tt)))

  october-follows : Follows f (tallied (fresh (basin_of f))) (month_event october_made)
  october-follows = accounted.follows.1.0

  november-follows : Follows f (tallied (after_october (basin_of f))) (month_event november_made)
  november-follows = accounted.follows.1.1.0

  october-answered : (october_call f).answer ≡ short_rights october_short
  october-answered = october-follows.answer ∙ w.october_answer

  october-lined : first_line (october_call f).report ≡ october_line
  october-lined = line-told f (fresh (basin_of f)) october_made october-follows w.october-fits w.some_right ∙ w.october-line

  november-answered : (november_call f).answer ≡ short_rights november_short
  november-answered = november-follows.answer ∙ w.november_answer

  november-lined : first_line (november_call f).report ≡ november_line
  november-lined = line-told f (after_october (basin_of f)) november_made november-follows w.november-fits w.some_right ∙ w.november-line

  -- fresh leaves the file's fresh board
  fresh-left : (fresh_call f).board ≡ fresh_board (basin_of f)
  unfolding fresh_of fresh_settled fresh_refusal or_else unless
  fresh-left = rw (no-refusal f ok)

-- ---- both files

with-younger : Tallied (basin_of october_file) 2 (1500 ∷ 0 ∷ 0 ∷ 0 ∷ []) 4 (542 ∷ 0 ∷ 2 ∷ 300 ∷ [])
with-younger = rw october-checked.decoded tallied-so.0

alone : Tallied (basin_of elder_alone_file) 0 (1500 ∷ 0 ∷ 0 ∷ 0 ∷ []) 1 (300 ∷ 0 ∷ 2 ∷ 300 ∷ [])
alone = rw october-checked.alone_decoded tallied-so.1

pub season : Season
season =
    let ok : check_of october_file ≡ Ok tt = october-checked.accepted in
    let alone-ok : check_of elder_alone_file ≡ Ok tt = october-checked.alone_accepted in
    record {
      elders = elders-so;
      one_board = fresh-left october_file ok with-younger ∙ one_fresh_board october_file elder_alone_file 1 elders-so ∙ sym (fresh-left elder_alone_file alone-ok alone);
      october_answer = october-answered october_file ok with-younger;
      october-line = october-lined october_file ok with-younger;
      october_alone = october-answered elder_alone_file alone-ok alone;
      october_line_alone = october-lined elder_alone_file alone-ok alone;
      november_answer = november-answered october_file ok with-younger;
      november-line = november-lined october_file ok with-younger;
      november_alone = november-answered elder_alone_file alone-ok alone;
      november_line_alone = november-lined elder_alone_file alone-ok alone;
    }
