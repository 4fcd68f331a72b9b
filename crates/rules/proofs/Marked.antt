-- The list marked M and the cases beside it, computed. Assumes nothing.
use mathlib.Core.Path.{◌≡◌, refl}
use Prim.Native.Nat.{ℕ, ◌^◌}
use native.Mathlib.Nat.{zero-div}
use native.Mathlib.Omega.{arith}
use Rattle.general.specs.Sums.{sum_over, sum_over_ℤ, sum_to}
use Rattle.general.specs.Tables.{tab}
use Rattle.general.specs.Routes.{follow}
use Rattle.general.specs.Tests.{◌and◌, has, first_at, bit}
use Rattle.rules.specs.Basin.{Kind, Right, Basin}
use Rattle.rules.specs.Path.{carries_on, row_below, path, until_row}
use Rattle.rules.specs.River.{diverted, reserved, released, returned, along, lowest, lesser}
use Rattle.rules.specs.Returns.{consumption, returning, shares_from, shares, deep_loss, parts_at, parts_of, lagged, return_now, returned_at, lost_deep}
use Rattle.rules.specs.Turn.{State, scheduled, demand, any_on, called, divertible, river_part, with_levels, after_diversion, river_stage, storage_part, storage_stage, return_stage, shortage, reason_of, first_on, low_row, number_at, controlling, turn}
use Rattle.rules.specs.Month.{gathered, opening_levels, opening, turns, after_turns, consumed_by, returned_by, returns_at, deep_by, deep_of, towards, area_from, area_by, area_at, evaporation, evaporations, evaporated, reason_number, is_short, opening_shorts, noted, next_month, month, short_count}
use Rattle.rules.specs.Answers.{or_else, unless}
use Rattle.rules.specs.Years.{calls_in, room_for_year, first_refusal, run_refusal, run_answer, run_counts, counts_as, after_entry, entry_answer}
use Rattle.rules.specs.Tally.{lists_fit, over_limit, over_answer, refusal, fresh_carried, fresh_start, begun, still_due, pending_from, pending, arriving, next_run, accept, after_judged, after_call, after_calls, answer_judged, answer_of, answers}
use Rattle.rules.specs.Water.{total_runoff, total_outflow, total_consumption, total_evaporation, total_deep, in_transit, starting_storage, starting_dues}
use Rattle.rules.specs.Shortness.{is_october, any_october, since_october, short_in, short_before, short_now}
use Rattle.rules.specs.Marked.{Computed}
use Rattle.rules.proofs.Bounds.{demand-le}

-- a right that uses no month asks nothing
unscheduled : (m : ℕ) (r : Right) → r.months ≡ 0 → scheduled m r ≡ 0
unfolding scheduled bit
unscheduled m r e = rw (e, zero-div (2 ^ m))

asks_nothing : (k : Kind) (b : Basin) (m i : ℕ) (r : Right) (s : State) → r.months ≡ 0 → demand k b m i r s ≡ 0
asks_nothing k b m i r s e = omega (arith, demand-le b r s k m i, unscheduled m r e)

pub computed : Computed
unfolding sum_over sum_over_ℤ sum_to tab ◌and◌ has first_at follow carries_on row_below path until_row diverted reserved released returned along lowest lesser consumption returning shares_from shares deep_loss parts_at parts_of lagged return_now returned_at lost_deep bit scheduled demand any_on called divertible river_part with_levels after_diversion river_stage storage_part storage_stage return_stage shortage reason_of first_on low_row number_at controlling turn gathered opening_levels opening turns after_turns consumed_by returned_by returns_at deep_by deep_of towards area_from area_by area_at evaporation evaporations evaporated next_month month reason_number is_short opening_shorts noted is_october any_october since_october short_in short_before short_now short_count lists_fit over_limit over_answer or_else unless refusal fresh_carried fresh_start begun still_due pending_from pending arriving next_run accept after_judged after_call after_calls answer_judged answer_of answers calls_in room_for_year first_refusal run_refusal run_answer run_counts counts_as after_entry entry_answer total_runoff total_outflow total_consumption total_evaporation total_deep in_transit starting_storage starting_dues
computed = record {
  marked = record {
    october_answer = refl;
    october_grants = refl;
    october_levels = refl;
    october_evaporation = refl;
    october_carried = refl;
    october_pending = refl;
    october_in_transit = refl;
    october_outflow = refl;
    october_consumption = refl;
    split_805 = refl;
    split_1 = refl;
    split_0 = refl;
    consumption_1 = refl;
    area_1999 = refl;
    area_2000 = refl;
    area_7500 = refl;
    no_month = asks_nothing;
    below_100 = refl;
  };
  told = record {
    path_by_order = refl;
    called_gets_none = refl;
    called_leaves = refl;
    first_tight = refl;
    draw_ends = refl;
    evaporation_ends = refl;
    falling_areas = refl;
    above_table = refl;
    widest_table = refl;
    filled_once = refl;
    filled_mark = refl;
    split_in_part = refl;
    deep_in_part = refl;
    deep_whole = refl;
    deep_none = refl;
    deep_by_part = refl;
    seeping_deep = refl;
    seeping_outflow = refl;
    seeping_stored = refl;
    october_clears_marks = refl;
    october_clears_taken = refl;
    month_marks = refl;
    month_short = refl;
    october_marks = refl;
    october-short = refl;
    started_flow = refl;
    started_pending = refl;
    started_sum = refl;
    started_evaporation = refl;
    started_month = refl;
    run_made = refl;
    run_ends = refl;
    run_refused = refl;
    run_undone = refl;
    run_short = refl;
    run_unlisted = refl;
    refusals = refl;
    refused_no_month = refl;
  };
}
