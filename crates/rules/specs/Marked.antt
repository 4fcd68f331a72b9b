-- The list marked M (01, "One October, whole") as one claim: each field is an item. After it, as a second claim, small cases that October does not tell
-- apart from a slip.
use Rattle.std.specs.Prelude.{◌≡◌, Bool, true, false, List, [], ◌∷◌, ◌++◌, ℕ, suc, ◌+◌, ◌-◌, length, get_or, replicate, pos, None, Some}
use Rattle.general.specs.Tables.{tab}
use Rattle.rules.specs.Basin.{Station, Survey, Reservoir, Kind, direct, project, instream, Right, Basin}
use Rattle.rules.specs.Path.{row_below, path}
use Rattle.rules.specs.River.{Level}
use Rattle.rules.specs.Returns.{consumed_at, shares, deep_loss}
use Rattle.rules.specs.Turn.{State, met, called_out, river_low, storage_out, Grant, demand}
use Rattle.rules.specs.Month.{opening, grants_of, deep_of, area_at, MonthRun}
use Rattle.rules.specs.declared.Refusal.TheVariants.{Year}
use Rattle.rules.specs.Answers.{told}
use Rattle.rules.specs.Tally.{Call, Start, Tally, fresh, begun, pending, next_run, after_calls, answers}
use Rattle.rules.specs.Years.{YearRun, yearly, after_entry, entry_answer}
use Rattle.rules.specs.Water.{total_runoff, total_outflow, total_consumption, total_evaporation, total_deep, in_transit, starting_storage, starting_dues}
use Rattle.rules.specs.Shortness.{short_now}
use Rattle.rules.specs.October.{all_months, plain_right, storage_right, returning_right, october_stations, october_reservoir, october, october_call}

abbrev pub level : ℕ → ℕ → Level
level flow available = record { flow = pos flow; available = pos available }

abbrev pub after_october : Tally
after_october = after_calls october (fresh october) (october_call ∷ [])

abbrev pub october_run : MonthRun
october_run = next_run october (fresh october) october_call

-- a right's months, short in none, and in October alone
abbrev pub never_short : List Bool
never_short = replicate 12 false

abbrev pub short_in_october : List Bool
short_in_october = true ∷ replicate 11 false

-- ---- the list marked M

pub record Marked : Type 0 where
  -- this October: 0 and two rights short
  pub october_answer : answers october (fresh october) (october_call ∷ []) ≡ record { number = 0; place = 2 } ∷ []
  pub october_grants : grants_of october_run.turns ≡
      record { from_river = 1500; from_storage = 0; reason = met; station = 0 }
      ∷ record { from_river = 1201; from_storage = 0; reason = met; station = 0 }
      ∷ record { from_river = 701; from_storage = 0; reason = river_low; station = 300 }
      ∷ record { from_river = 0; from_storage = 600; reason = met; station = 0 }
      ∷ record { from_river = 0; from_storage = 0; reason = called_out; station = 100 }
      ∷ []
  pub october_levels : october_run.closed.levels ≡ level 1899 1299 ∷ level 798 798 ∷ level 0 0 ∷ []
  pub october_evaporation : october_run.evaporation ≡ 75 ∷ []
  pub october_carried : after_october.carried
      ≡ record { m = 1; storages = 1026 ∷ []; marks = false ∷ []; taken = 0 ∷ 0 ∷ 701 ∷ 0 ∷ 0 ∷ []; shorts = never_short ∷ never_short ∷ short_in_october ∷ never_short ∷ short_in_october ∷ [] }
  -- of 805 that return at the last row, 242 are pending for November and 161 for December: 403 in all
  pub october_pending : tab 3 (λ w. tab 11 (λ k. pending october after_october.start after_october.months w (suc k))) ≡ replicate 11 0 ∷ replicate 11 0 ∷ (242 ∷ 161 ∷ replicate 9 0) ∷ []
  pub october_in_transit : in_transit october after_october.start after_october.months ≡ 403
  pub october_outflow : total_outflow october after_october.months ≡ pos 0
  pub october_consumption : total_consumption after_october.months ≡ 2496
  -- splitting
  pub split_805 : shares 805 (50 ∷ 30 ∷ 20 ∷ []) ≡ 402 ∷ 242 ∷ 161 ∷ []
  pub split_1 : shares 1 (50 ∷ 30 ∷ 20 ∷ []) ≡ 0 ∷ 0 ∷ 1 ∷ []
  pub split_0 : shares 0 (50 ∷ 30 ∷ 20 ∷ []) ≡ 0 ∷ 0 ∷ 0 ∷ []
  -- consumption of 1 at 33
  pub consumption_1 : consumed_at 1 33 ≡ 0
  -- areas
  pub area_1999 : area_at october_reservoir 1999 ≡ 19
  pub area_2000 : area_at october_reservoir 2000 ≡ 20
  pub area_7500 : area_at october_reservoir 7500 ≡ 40
  -- months word 0 asks 0: of every kind, in every basin, month and state
  pub no_month : (k : Kind) (b : Basin) (m i : ℕ) (r : Right) (s : State) → r.months ≡ 0 → demand k b m i r s ≡ 0
  -- the row below 100 is 200
  pub below_100 : row_below october_stations 0 ≡ Some 1

-- ---- cases that October misses

-- Orders 2, 3, 2, 1: the river of the first row passes the second by.
abbrev pub branched_stations : List Station
branched_stations = record { number = 10; order = 2 } ∷ record { number = 20; order = 3 } ∷ record { number = 30; order = 2 } ∷ record { number = 40; order = 1 } ∷ []

abbrev pub two_stations : List Station
two_stations = record { number = 100; order = 1 } ∷ record { number = 200; order = 1 } ∷ []

-- a lake at the first row, by its area-capacity table, and of one depth in all months
abbrev pub surveyed_lake : List Survey → ℕ → ℕ → ℕ → Reservoir
surveyed_lake table capacity start depth = record { row = 0; capacity = capacity; start = start; surveys = table; depths = replicate 12 depth }

abbrev pub pair : ℕ → ℕ → Survey
pair content area = record { content = content; area = area }

-- one with an area of 10 acres at any storage
abbrev pub lake : ℕ → ℕ → ℕ → Reservoir
lake capacity start depth = surveyed_lake (pair 0 10 ∷ pair 1 10 ∷ pair 2 10 ∷ pair 3 10 ∷ []) capacity start depth

-- one that shrinks as it fills, surveyed to 9 units of the 1000 that it holds
abbrev pub shrinking_lake : Reservoir
shrinking_lake = surveyed_lake (pair 0 20 ∷ pair 3 10 ∷ pair 5 10 ∷ pair 9 4 ∷ []) 1000 500 5

-- one of the largest numbers that a table may have
abbrev pub widest_lake : Reservoir
widest_lake = surveyed_lake (pair 0 1_000_000 ∷ pair 1 0 ∷ pair 2 1_000_000 ∷ pair 4_294_967_295 0 ∷ []) 2_000_000_000 2_000_000_000 0

-- A senior at the second row lacks water. A project right at the first row, called out, lives from storage and returns all of it at once. A junior at the
-- first row finds water in the river, and gets none, for it is called out.
abbrev pub called_basin : Basin
called_basin = record {
  stations = two_stations;
  reservoirs = lake 1000 500 0 ∷ [];
  patterns = (100 ∷ replicate 11 0) ∷ [];
  rights = plain_right 1 18900101 direct 1 255 150 ∷ returning_right 2 18910101 project 0 0 50 0 0 ∷ plain_right 3 18920101 direct 0 255 10 ∷ [];
}

-- Rights at rows 2, 0, 3, 2, 1 and, instream, 0. The first two leave nothing from row 2 on. The third is short at row 3 and calls the fourth and fifth; the
-- fourth, short at row 2, calls the fifth too.
abbrev pub tight_basin : Basin
tight_basin = record {
  stations = branched_stations;
  reservoirs = [];
  patterns = [];
  rights =
      plain_right 1 18900101 direct 2 255 10 ∷ plain_right 2 18910101 direct 0 255 15 ∷ plain_right 3 18920101 direct 3 255 5
      ∷ plain_right 4 18930101 direct 2 255 5 ∷ plain_right 5 18940101 direct 1 255 5 ∷ plain_right 6 18950101 instream 0 255 12 ∷ [];
}

-- A project right asks for more than the storage holds.
abbrev pub drawn_basin : Basin
drawn_basin = record {
  stations = two_stations;
  reservoirs = lake 1000 100 0 ∷ [];
  patterns = [];
  rights = plain_right 1 18900101 project 1 0 600 ∷ [];
}

-- 10 acres lose 50 units a month; the lake holds 30.
abbrev pub shallow_basin : Basin
shallow_basin = record { stations = two_stations; reservoirs = lake 1000 30 5 ∷ []; patterns = []; rights = [] }

-- Storage, 500, stands above the last pair.
abbrev pub shrinking_basin : Basin
shrinking_basin = record { stations = two_stations; reservoirs = shrinking_lake ∷ []; patterns = []; rights = [] }

-- October fills the lake and a project right draws 30 from it; in November it may not be stored into again.
abbrev pub filled_basin : Basin
filled_basin = record {
  stations = two_stations;
  reservoirs = lake 100 0 0 ∷ [];
  patterns = [];
  rights = storage_right 1 18900101 0 0 100 1000 ∷ plain_right 2 18910101 project 1 0 30 ∷ [];
}

-- A direct right that diverts 2 units returns one at each row, by a pattern of 50 percent: of a single unit no half comes back, and both go deep. An
-- instream right and a storage right, served after it, lose nothing deep, however much they are granted.
abbrev pub seeping_right : Right
seeping_right = record {
  permit = 1;
  date = 18900101;
  kind = direct;
  row = 0;
  reservoir = 255;
  efficiency = 0;
  pattern = 0;
  months = all_months;
  limit = 0;
  amounts = replicate 12 2;
  points = record { row = 0; percent = 50 } ∷ record { row = 1; percent = 50 } ∷ [];
}

abbrev pub seeping_basin : Basin
seeping_basin = record {
  stations = two_stations;
  reservoirs = lake 1000 0 0 ∷ [];
  patterns = (50 ∷ replicate 11 0) ∷ [];
  rights = seeping_right ∷ plain_right 2 18910101 instream 1 255 40 ∷ storage_right 3 18920101 0 0 30 1000 ∷ [];
}

abbrev pub sheet : ℕ → ℕ → Call
sheet x y = record { runoff = x ∷ y ∷ []; report = 27 }

abbrev pub grants_in : Basin → List Call → Call → List Grant
grants_in b before c = grants_of (next_run b (after_calls b (fresh b) before) c).turns

abbrev pub after_seeping : Tally
after_seeping = after_calls seeping_basin (fresh seeping_basin) (sheet 100 0 ∷ [])

-- an October that begins with water taken and a filled mark
abbrev pub second_october : State
second_october = opening filled_basin (record { m = 0; storages = 70 ∷ []; marks = true ∷ []; taken = 100 ∷ 0 ∷ []; shorts = [] }) (100 ∷ 0 ∷ []) (0 ∷ 0 ∷ [])

-- January, 30 in the lake, and returns on their way: 7 to the first row next month, 5 to the second a month later
abbrev pub january : Start
january = record { carried = record { m = 3; storages = 30 ∷ []; marks = false ∷ []; taken = []; shorts = [] }; due = λ w k. get_or (get_or ((7 ∷ []) ∷ (0 ∷ 5 ∷ []) ∷ []) w []) (k - 1) 0 }

abbrev pub after_january : Tally
after_january = after_calls shallow_basin (begun january) (sheet 100 0 ∷ [])

-- a year in which a right was short in October and has marks for January and February too
abbrev pub marks_before : ℕ → Start
marks_before m = record { carried = record { m = m; storages = 0 ∷ []; marks = false ∷ []; taken = 0 ∷ []; shorts = (true ∷ false ∷ false ∷ true ∷ true ∷ replicate 7 false) ∷ [] }; due = λ w k. 0 }

abbrev pub marked_by : ℕ → Call → Tally
marked_by m c = after_calls drawn_basin (begun (marks_before m)) (c ∷ [])

-- A year whose October is over the limit, and one whose last two months are, at the second row and at the first. The reports of the basin, of two rows, one
-- reservoir and no right, have six numbers.
abbrev pub wet_october : YearRun
wet_october = record { lookup = None; sheets = (1_000_000_001 ∷ 0 ∷ []) ∷ replicate 11 (100 ∷ 0 ∷ []); room = 72 }

abbrev pub wet_autumn : ℕ → YearRun
wet_autumn room = record { lookup = None; sheets = replicate 10 (100 ∷ 0 ∷ []) ++ ((0 ∷ 1_000_000_001 ∷ []) ∷ (1_000_000_001 ∷ 0 ∷ []) ∷ []); room = room }

abbrev pub unlisted : YearRun
unlisted = record { lookup = Some (told Year); sheets = []; room = 0 }

-- four calls that are refused, and one that is accepted
abbrev pub mixed_calls : List Call
mixed_calls =
    record { runoff = 100 ∷ []; report = 27 }
    ∷ record { runoff = 0 ∷ 0 ∷ []; report = 13 }
    ∷ sheet 0 1_000_000_001
    ∷ sheet 1_000_000_001 1_000_000_001
    ∷ sheet 100 0
    ∷ []

pub record Told : Type 0 where
  -- the path goes by order, not by the next row
  pub path_by_order : path branched_stations 0 ≡ 0 ∷ 2 ∷ 3 ∷ []
  -- a called right gets no river part, though 50 pass
  pub called_gets_none : grants_in called_basin [] (sheet 100 0) ≡
      record { from_river = 100; from_storage = 0; reason = river_low; station = 200 }
      ∷ record { from_river = 0; from_storage = 50; reason = met; station = 0 }
      ∷ record { from_river = 0; from_storage = 0; reason = called_out; station = 200 }
      ∷ []
  pub called_leaves : (next_run called_basin (fresh called_basin) (sheet 100 0)).closed.levels ≡ level 150 150 ∷ level 50 50 ∷ []
  -- the first tight spot downstream: the second right finds rows 2 and 3 lowest, the fifth finds both short; the fourth's own shortage does not count for it
  pub first_tight : grants_in tight_basin [] (record { runoff = 20 ∷ 0 ∷ 0 ∷ 0 ∷ []; report = 33 }) ≡
      record { from_river = 10; from_storage = 0; reason = met; station = 0 }
      ∷ record { from_river = 10; from_storage = 0; reason = river_low; station = 30 }
      ∷ record { from_river = 0; from_storage = 0; reason = river_low; station = 40 }
      ∷ record { from_river = 0; from_storage = 0; reason = called_out; station = 40 }
      ∷ record { from_river = 0; from_storage = 0; reason = called_out; station = 30 }
      ∷ record { from_river = 10; from_storage = 0; reason = river_low; station = 10 }
      ∷ []
  -- a draw ends with the storage
  pub draw_ends : grants_in drawn_basin [] (sheet 0 0) ≡ record { from_river = 0; from_storage = 100; reason = storage_out; station = 100 } ∷ []
  -- evaporation ends with the storage
  pub evaporation_ends : (next_run shallow_basin (fresh shallow_basin) (sheet 0 0)).evaporation ≡ 30 ∷ []
  -- areas that fall: floored is the distance from the lower pair's area; above the last pair the last area holds
  pub falling_areas : tab 11 (area_at shrinking_lake) ≡ 20 ∷ 17 ∷ 14 ∷ 10 ∷ 10 ∷ 10 ∷ 9 ∷ 7 ∷ 6 ∷ 4 ∷ 4 ∷ []
  pub above_table : (next_run shrinking_basin (fresh shrinking_basin) (sheet 0 0)).evaporation ≡ 20 ∷ []
  pub widest_table : area_at widest_lake 1 ∷ area_at widest_lake 2 ∷ area_at widest_lake 2_000_000_000 ∷ [] ≡ 0 ∷ 1_000_000 ∷ 534_339 ∷ []
  -- one fill a year: the mark stands after a release
  pub filled_once : grants_in filled_basin (sheet 100 0 ∷ []) (sheet 100 0) ≡
      record { from_river = 0; from_storage = 0; reason = met; station = 0 } ∷ record { from_river = 30; from_storage = 0; reason = met; station = 0 } ∷ []
  pub filled_mark : (after_calls filled_basin (fresh filled_basin) (sheet 100 0 ∷ [])).carried ≡ record { m = 1; storages = 70 ∷ []; marks = true ∷ []; taken = 100 ∷ 0 ∷ []; shorts = never_short ∷ never_short ∷ [] }
  -- 805 by 50 and 30 percent: 161 go deep; by twelve zeros everything does; by percents that sum to 100 nothing
  pub split_in_part : shares 805 (50 ∷ 30 ∷ []) ≡ 402 ∷ 242 ∷ []
  pub deep_in_part : deep_loss 805 (50 ∷ 30 ∷ []) ≡ 161
  pub deep_whole : deep_loss 805 (replicate 12 0) ≡ 805
  pub deep_none : deep_loss 805 (50 ∷ 30 ∷ 20 ∷ []) ≡ 0
  -- each point's part loses by itself: two units, where the two together would lose one; what leaves the basin is 100 without these and what is stored
  pub deep_by_part : deep_of seeping_basin (next_run seeping_basin (fresh seeping_basin) (sheet 100 0)).turns ≡ 2
  pub seeping_deep : total_deep seeping_basin after_seeping.months ≡ 2
  pub seeping_outflow : total_outflow seeping_basin after_seeping.months ≡ pos 68
  pub seeping_stored : after_seeping.carried.storages ≡ 30 ∷ []
  -- October clears marks and taken
  pub october_clears_marks : second_october.marks ≡ false ∷ []
  pub october_clears_taken : second_october.taken ≡ 0 ∷ 0 ∷ []
  -- a wet January clears its own mark alone, and two short months are left; a dry October leaves its own alone
  pub month_marks : (marked_by 3 (sheet 600 0)).carried.shorts ≡ (true ∷ false ∷ false ∷ false ∷ true ∷ replicate 7 false) ∷ []
  pub month_short : short_now (marks_before 3) (marked_by 3 (sheet 600 0)).months 0 ≡ 2
  pub october_marks : (marked_by 0 (sheet 0 0)).carried.shorts ≡ short_in_october ∷ []
  pub october-short : short_now (marks_before 0) (marked_by 0 (sheet 0 0)).months 0 ≡ 1
  -- a list that starts in January: what is due arrives, what is due later is pending, and all of it counts in the sum: 100 + 30 + 12 = 107 + 30 + 5
  pub started_flow : (next_run shallow_basin (begun january) (sheet 100 0)).closed.levels ≡ level 107 107 ∷ level 107 107 ∷ []
  pub started_pending : tab 2 (λ w. tab 3 (λ k. pending shallow_basin after_january.start after_january.months w (suc k))) ≡ (0 ∷ 0 ∷ 0 ∷ []) ∷ (5 ∷ 0 ∷ 0 ∷ []) ∷ []
  pub started_sum : total_runoff after_january.months + (starting_storage after_january.start + starting_dues shallow_basin after_january.start) ≡ 142
  pub started_evaporation : total_evaporation after_january.months ≡ 30
  pub started_month : after_january.carried.m ≡ 4
  -- a year run from January: nine calls, and October's sheet is not looked at; of the other nothing happens; a list of 71 numbers has no room for twelve reports
  pub run_made : entry_answer shallow_basin (begun january) (yearly wet_october) ≡ record { number = 0; place = 9 }
  pub run_ends : (after_entry shallow_basin (begun january) (yearly wet_october)).carried ≡ record { m = 0; storages = 0 ∷ []; marks = false ∷ []; taken = []; shorts = [] }
  pub run_refused : entry_answer shallow_basin (begun january) (yearly (wet_autumn 72)) ≡ record { number = 8; place = 1 }
  pub run_undone : after_entry shallow_basin (begun january) (yearly (wet_autumn 72)) ≡ begun january
  pub run_short : entry_answer shallow_basin (begun january) (yearly (wet_autumn 71)) ≡ record { number = 6; place = 0 }
  pub run_unlisted : entry_answer shallow_basin (begun january) (yearly unlisted) ≡ record { number = 10; place = 0 }
  -- refusals: 6 for a short sheet or report, 8 with the first row over the limit; of the five calls one is a month
  pub refusals : answers filled_basin (fresh filled_basin) mixed_calls
      ≡ record { number = 6; place = 0 } ∷ record { number = 6; place = 0 } ∷ record { number = 8; place = 1 } ∷ record { number = 8; place = 0 } ∷ record { number = 0; place = 0 } ∷ []
  pub refused_no_month : length (after_calls filled_basin (fresh filled_basin) mixed_calls).months ≡ 1

-- both, computed in one place: proofs/Marked.antt
pub record Computed : Type 0 where
  pub marked : Marked
  pub told : Told
