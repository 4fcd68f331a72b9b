-- The places of a report (01, "The board and one month"; 02, No. 5): the lines of the rights, then the rows, then the evaporations, then the deep loss.
-- Everything else names a number of a report by these words. A basin of n rights, h rows and v reservoirs.
use Rattle.std.specs.Prelude.{cond, ℕ, ◌+◌, ◌-◌, ◌*◌, ◌/◌, ◌%◌, ltb}

-- ---- places

-- the four numbers of right i: what it is granted from the river and from storage, the reason's number, the station that holds it back
abbrev pub from_river_place : ℕ → ℕ
from_river_place i = 4 * i

abbrev pub from_storage_place : ℕ → ℕ
from_storage_place i = from_river_place i + 1

abbrev pub reason_place : ℕ → ℕ
reason_place i = from_river_place i + 2

abbrev pub station_place : ℕ → ℕ
station_place i = from_river_place i + 3

abbrev pub lines_end : ℕ → ℕ
lines_end n = from_river_place n

-- the two numbers of row w: flow and available flow
abbrev pub flow_place : ℕ → ℕ → ℕ
flow_place n w = lines_end n + 2 * w

abbrev pub available_place : ℕ → ℕ → ℕ
available_place n w = flow_place n w + 1

abbrev pub rows_end : ℕ → ℕ → ℕ
rows_end n h = flow_place n h

-- the evaporation of reservoir v
abbrev pub evaporation_place : ℕ → ℕ → ℕ → ℕ
evaporation_place n h v = rows_end n h + v

-- what went deep in the month
abbrev pub deep_place : ℕ → ℕ → ℕ → ℕ
deep_place n h v = evaporation_place n h v

-- how many numbers a month tells
abbrev pub report_end : ℕ → ℕ → ℕ → ℕ
report_end n h v = deep_place n h v + 1

-- the most that any basin has to tell
abbrev pub most_report : ℕ
most_report = 1161

-- ---- a report made of its parts

-- number q of right i, number q of row w, what reservoir v lost, what went deep
pub record Parts : Type 0 where
  pub line : ℕ → ℕ → ℕ
  pub row : ℕ → ℕ → ℕ
  pub evaporation : ℕ → ℕ
  pub deep : ℕ

-- the number at place p
unfoldable pub part_at : ℕ → ℕ → ℕ → Parts → ℕ → ℕ
part_at n h v x p =
    cond (ltb p (lines_end n)) (x.line (p / 4) (p % 4))
    (cond (ltb p (rows_end n h)) (x.row ((p - lines_end n) / 2) ((p - lines_end n) % 2))
    (cond (ltb p (deep_place n h v)) (x.evaporation (p - rows_end n h)) x.deep))
