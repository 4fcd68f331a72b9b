-- Tables that a month works with: the rows below, 64 bytes that walks along a path look up, and the patterns, as the split of a return reads them.
use Rattle.std.specs.Prelude.{cond, List, ◌++◌, ◌≡◌, ℕ, suc, ◌-◌, ◌≤◌, ◌<◌, ltb, length, get_or, replicate, Option, None, Some}
use Rattle.general.specs.Routes.{follow}
use Rattle.general.specs.Sums.{up_to}
use Rattle.general.specs.Tables.{tab}
use Rattle.rules.specs.Basin.{Station}
use Rattle.rules.specs.Path.{row_below}
use Rattle.records.specs.Records.{rows_of, stations_of, reservoir_count, reservoir_record, pattern_count, pattern_of}

-- a row below by its number, none by 255
unfoldable pub below_code : Option ℕ → ℕ
below_code None = 255
below_code (Some q) = q

-- the table of a list of stations; places without a row hold 255 too
unfoldable pub table_of : List Station → List ℕ
table_of st = tab (length st) (λ r. below_code (row_below st r)) ++ replicate (64 - length st) 255

-- the row below, as the table t has it: a number that is no place of the table stands for none
unfoldable pub step_of : List ℕ → ℕ → Option ℕ
step_of t r = cond (ltb (get_or t r 0) 64) (Some (get_or t r 0)) None

-- the path of a row, by the table
unfoldable pub path_by : List ℕ → ℕ → List ℕ
path_by t r = follow (step_of t) 64 r

-- every row below is a later row, as a `RowsBelow` keeps it
pub record Downhill (t : List ℕ) : Type 0 where
  pub later : (r : ℕ) → r < 64 → get_or t r 0 < 64 → r < get_or t r 0

-- t is the table of a body of stations
pub record TableFor (st t : List ℕ) : Type 0 where
  pub few : rows_of st ≤ 64
  pub table : t ≡ table_of (stations_of st)

-- what an accepted body of reservoirs gives to the rules of rights: each reservoir's row is a station's row
pub record GoodRows (st rs : List ℕ) : Type 0 where
  pub row_in : (v : ℕ) → v < reservoir_count rs → (reservoir_record rs v).row < rows_of st

-- each reservoir of a body stands at a row of a table
pub record ReservoirsOn (rs : List ℕ) : Type 0 where
  pub row_in : (v : ℕ) → v < reservoir_count rs → (reservoir_record rs v).row < 64

-- ---- patterns

-- The running sums of a pattern: the percents of all months up to each, that month included. A share is a difference of two of them, and what goes deep
-- is what the last of them leaves.
unfoldable pub sums_of : List ℕ → List ℕ
sums_of percents = tab 12 (λ k. up_to percents (suc k))

-- those of all patterns in a table of sixteen, with zeros in the places that the file leaves free
unfoldable pub sixteen_sums : List ℕ → List (List ℕ)
sixteen_sums s = tab (pattern_count s) (λ p. sums_of (pattern_of s p)) ++ replicate (16 - pattern_count s) (replicate 12 0)
