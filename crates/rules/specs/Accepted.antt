-- What a basin that the file check accepts must provide to the rules: one record of plain facts.
use Rattle.std.specs.Prelude.{◌≡◌, true, List, [], ◌⊎◌, ℕ, suc, ◌≤◌, ◌<◌, length, get_or, Some}
use Rattle.general.specs.Sums.{sum}
use Rattle.general.specs.Tables.{All}
use Rattle.general.specs.Tests.{has}
use Rattle.rules.specs.Basin.{Survey, Reservoir, Point, Kind, direct, project, instream, storage, Right, Basin, rows, reservoir_of}
use Rattle.rules.specs.Path.{row_below, path}
use Rattle.rules.specs.Returns.{percents}

-- the most that a right may ask in a month
abbrev pub most_amount : ℕ
most_amount = 1_000_000_000

-- Each row but the last has a row below.
pub record Connected (b : Basin) : Type 0 where
  pub some_row : 0 < rows b
  pub has_below : (r : ℕ) → suc r < rows b → (q : ℕ) × (row_below b.stations r ≡ Some q)

pub record GoodReservoir (b : Basin) (v : Reservoir) : Type 0 where
  pub row_in : v.row < rows b
  pub capacity_most : v.capacity ≤ 2_000_000_000
  pub start_most : v.start ≤ v.capacity
  pub areas_most : All (λ (p : Survey). p.area ≤ 1_000_000) v.surveys
  pub depths_most : (m : ℕ) → get_or v.depths m 0 ≤ 1000

-- The reservoir of a kind 2 right exists and has the right's row on its path; that of a kind 4 right exists and has its row.
abbrev pub ReservoirOk : Kind → Basin → Right → Type 0
ReservoirOk direct b r = Unit {0}
ReservoirOk project b r = (r.reservoir < length b.reservoirs) × (has r.row (path b.stations (reservoir_of b r).row) ≡ true)
ReservoirOk instream b r = Unit {0}
ReservoirOk storage b r = (r.reservoir < length b.reservoirs) × (r.row ≡ (reservoir_of b r).row)

-- a delay pattern has twelve percents, which sum to at most 100 (02, No. 5)
pub record GoodPattern (percents : List ℕ) : Type 0 where
  pub twelve : length percents ≡ 12
  pub sum_most : sum percents ≤ 100

-- without return points everything is consumed
pub record Unreturned (r : Right) : Type 0 where
  pub no_points : r.points ≡ []
  pub all_used : r.efficiency ≡ 100

-- with return points the points' percents sum to 100, and the pattern exists
pub record Returned (b : Basin) (r : Right) : Type 0 where
  pub efficiency_most : r.efficiency ≤ 100
  pub whole : sum (percents r) ≡ 100
  pub pattern_in : r.pattern < length b.patterns
  pub rows_in : All (λ (q : Point). q.row < rows b) r.points
  pub few_points : length r.points ≤ 4

abbrev pub ReturnsOk : Kind → Basin → Right → Type 0
ReturnsOk direct b r = Unreturned r ⊎ Returned b r
ReturnsOk project b r = Unreturned r ⊎ Returned b r
ReturnsOk instream b r = r.points ≡ []
ReturnsOk storage b r = r.points ≡ []

pub record GoodRight (b : Basin) (r : Right) : Type 0 where
  pub row_in : r.row < rows b
  pub reservoir-ok : ReservoirOk r.kind b r
  pub returns-ok : ReturnsOk r.kind b r
  pub amounts_most : (m : ℕ) → get_or r.amounts m 0 ≤ most_amount
  pub limit_most : r.limit ≤ 2_000_000_000
  pub efficiency_most : r.efficiency ≤ 100

pub record Accepted (b : Basin) : Type 0 where
  pub few_rows : rows b ≤ 64
  pub few_reservoirs : length b.reservoirs ≤ 8
  pub few_patterns : length b.patterns ≤ 16
  pub few_rights : length b.rights ≤ 256
  pub connected : Connected b
  pub reservoirs_good : All (GoodReservoir b) b.reservoirs
  pub patterns_good : All GoodPattern b.patterns
  pub rights_good : All (GoodRight b) b.rights
