-- The arrays of a month as the rules' state, and what each stage of a right's turn leaves in them.
use Rattle.std.specs.Prelude.{Bool, false, List, ◌≡◌, ℕ, suc, ◌+◌, ◌*◌, ◌^◌, ◌≤◌, ◌<◌, length, get_or}
use Rattle.general.specs.Tables.{tab}
use Rattle.general.specs.Tests.{bit}
use Rattle.places.specs.Board.{month_at, storage_at, marks_at, taken_at, due_at, Roomy}
use Rattle.rules.specs.Basin.{Basin, Right, rows, reservoir_at, right_at, pattern_of}
use Rattle.rules.specs.Returns.{parts_of, returned_at, lost_deep}
use Rattle.rules.specs.Turn.{State, Grant, granted, Turn, turn}
use Rattle.rules.specs.Month.{reason_number}
use Rattle.rules.specs.Accepted.{most_amount}
use Rattle.records.specs.Records.{right_count, right_of}
use Rattle.river.specs.Arrays.{levels_of, RiverOk}
use Rattle.river.specs.Setting.{Describes}
use Rattle.river.specs.declared.setting.Setting.{Setting}
use Rattle.grants.specs.Grants.{why_of}
use Rattle.grants.specs.declared.grants.Grant.{Grant as GrantMade}
use Rattle.grants.specs.declared.grants.Reason.{Reason}
use Rattle.grants.specs.declared.grants.Reason.TheVariants.{Met, Called, RiverLow, StorageOut}

-- ---- the state that the arrays hold

unfoldable pub storages_of : ℕ → List ℕ → List ℕ
storages_of n bd = tab n (λ v. storage_at bd v)

unfoldable pub marks_of : ℕ → List ℕ → List Bool
marks_of n bd = tab n (bit (marks_at bd))

unfoldable pub taken_of : ℕ → List ℕ → List ℕ
taken_of n bd = tab n (λ i. taken_at bd i)

unfoldable pub short_of : ℕ → List Bool → List Bool
short_of n sh = tab n (λ w. get_or sh w false)

-- flow f, available flow a, short rows sh, board bd
unfoldable pub state_of : Basin → List ℕ → List ℕ → List Bool → List ℕ → State
state_of b f a sh bd = record {
  levels = levels_of (rows b) f a;
  storages = storages_of (length b.reservoirs) bd;
  marks = marks_of (length b.reservoirs) bd;
  taken = taken_of (length b.rights) bd;
  short = short_of (rows b) sh;
}

-- ---- capacities and limits

-- storages within capacities and water taken within limits, at the board
pub record Within (b : Basin) (bd : List ℕ) : Type 0 where
  pub storages : (v : ℕ) → v < length b.reservoirs → storage_at bd v ≤ (reservoir_at b v).capacity
  pub taken : (i : ℕ) → i < length b.rights → taken_at bd i ≤ (right_at b i).limit

-- ---- what a turn asks for

pub record Ready (s : Setting) (i m : ℕ) (f a bd : List ℕ) : Type 0 where
  pub basin : Basin
  pub setting : Describes s basin
  pub place : i < right_count s.bodies.now.rights.now
  pub in-year : m < 12
  pub river : RiverOk f a 4000000000000000000
  pub board : Roomy bd 4000000000000000000
  pub within : Within basin bd

-- ---- what a turn leaves

-- the station that a reason names, of a right whose reservoir stands at a station
unfoldable pub named_by : ℕ → Reason → ℕ
named_by home Met = 0
named_by home (Called s) = s
named_by home (RiverLow s) = s
named_by home StorageOut = home

-- a grant made tells the rules' grant
pub record Tells (g : Grant) (home : ℕ) (made : GrantMade) : Type 0 where
  pub from-river : made.from_river ≡ g.from_river
  pub from-storage : made.from_storage ≡ g.from_storage
  pub reason : why_of made.reason ≡ reason_number g.reason
  pub station : named_by home made.reason ≡ g.station

-- the station of the reservoir that right i names
abbrev pub home_of : Basin → Right → ℕ
home_of b r = Rattle.rules.specs.Turn.number_at b.stations (Rattle.rules.specs.Basin.reservoir_of b r).row

-- What no turn changes: places without a reservoir or a right; and a word of marks names only reservoirs that exist.
pub record Kept (b : Basin) (bd bd' : List ℕ) : Type 0 where
  pub no-reservoir : (v : ℕ) → length b.reservoirs ≤ v → v < 8 → storage_at bd' v ≡ storage_at bd v
  pub no-right : (i : ℕ) → length b.rights ≤ i → i < 256 → taken_at bd' i ≡ taken_at bd i
  pub marks : marks_at bd < 2 ^ length b.reservoirs → marks_at bd' < 2 ^ length b.reservoirs

pub record Turned (b : Basin) (ri : List ℕ) (i m : ℕ) (f a : List ℕ) (sh : List Bool) (bd f' a' : List ℕ) (sh' : List Bool) (bd' : List ℕ) (made : GrantMade) : Type 0 where
  pub state : state_of b f' a' sh' bd' ≡ (turn b m i (right_of ri i) (state_of b f a sh bd)).after_returns
  pub tells : Tells (turn b m i (right_of ri i) (state_of b f a sh bd)).grant (home_of b (right_of ri i)) made
  pub dues : (w k : ℕ) → k < 11
      → due_at bd' w (suc k) ≡ due_at bd w (suc k) + returned_at (pattern_of b (right_of ri i)) w (suc k) (parts_of (right_of ri i).kind (right_of ri i) (granted (turn b m i (right_of ri i) (state_of b f a sh bd)).grant))
  pub deep : made.deep ≡ lost_deep (pattern_of b (right_of ri i)) (parts_of (right_of ri i).kind (right_of ri i) (granted (turn b m i (right_of ri i) (state_of b f a sh bd)).grant))
  pub month : month_at bd' ≡ month_at bd
  pub grown : (w : ℕ) → w < 64 → get_or f' w 0 ≤ get_or f w 0 + 6 * most_amount
  pub within : (w : ℕ) → w < 64 → get_or a' w 0 ≤ get_or f' w 0
  pub filled : (j : ℕ) → get_or bd' j 0 ≤ get_or bd j 0 + 6 * most_amount
  pub deep_most : made.deep ≤ 6 * most_amount
  pub kept : Kept b bd bd'
