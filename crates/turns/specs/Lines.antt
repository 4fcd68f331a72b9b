-- All rights of a month in list order: the lines of the report, and what the arrays hold after them.
use Rattle.std.specs.Prelude.{Bool, List, ◌≡◌, ℕ, suc, ◌+◌, ◌*◌, ◌≤◌, ◌<◌, length, get_or, set, drop}
use Rattle.places.specs.Board.{month_at, due_at, Roomy}
use Rattle.places.specs.Report.{from_river_place, from_storage_place, reason_place, station_place, lines_end}
use Rattle.rules.specs.Basin.{Basin, rows}
use Rattle.rules.specs.Turn.{State, number_at, Turn}
use Rattle.rules.specs.Month.{turns, after_turns, grant_at, returns_at, deep_of, reason_number}
use Rattle.records.specs.Records.{stations_of, rows_of, reservoir_count, right_count, right_of}
use Rattle.grants.specs.declared.grants.Grant as program
use Rattle.grants.specs.declared.grants.Reason.{Reason}
use Rattle.rules.specs.Accepted.{most_amount}
use Rattle.river.specs.Arrays.{RiverOk}
use Rattle.river.specs.Setting.{Describes}
use Rattle.river.specs.declared.setting.Setting.{Setting}
use Rattle.grants.specs.Stages.{home_row}
use Rattle.grants.specs.Grants.{why_of}
use Rattle.turns.specs.State.{state_of, Within, Ready, Kept, Turned, named_by, home_of}

-- ---- one line

-- the station of reservoir v
abbrev pub reservoir_station : List ℕ → List ℕ → ℕ → ℕ
reservoir_station st rs v = number_at (stations_of st) (home_row rs v)

-- where a reason needs the reservoir's station, there is one
abbrev pub CanName : List ℕ → List ℕ → ℕ → Reason → Type 0
CanName st rs v why = why_of why ≡ 3 → (v < reservoir_count rs) × (home_row rs v < rows_of st)

unfoldable pub line_of : List ℕ → ℕ → program.Grant → ℕ → List ℕ
line_of report k g station =
    set (set (set (set report (from_river_place k) g.from_river) (from_storage_place k) g.from_storage) (reason_place k) (why_of g.reason)) (station_place k) station

-- a turn with its line in the report
pub record CanLine (s : Setting) (i m : ℕ) (f a bd rp : List ℕ) : Type 0 where
  pub ready : Ready s i m f a bd
  pub line : station_place i < length rp

pub record LineServed (b : Basin) (ri : List ℕ) (i m : ℕ) (f a : List ℕ) (sh : List Bool) (bd rp f' a' : List ℕ) (sh' : List Bool) (bd' rp' : List ℕ) (deep : ℕ) : Type 0 where
  pub made : program.Grant
  pub turned : Turned b ri i m f a sh bd f' a' sh' bd' made
  pub written : rp' ≡ line_of rp i made (named_by (home_of b (right_of ri i)) made.reason)
  pub lost : deep ≡ made.deep

-- ---- the lines of the first k rights

pub record LinesTo (ts : List Turn) (k : ℕ) (before after : List ℕ) : Type 0 where
  pub from-river : (j : ℕ) → j < k → get_or after (from_river_place j) 0 ≡ (grant_at ts j).from_river
  pub from-storage : (j : ℕ) → j < k → get_or after (from_storage_place j) 0 ≡ (grant_at ts j).from_storage
  pub reason : (j : ℕ) → j < k → get_or after (reason_place j) 0 ≡ reason_number (grant_at ts j).reason
  pub station : (j : ℕ) → j < k → get_or after (station_place j) 0 ≡ (grant_at ts j).station
  pub beyond : (p : ℕ) → lines_end k ≤ p → get_or after p 0 ≡ get_or before p 0
  pub size : length after ≡ length before

-- ---- all rights

-- all turns of month m from the state that the arrays hold
abbrev pub turns_from : Basin → ℕ → State → List Turn
turns_from b m s = turns b m 0 b.rights s

pub record CanServe (s : Setting) (m : ℕ) (f a bd rp : List ℕ) : Type 0 where
  pub basin : Basin
  pub setting : Describes s basin
  pub in-year : m < 12
  pub river : RiverOk f a 1000000000000000000
  pub board : Roomy bd 1000000000000000000
  pub within : Within basin bd
  pub lines : lines_end (right_count s.bodies.now.rights.now) ≤ length rp

-- k rights are served: what is left of the turns is what the rest of the rights make of the state that the arrays hold
pub record ServedTo (b : Basin) (m k : ℕ) (f a : List ℕ) (sh : List Bool) (bd rp f' a' : List ℕ) (sh' : List Bool) (bd' rp' : List ℕ) (deep : ℕ) : Type 0 where
  pub left : drop k (turns_from b m (state_of b f a sh bd)) ≡ turns b m k (drop k b.rights) (state_of b f' a' sh' bd')
  pub state : after_turns (turns b m k (drop k b.rights) (state_of b f' a' sh' bd')) (state_of b f' a' sh' bd') ≡ after_turns (turns_from b m (state_of b f a sh bd)) (state_of b f a sh bd)
  pub dues : (w j : ℕ) → j < 11
      → due_at bd' w (suc j) + returns_at b (turns b m k (drop k b.rights) (state_of b f' a' sh' bd')) w (suc j) ≡ due_at bd w (suc j) + returns_at b (turns_from b m (state_of b f a sh bd)) w (suc j)
  pub lost : deep + deep_of b (turns b m k (drop k b.rights) (state_of b f' a' sh' bd')) ≡ deep_of b (turns_from b m (state_of b f a sh bd))
  pub month : month_at bd' ≡ month_at bd
  pub lines : LinesTo (turns_from b m (state_of b f a sh bd)) k rp rp'
  pub within : (w : ℕ) → w < 64 → get_or a' w 0 ≤ get_or f' w 0
  pub grown : (w : ℕ) → w < 64 → get_or f' w 0 ≤ get_or f w 0 + k * (6 * most_amount)
  pub filled : (j : ℕ) → get_or bd' j 0 ≤ get_or bd j 0 + k * (6 * most_amount)
  pub lost_most : deep ≤ k * (6 * most_amount)
  pub capped : Within b bd'
  pub kept : Kept b bd bd'

-- all rights are served, and so much of their returns went deep
pub record Served (b : Basin) (m : ℕ) (f a : List ℕ) (sh : List Bool) (bd rp f' a' : List ℕ) (sh' : List Bool) (bd' rp' : List ℕ) (deep : ℕ) : Type 0 where
  pub state : state_of b f' a' sh' bd' ≡ after_turns (turns_from b m (state_of b f a sh bd)) (state_of b f a sh bd)
  pub dues : (w j : ℕ) → j < 11 → due_at bd' w (suc j) ≡ due_at bd w (suc j) + returns_at b (turns_from b m (state_of b f a sh bd)) w (suc j)
  pub lost : deep ≡ deep_of b (turns_from b m (state_of b f a sh bd))
  pub month : month_at bd' ≡ month_at bd
  pub lines : LinesTo (turns_from b m (state_of b f a sh bd)) (length b.rights) rp rp'
  pub within : (w : ℕ) → w < rows b → get_or a' w 0 ≤ get_or f' w 0
  pub filled : (j : ℕ) → get_or bd' j 0 ≤ get_or bd j 0 + 1536 * most_amount
  pub capped : Within b bd'
  pub kept : Kept b bd bd'
