-- The terms of the water sum, and what has to hold of a tally (01, "The tally of a list of months").
use Rattle.std.specs.Prelude.{◌≡◌, List, ℕ, suc, ◌+◌, eqb, length, get_or, ℤ, pos, ◌+ℤ◌, ◌-ℤ◌}
use Rattle.general.specs.Sums.{sum_over, sum_over_ℤ, sum, sum_to, sum_to_ℤ, only}
use Rattle.general.specs.Tables.{All}
use Rattle.rules.specs.Basin.{Kind, direct, project, instream, storage, Basin, rows}
use Rattle.rules.specs.Path.{last_row}
use Rattle.rules.specs.River.{level_at, flow_at, Sound}
use Rattle.rules.specs.Turn.{State, Turn}
use Rattle.rules.specs.Month.{consumed_by, deep_of, MonthRun}
use Rattle.rules.specs.Tally.{Start, Tally, pending}

-- ---- totals over the accepted months

unfoldable pub total_runoff : List MonthRun → ℕ
total_runoff hs = sum_over (λ (h : MonthRun). sum h.runoff) hs

-- outflow: what leaves the basin at its outlet, once all rights are served
unfoldable pub total_outflow : Basin → List MonthRun → ℤ
total_outflow b hs = sum_over_ℤ (λ (h : MonthRun). flow_at h.closed.levels (last_row b)) hs

unfoldable pub total_consumption : List MonthRun → ℕ
total_consumption hs = sum_over (λ (h : MonthRun). sum_over consumed_by h.turns) hs

unfoldable pub total_evaporation : List MonthRun → ℕ
total_evaporation hs = sum_over (λ (h : MonthRun). sum h.evaporation) hs

-- deep loss, by the grants
unfoldable pub total_deep : Basin → List MonthRun → ℕ
total_deep b hs = sum_over (λ (h : MonthRun). deep_of b h.turns) hs

-- returns in transit: all that is pending, at every row and for each of the next eleven months
unfoldable pub in_transit : Basin → Start → List MonthRun → ℕ
in_transit b s hs = sum_to (rows b) (λ w. sum_to 11 (λ k. pending b s hs w (suc k)))

-- ---- the start: its storages, and its dues at every row for each of the next eleven months

unfoldable pub starting_storage : Start → ℕ
starting_storage s = sum s.carried.storages

unfoldable pub starting_dues : Basin → Start → ℕ
starting_dues b s = sum_to (rows b) (λ w. sum_to 11 (λ k. s.due w (suc k)))

-- ---- storages, by the grants

-- what a turn stores in reservoir v: the river part of a storage right of it
unfoldable pub stored_by : Kind → ℕ → Turn → ℕ
stored_by direct v t = 0
stored_by project v t = 0
stored_by instream v t = 0
stored_by storage v t = only (eqb t.right.reservoir v) t.grant.from_river

-- what a turn draws from it: the part from storage of a project right of it
unfoldable pub drawn_by : Kind → ℕ → Turn → ℕ
drawn_by direct v t = 0
drawn_by project v t = only (eqb t.right.reservoir v) t.grant.from_storage
drawn_by instream v t = 0
drawn_by storage v t = 0

unfoldable pub stored_in : ℕ → List Turn → ℕ
stored_in v ts = sum_over (λ (t : Turn). stored_by t.right.kind v t) ts

unfoldable pub drawn_from : ℕ → List Turn → ℕ
drawn_from v ts = sum_over (λ (t : Turn). drawn_by t.right.kind v t) ts

unfoldable pub total_stored : ℕ → List MonthRun → ℕ
total_stored v hs = sum_over (λ (h : MonthRun). stored_in v h.turns) hs

unfoldable pub total_drawn : ℕ → List MonthRun → ℕ
total_drawn v hs = sum_over (λ (h : MonthRun). drawn_from v h.turns) hs

unfoldable pub total_lost : ℕ → List MonthRun → ℕ
total_lost v hs = sum_over (λ (h : MonthRun). get_or h.evaporation v 0) hs

-- A reservoir's storage now, by the grants: what it held at the start and what was stored since, without what was drawn and what evaporated.
unfoldable pub storage_now : Start → List MonthRun → ℕ → ℤ
storage_now s hs v = pos (get_or s.carried.storages v 0 + total_stored v hs) -ℤ pos (total_drawn v hs) -ℤ pos (total_lost v hs)

unfoldable pub all_storage_now : Basin → Start → List MonthRun → ℤ
all_storage_now b s hs = sum_to_ℤ (length b.reservoirs) (storage_now s hs)

-- ---- the checkpoints

-- A level for each row, and at every row 0 ≤ available flow ≤ flow.
pub record Checkpoint (b : Basin) (s : State) : Type 0 where
  pub size : length s.levels ≡ rows b
  pub sound : (w : ℕ) → Sound (level_at s.levels w)

-- the three checkpoints of a turn, one after each stage
pub record TurnSound (b : Basin) (t : Turn) : Type 0 where
  pub after_river : Checkpoint b t.after_river
  pub after_storage : Checkpoint b t.after_storage
  pub after_returns : Checkpoint b t.after_returns

-- those of a month: one before the turns, and those of each turn
pub record MonthSound (b : Basin) (h : MonthRun) : Type 0 where
  pub before_first : Checkpoint b h.opened
  pub each_turn : All (TurnSound b) h.turns

-- ---- no water is lost and none appears

pub record WaterKept (b : Basin) (t : Tally) : Type 0 where
  -- runoff + the start's storages and dues = outflow + consumption + evaporation + deep loss + returns on their way + storage now
  pub balance : pos (total_runoff t.months + (starting_storage t.start + starting_dues b t.start))
      ≡ total_outflow b t.months +ℤ pos (total_consumption t.months) +ℤ pos (total_evaporation t.months) +ℤ pos (total_deep b t.months) +ℤ pos (in_transit b t.start t.months) +ℤ all_storage_now b t.start t.months
  -- each storage by the grants is the storage that the tally keeps
  pub storages : (v : ℕ) → storage_now t.start t.months v ≡ pos (get_or t.carried.storages v 0)
  -- 0 ≤ available flow ≤ flow, at every row and checkpoint of every accepted month
  pub checkpoints : All (MonthSound b) t.months
