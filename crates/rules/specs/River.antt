-- The river's two numbers at each row, with a sign: its flow, and the flow still available to later rights.
use Rattle.std.specs.Prelude.{cond, List, [], ◌∷◌, ℕ, min, length, get_or, ℤ, pos, negsuc, ◌+ℤ◌, ◌-ℤ◌, ◌≤ℤ◌}
use Rattle.std.specs.Int.Signed.{le_z}
use Rattle.general.specs.Tables.{tab}
use Rattle.general.specs.Tests.{has}

-- 01 calls the available flow open water.
pub record Level : Type 0 where
  pub flow : ℤ
  pub available : ℤ

abbrev pub dry : Level
dry = record { flow = pos 0; available = pos 0 }

abbrev pub level_at : List Level → ℕ → Level
level_at l r = get_or l r dry

abbrev pub flow_at : List Level → ℕ → ℤ
flow_at l r = (level_at l r).flow

abbrev pub available_at : List Level → ℕ → ℤ
available_at l r = (level_at l r).available

-- ---- what happens to a row

-- a diversion leaves flow and available flow
unfoldable pub diverted : ℕ → Level → Level
diverted d x = record { flow = x.flow -ℤ pos d; available = x.available -ℤ pos d }

-- an instream grant stays in the river, and is no longer available
unfoldable pub reserved : ℕ → Level → Level
reserved d x = record { flow = x.flow; available = x.available -ℤ pos d }

-- released water raises the flow and not the available flow (002 raises both)
unfoldable pub released : ℕ → Level → Level
released d x = record { flow = x.flow +ℤ pos d; available = x.available }

-- a return raises both
unfoldable pub returned : ℕ → Level → Level
returned d x = record { flow = x.flow +ℤ pos d; available = x.available +ℤ pos d }

-- a change at each row of a path, and nowhere else
unfoldable pub along : (Level → Level) → List ℕ → List Level → List Level
along f p l = tab (length l) (λ r. cond (has r p) (f (level_at l r)) (level_at l r))

-- ---- the lowest available flow on a path (which is never empty)

abbrev pub lower : ℤ → ℤ → ℤ
lower a b = cond (le_z a b) a b

unfoldable pub lowest : List Level → List ℕ → ℤ
lowest l [] = pos 0
lowest l (r ∷ []) = available_at l r
lowest l (r ∷ q ∷ p) = lower (available_at l r) (lowest l (q ∷ p))

-- The lesser of a demand and an available flow. At every checkpoint the available flow is not negative (theorem `Checkpoints`), so that the second line is
-- never used: on a right's path and at an instream right's own row this is the lesser of two signed numbers (theorem `Unclipped`).
unfoldable pub lesser : ℕ → ℤ → ℕ
lesser a (pos n) = min a n
lesser a (negsuc n) = 0

-- ---- what has to hold at every checkpoint

-- available flow is not below zero, and flow not below available flow
pub record Sound (x : Level) : Type 0 where
  pub not_negative : pos 0 ≤ℤ x.available
  pub within_flow : x.available ≤ℤ x.flow
