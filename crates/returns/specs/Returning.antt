-- What of a diversion returns: over the return points of a right, as its record has them, then over the months.
use Rattle.returns.specs.declared.returning.Return.{Return}
use Rattle.std.specs.Prelude.{List, [], ◌∷◌, ◌≡◌, ℕ, suc, ◌+◌, ◌-◌, ◌*◌, ◌/◌, ◌≤◌, ◌<◌, get_or}
use Rattle.general.specs.Sums.{sum_to}
use Rattle.general.specs.Tables.{tab}
use Rattle.places.specs.Board.{dues_from, due_at, roomy, Roomy}
use Rattle.rules.specs.River.{Level, along, returned}
use Rattle.rules.specs.Returns.{Part, lagged, returned_at, lost_deep}
use Rattle.records.specs.Records.{right_count, return_row, return_percent}
use Rattle.records.specs.Table.{path_by}
use Rattle.river.specs.Arrays.{levels_of, RiverOk}
use Rattle.rules.specs.Accepted.{most_amount}
use Rattle.returns.specs.Dues.{Sums}

-- the sum of the percents of the first k return points
abbrev pub points_up_to : List ℕ → ℕ → ℕ → ℕ
points_up_to ri i k = sum_to k (return_percent ri i)

-- what of an amount returns at point k of right i
unfoldable pub part_in : List ℕ → ℕ → ℕ → ℕ → Part
part_in ri i rest k = record { row = return_row ri i k; amount = rest * points_up_to ri i (suc k) / 100 - rest * points_up_to ri i k / 100 }

unfoldable pub parts_in : List ℕ → ℕ → ℕ → ℕ → List Part
parts_in ri i rest n = tab n (part_in ri i rest)

-- the shares of month 0 go back along the paths that a table gives
unfoldable pub return_by : List ℕ → List ℕ → List Part → List Level → List Level
return_by t pattern [] l = l
return_by t pattern (q ∷ qs) l = return_by t pattern qs (along (returned (lagged pattern 0 q)) (path_by t q.row) l)

-- ---- what is asked of the arrays

-- the n return points of right i, and the running sums of the pattern that they share
pub record PointsOk (pa : List (List ℕ)) (ri : List ℕ) (i n which : ℕ) : Type 0 where
  pub right_in : i < right_count ri
  pub few : n ≤ 4
  pub rows : (k : ℕ) → k < n → return_row ri i k < 64
  pub percents : points_up_to ri i n ≤ 100
  pub known : 0 < n → which < 16
  pub by_sums : 0 < n → (pattern : List ℕ) × Sums pattern (get_or pa which [])

pub record CanGive (pa : List (List ℕ)) (ri : List ℕ) (back : Return) (f a bd : List ℕ) : Type 0 where
  pub points-ok : PointsOk pa ri back.right back.points back.pattern
  pub small : back.amount ≤ most_amount
  pub river : RiverOk f a roomy
  pub board : Roomy bd roomy

-- ---- what is left: f, a, bd before, f', a', bd' after the first n points, and what went deep; the levels however many rows h are asked after

pub record Gave (t pattern ri : List ℕ) (i n rest : ℕ) (f a bd f' a' bd' : List ℕ) (deep : ℕ) : Type 0 where
  pub levels : (h : ℕ) → levels_of h f' a' ≡ return_by t pattern (parts_in ri i rest n) (levels_of h f a)
  pub dues : (w k : ℕ) → k < 11 → due_at bd' w (suc k) ≡ due_at bd w (suc k) + returned_at pattern w (suc k) (parts_in ri i rest n)
  pub lost : deep ≡ lost_deep pattern (parts_in ri i rest n)
  pub same : (j : ℕ) → j < dues_from → get_or bd' j 0 ≡ get_or bd j 0
  pub grown : (w : ℕ) → w < 64 → get_or f' w 0 ≤ get_or f w 0 + n * most_amount
  pub within : (w : ℕ) → w < 64 → get_or a' w 0 ≤ get_or f' w 0
  pub filled : (j : ℕ) → get_or bd' j 0 ≤ get_or bd j 0 + n * most_amount
  pub lost_most : deep ≤ n * most_amount

-- the same by every pattern whose running sums these are; where there is no point, by any
abbrev pub GaveBy : List ℕ → List ℕ → List ℕ → Return → List ℕ → List ℕ → List ℕ → List ℕ → List ℕ → List ℕ → ℕ → Type 0
GaveBy t sums ri back f a bd f' a' bd' deep =
    (pattern : List ℕ) → (0 < back.points → Sums pattern sums) → Gave t pattern ri back.right back.points back.amount f a bd f' a' bd' deep
