-- Which rows a path by the table has. Assumes nothing.
use mathlib.Core.Bool.{true, false}
use mathlib.Core.List.{List}
use mathlib.Core.Path.{◌≡◌}
use Prim.Native.Nat.{ℕ, ◌<◌}
use Rattle.general.specs.Tests.{has}
use Rattle.general.proofs.Routes.{route-from, route-in}
use Rattle.records.specs.Table.{step_of, path_by, Downhill}
use Rattle.records.proofs.Table.{downhill-later}

module _ (t : List ℕ) (d : Downhill t) where
  pub by_in : (r : ℕ) → r < 64 → (i : ℕ) → has i (path_by t r) ≡ true → i < 64
  unfolding path_by
  by_in r h i e = route-in (step_of t) 64 (downhill-later t d) r h i e

  -- a row is not on the path of a later row
  pub by-off : (i q : ℕ) → q < 64 → i < q → has i (path_by t q) ≡ false
  unfolding path_by
  by-off i q h l = route-from (step_of t) 64 (downhill-later t d) q h i l
