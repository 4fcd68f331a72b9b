-- Capacities and limits, at the board and in the state. Assumes nothing.
use mathlib.Core.Bool.{Bool}
use mathlib.Core.List.{List}
use Prim.Native.Nat.{ℕ, ◌≤◌}
use native.Mathlib.Omega.{arith}
use lib.ListN.{length, get_or, get_or-eq_default}
use Rattle.general.proofs.Lists.{by_place}
use Rattle.general.proofs.Tables.{tab-length}
use Rattle.places.specs.Board.{storage_at, taken_at}
use Rattle.rules.specs.Basin.{Basin, reservoir_at, right_at}
use Rattle.rules.proofs.Bounds.{StateCapped}
use Rattle.turns.specs.State.{storages_of, marks_of, taken_of, state_of, Within}
use Rattle.turns.proofs.Places.{storage-at, taken_at_lem}

module _ (b : Basin) (f a : List ℕ) (sh : List Bool) (bd : List ℕ) where
  pub within-capped : Within b bd → StateCapped b (state_of b f a sh bd)
  unfolding state_of storages_of taken_of marks_of
  within-capped h = record {
    storages_most = λ v. by_place v (length b.reservoirs) (get_or (storages_of (length b.reservoirs) bd) v 0 ≤ (reservoir_at b v).capacity)
        (λ l. omega (arith, storage-at (length b.reservoirs) bd v l, h.storages v l))
        (λ l. omega (arith, get_or-eq_default (storages_of (length b.reservoirs) bd) 0 {n = v} (omega (arith, l, tab-length (λ k. storage_at bd k) (length b.reservoirs)))));
    taken-most = λ i. by_place i (length b.rights) (get_or (taken_of (length b.rights) bd) i 0 ≤ (right_at b i).limit)
        (λ l. omega (arith, taken_at_lem (length b.rights) bd i l, h.taken i l))
        (λ l. omega (arith, get_or-eq_default (taken_of (length b.rights) bd) 0 {n = i} (omega (arith, l, tab-length (λ k. taken_at bd k) (length b.rights)))));
    taken_count = tab-length _ (length b.rights);
    marks_count = tab-length _ (length b.reservoirs);
  }

  pub capped-within : StateCapped b (state_of b f a sh bd) → Within b bd
  unfolding state_of
  capped-within h = record {
    storages = λ v l. omega (arith, storage-at (length b.reservoirs) bd v l, h.storages_most v);
    taken = λ i l. omega (arith, taken_at_lem (length b.rights) bd i l, h.taken-most i);
  }
