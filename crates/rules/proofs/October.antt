-- 01's October meets what the theorems ask of a basin. Assumes nothing.
use Rattle.std.specs.Prelude.{Some}
use mathlib.Core.Path.{◌≡◌, refl}
use mathlib.Core.Logic.{inl, inr}
use Prim.Native.Nat.{ℕ, zero, suc, ◌≤◌, ◌<◌}
use native.Mathlib.Omega.{arith}
use native.Mathlib.Decide.{dec_lt}
use lib.ListN.{get_or, replicate, get_or-replicate, length-replicate, get_or-eq_default}
use Rattle.general.specs.Sums.{sum_over}
use Rattle.general.specs.Routes.{follow}
use Rattle.general.specs.Tests.{has, first_at}
use Rattle.rules.specs.Basin.{direct, project}
use Rattle.rules.specs.Path.{carries_on, row_below, path}
use Rattle.rules.specs.Accepted.{GoodReservoir, GoodRight, Accepted}
use Rattle.rules.specs.October.{plain_right, storage_right, returning_right, october_stations, october_reservoir, october}

below : (r : ℕ) → suc r < 3 → (q : ℕ) × (row_below october_stations r ≡ Some q)
unfolding row_below first_at carries_on
below zero h = (1, refl)
below (suc zero) h = (2, refl)
below (suc (suc r)) h = absurd (omega arith)

-- one amount in all months
same-amounts : (n x m y : ℕ) → x ≤ y → get_or (replicate n x) m 0 ≤ y
same-amounts n x m y h = pick (dec_lt m n)
  where
    pick : Dec (m < n) → get_or (replicate n x) m 0 ≤ y
    pick (yes k) = rw (get_or-replicate n m x 0 k) h
    pick (no k) = rw (get_or-eq_default (replicate n x) 0 {n = m} (rw (length-replicate n x) (omega arith))) (omega arith)

depth-most : (m : ℕ) → get_or october_reservoir.depths m 0 ≤ 1000
depth-most zero = omega arith
depth-most (suc m) = same-amounts 11 0 m 1000 (omega arith)

reservoir-good : GoodReservoir october october_reservoir
reservoir-good = record {
  row_in = omega arith;
  capacity_most = omega arith;
  start_most = omega arith;
  areas_most = (omega arith, (omega arith, (omega arith, (omega arith, tt))));
  depths_most = depth-most;
}

pub october-facts : Accepted october
unfolding has follow path row_below first_at carries_on sum_over
october-facts = record {
  few_rows = omega arith;
  few_reservoirs = omega arith;
  few_patterns = omega arith;
  few_rights = omega arith;
  connected = record { some_row = omega arith; has_below = below };
  reservoirs_good = (reservoir-good, tt);
  patterns_good = (record { twelve = refl; sum_most = omega arith }, tt);
  rights_good = (right-11, (right-12, (right-13, (right-14, (right-15, tt)))));
}
  where
    right-11 : GoodRight october (plain_right 11 18900501 direct 2 255 1500)
    right-11 = record {
      row_in = omega arith;
      reservoir-ok = tt;
      returns-ok = inl (record { no_points = refl; all_used = refl });
      amounts_most = λ m. same-amounts 12 1500 m _ (omega arith);
      limit_most = omega arith;
      efficiency_most = omega arith;
    }

    right-12 : GoodRight october (returning_right 12 19000401 direct 1 255 1201 33 2)
    right-12 = record {
      row_in = omega arith;
      reservoir-ok = tt;
      returns-ok = inr (record {
        efficiency_most = omega arith;
        whole = refl;
        pattern_in = omega arith;
        rows_in = (omega arith, tt);
        few_points = omega arith;
      });
      amounts_most = λ m. same-amounts 12 1201 m _ (omega arith);
      limit_most = omega arith;
      efficiency_most = omega arith;
    }

    right-13 : GoodRight october (storage_right 13 19100101 0 0 900 3000)
    right-13 = record {
      row_in = omega arith;
      reservoir-ok = (omega arith, refl);
      returns-ok = refl;
      amounts_most = λ m. same-amounts 12 900 m _ (omega arith);
      limit_most = omega arith;
      efficiency_most = omega arith;
    }

    right-14 : GoodRight october (plain_right 14 19500101 project 1 0 600)
    right-14 = record {
      row_in = omega arith;
      reservoir-ok = (omega arith, refl);
      returns-ok = inl (record { no_points = refl; all_used = refl });
      amounts_most = λ m. same-amounts 12 600 m _ (omega arith);
      limit_most = omega arith;
      efficiency_most = omega arith;
    }

    right-15 : GoodRight october (plain_right 15 99999999 direct 0 255 50)
    right-15 = record {
      row_in = omega arith;
      reservoir-ok = tt;
      returns-ok = inl (record { no_points = refl; all_used = refl });
      amounts_most = λ m. same-amounts 12 50 m _ (omega arith);
      limit_most = omega arith;
      efficiency_most = omega arith;
    }
