-- Laws of the row below, at a body of stations. Assumes nothing.
use Rattle.std.specs.Prelude.{Option, None, Some, is_some}
use mathlib.Core.Path.{◌≡◌, sym, ap, ◌∙◌}
use mathlib.Core.Bool.{true, false, ◌||◌}
use mathlib.Core.List.{List}
use Prim.Native.Nat.{ℕ, ◌+◌, ◌-◌, ◌<◌}
use native.Mathlib.Numerals.{add-one}
use native.Mathlib.Omega.{arith}
use lib.Dec.{eqb}
use lib.ListN.{length}
use Rattle.general.specs.Tests.{first_at}
use Rattle.general.proofs.Search.{first-same}
use Rattle.rules.specs.Basin.{Station, no_station, station_at}
use Rattle.rules.specs.Path.{carries_on, row_below}
use Rattle.records.specs.Records.{rows_of, station_of, stations_of}
use Rattle.records.specs.Network.{order_at}
use Rattle.general.proofs.Tables.{tab-length, tab-at}

pub rows_are : (s : List ℕ) → length (stations_of s) ≡ rows_of s
unfolding stations_of
rows_are s = tab-length (station_of s) (rows_of s)

pub station-is : (s : List ℕ) (i : ℕ) → i < rows_of s → station_at (stations_of s) i ≡ station_of s i
unfolding stations_of
station-is s i h = tab-at (station_of s) (rows_of s) i no_station h

order_is : (s : List ℕ) (i : ℕ) → i < rows_of s → (station_at (stations_of s) i).order ≡ order_at s i
unfolding station_of
order_is s i h = ap (λ (x : Station). x.order) (station-is s i h)

-- the first of the rows after row i whose order is o or one less
pub below-first : (s : List ℕ) (i o : ℕ) → i < rows_of s → o ≡ order_at s i
    → first_at (rows_of s - (i + 1)) (i + 1) (λ j. eqb (order_at s j) o || eqb (order_at s j + 1) o) ≡ row_below (stations_of s) i
unfolding row_below carries_on
below-first s i o h e = rw (rows_are s, order_is s i h, ← e, ← add-one i) (first-same _ _ (rows_of s - (i + 1)) (i + 1) (λ j l m. rw (order_is s j (omega arith), ← add-one (order_at s j))))

-- ---- what the answer says

module _ (s : List ℕ) (i : ℕ) (b : Option ℕ) (e : b ≡ row_below (stations_of s) i) where
  pub some_below : (q : ℕ) → b ≡ Some q → is_some (row_below (stations_of s) i) ≡ true
  some_below q g = rw (sym e ∙ g)

  pub none_below : b ≡ None → is_some (row_below (stations_of s) i) ≡ false
  none_below g = rw (sym e ∙ g)
