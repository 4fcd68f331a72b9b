-- Laws of the rules of a row. Assumes nothing.
use Rattle.std.specs.Prelude.{is_some, None, Option, Some}
use mathlib.Core.Path.{◌≡◌, ap, ◌∙◌}
use mathlib.Core.Bool.{Bool, true, false}
use mathlib.Core.List.{List}
use Prim.Native.Nat.{ℕ, suc, ◌+◌, ◌<◌}
use native.Mathlib.Omega.{arith}
use borrow.Author.Tests.{eq-eqb, ne_eqb}
use lib.Dec.{eqb}
use Rattle.general.specs.Tests.{◌and◌}
use Rattle.general.proofs.Loops.{and_no, and-not}
use Rattle.general.proofs.Tests.{and-of}
use Rattle.rules.specs.Path.{row_below}
use Rattle.records.specs.Records.{rows_of, stations_of}
use Rattle.records.specs.Network.{order_at}
use Rattle.filerules.specs.FileRules.{way_down, station_plain, station_ok}
use Rattle.records.proofs.Rows.{some_below, none_below}

module _ (s : List ℕ) (i : ℕ) where
  pub plain-fails : station_plain s i ≡ false → station_ok s i ≡ false
  unfolding station_ok
  plain-fails e = and_no (way_down s i) e

  way-last : i + 1 ≡ rows_of s → way_down s i ≡ eqb (order_at s i) 1
  unfolding way_down
  way-last h = rw (eq-eqb (suc i) (rows_of s) (omega arith))

  -- the last row
  pub last_row_lem : i + 1 ≡ rows_of s → station_ok s i ≡ (station_plain s i and eqb (order_at s i) 1)
  unfolding station_ok
  last_row_lem h = ap (λ (b : Bool). station_plain s i and b) (way-last h)

  -- another row, by the answer of the row-below lookup
  module _ (h : i + 1 < rows_of s) (b : Option ℕ) (e : b ≡ row_below (stations_of s) i) where
    way_on : way_down s i ≡ is_some (row_below (stations_of s) i)
    unfolding way_down
    way_on = rw (ne_eqb (suc i) (rows_of s) (λ g. omega arith))

    pub row-lost : b ≡ None → station_ok s i ≡ false
    unfolding station_ok
    row-lost g = and-not (station_plain s i) (way_on ∙ none_below s i b e g)

    pub row-good : (q : ℕ) → b ≡ Some q → station_plain s i ≡ true → station_ok s i ≡ true
    unfolding station_ok
    row-good q g p = and-of p (way_on ∙ some_below s i b e q g)
