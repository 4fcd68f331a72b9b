-- What a setting says of the parts of a file. Assumes nothing.
use mathlib.Core.Bool.{true}
use mathlib.Core.List.{List}
use mathlib.Core.Path.{◌≡◌, sym, ap, ◌∙◌, subst}
use Prim.Native.Nat.{ℕ, ◌≤◌, ◌<◌}
use native.Mathlib.Omega.{arith}
use lib.ListN.{length, get_or}
use Rattle.general.specs.Tests.{has}
use Rattle.general.proofs.Lists.{all-at-place}
use Rattle.rules.specs.Basin.{Reservoir, Right, Basin, no_reservoir, no_right, rows, reservoir_at, right_at}
use Rattle.rules.specs.Path.{path}
use Rattle.rules.proofs.Path as paths
use Rattle.rules.specs.Accepted.{GoodReservoir}
use Rattle.records.specs.Records as records
use Rattle.records.specs.Records.{rows_of, reservoir_count, right_count, right_of}
use Rattle.records.specs.Table.{path_by, Downhill}
use Rattle.records.proofs.Decoded as decoded
use Rattle.records.proofs.Decoded.{reservoirs-are, rights-are}
use Rattle.records.proofs.Rows.{rows_are}
use Rattle.records.proofs.Table.{table-downhill, table-path}
use Rattle.river.specs.Setting.{SettingOf}
use Rattle.grants.specs.Stages.{capacity_in, home_row}

module _ {b : Basin} {st t rs : List ℕ} {pa : List (List ℕ)} {ri : List ℕ} (w : SettingOf b st t rs pa ri) where
  -- ---- counts

  pub rows-st : rows_of st ≡ rows b
  rows-st = sym (rows_are st) ∙ ap length (sym w.stations)

  pub few : rows b ≤ 64
  few = w.accepted.few_rows

  -- ---- paths

  pub downhill : Downhill t
  downhill = subst Downhill (sym w.table) (table-downhill b.stations few)

  pub path-is : (r : ℕ) → r < rows b → path_by t r ≡ path b.stations r
  path-is r h = ap (λ (x : List ℕ). path_by x r) w.table ∙ table-path b.stations few r h

  -- a path of a row of the basin has rows of the basin
  pub path-in : (r : ℕ) → r < rows b → (k : ℕ) → has k (path_by t r) ≡ true → k < rows b
  path-in r h k e = paths.path-in b.stations r h k (sym (ap (has k) (path-is r h)) ∙ e)

  -- ---- counts of the other parts

  pub reservoirs-count : length b.reservoirs ≡ reservoir_count rs
  reservoirs-count = ap length w.reservoirs ∙ reservoirs-are rs

  pub rights-count : length b.rights ≡ right_count ri
  rights-count = ap length w.rights ∙ rights-are ri

  -- ---- records

  pub right_is : (i : ℕ) → i < right_count ri → right_at b i ≡ right_of ri i
  right_is i h = ap (λ (l : List Right). get_or l i no_right) w.rights ∙ decoded.right_is ri i h

  pub reservoir-is : (v : ℕ) → v < reservoir_count rs → reservoir_at b v ≡ records.reservoir_of rs v
  reservoir-is v h = ap (λ (l : List Reservoir). get_or l v no_reservoir) w.reservoirs ∙ decoded.reservoir-is rs v h

  pub capacity-is : (v : ℕ) → v < reservoir_count rs → (reservoir_at b v).capacity ≡ capacity_in rs v
  unfolding records.reservoir_of
  capacity-is v h = ap (λ (x : Reservoir). x.capacity) (reservoir-is v h)

  pub home-is : (v : ℕ) → v < reservoir_count rs → (reservoir_at b v).row ≡ home_row rs v
  unfolding records.reservoir_of
  home-is v h = ap (λ (x : Reservoir). x.row) (reservoir-is v h)

  pub home-in : (v : ℕ) → v < reservoir_count rs → home_row rs v < rows b
  home-in v h =
      let g : GoodReservoir b (reservoir_at b v) = all-at-place (GoodReservoir b) b.reservoirs no_reservoir w.accepted.reservoirs_good v (omega (arith, reservoirs-count)) in
      omega (arith, g.row_in, home-is v h)
