-- The decoded lists of a basin, record by record; those of the stations stand in Rows. Assumes nothing.
use mathlib.Core.Path.{◌≡◌, sym, ap, ◌∙◌}
use mathlib.Core.List.{List, []}
use Prim.Native.Nat.{ℕ, ◌<◌}
use lib.ListN.{length, get_or}
use Rattle.general.proofs.Tables.{tab-length, tab-at}
use Rattle.rules.specs.Basin.{no_reservoir, no_right, rows}
use Rattle.sections.specs.File.{section_of}
use Rattle.records.specs.Records.{reservoir_count, reservoir_of, reservoirs_of, pattern_count, pattern_of, patterns_of, right_count, right_of, rights_of, rows_of, bodies, basin_of}
use Rattle.records.specs.declared.bodies.Bodies.{Bodies}
use Rattle.records.specs.Bodies.{basin_in, BodiesOf}
use Rattle.records.proofs.Rows.{rows_are}

module _ (s : List ℕ) where
  pub reservoirs-are : length (reservoirs_of s) ≡ reservoir_count s
  unfolding reservoirs_of
  reservoirs-are = tab-length (reservoir_of s) (reservoir_count s)

  pub reservoir-is : (v : ℕ) → v < reservoir_count s → get_or (reservoirs_of s) v no_reservoir ≡ reservoir_of s v
  unfolding reservoirs_of
  reservoir-is v h = tab-at (reservoir_of s) (reservoir_count s) v no_reservoir h

  pub patterns-are : length (patterns_of s) ≡ pattern_count s
  unfolding patterns_of
  patterns-are = tab-length (pattern_of s) (pattern_count s)

  pub pattern-is : (p : ℕ) → p < pattern_count s → get_or (patterns_of s) p [] ≡ pattern_of s p
  unfolding patterns_of
  pattern-is p h = tab-at (pattern_of s) (pattern_count s) p [] h

  pub rights-are : length (rights_of s) ≡ right_count s
  unfolding rights_of
  rights-are = tab-length (right_of s) (right_count s)

  pub right_is : (i : ℕ) → i < right_count s → get_or (rights_of s) i no_right ≡ right_of s i
  unfolding rights_of
  right_is i h = tab-at (right_of s) (right_count s) i no_right h

-- ---- the basin that four bodies describe, and that of a file

module _ (w : Bodies) where
  pub bodies-rows : rows (basin_in w) ≡ rows_of w.stations.now
  unfolding bodies
  bodies-rows = rows_are w.stations.now

  pub bodies-reservoirs : length (basin_in w).reservoirs ≡ reservoir_count w.reservoirs.now
  unfolding bodies
  bodies-reservoirs = reservoirs-are w.reservoirs.now

  pub bodies-rights : length (basin_in w).rights ≡ right_count w.rights.now
  unfolding bodies
  bodies-rights = rights-are w.rights.now

-- how many rows a file has, by its body of stations
pub file-rows : (f : List ℕ) {st : List ℕ} → st ≡ section_of f 0 → rows_of st ≡ rows (basin_of f)
unfolding basin_of bodies
file-rows f e = ap rows_of e ∙ sym (rows_are (section_of f 0))

-- what the bodies of a file describe is the file's basin
pub basin-same : (f : List ℕ) (w : Bodies) → BodiesOf f w → basin_in w ≡ basin_of f
unfolding basin_of
basin-same f w o = λ z. bodies (o.stations z) (o.reservoirs z) (o.patterns z) (o.rights z)
