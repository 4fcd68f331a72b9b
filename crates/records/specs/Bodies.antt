-- The four bodies of a basin file, as the code has them together.
use Rattle.std.specs.Prelude.{◌≡◌, List, ℕ}
use Rattle.rules.specs.Basin.{Basin}
use Rattle.sections.specs.File.{section_of}
use Rattle.records.specs.declared.bodies.Bodies.{Bodies}
use Rattle.records.specs.Records.{bodies}

-- the basin that they describe
abbrev pub basin_in : Bodies → Basin
basin_in b = bodies b.stations.now b.reservoirs.now b.patterns.now b.rights.now

-- b holds the bodies of the file f
pub record BodiesOf (f : List ℕ) (b : Bodies) : Type 0 where
  pub stations : b.stations.now ≡ section_of f 0
  pub reservoirs : b.reservoirs.now ≡ section_of f 1
  pub patterns : b.patterns.now ≡ section_of f 2
  pub rights : b.rights.now ≡ section_of f 3
