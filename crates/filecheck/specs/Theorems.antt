-- What is proved of the check beyond the promises of its calls. The proofs stand in proofs/ under the same names, in small letters.
use Rattle.std.specs.Prelude.{◌≡◌, Ok, List, ℕ, ◌<◌, length}
use Rattle.rules.specs.Basin.{reservoir_at}
use Rattle.rules.specs.Accepted.{Accepted}
use Rattle.rules.specs.Theorems.{AreaFacts}
use Rattle.records.specs.Records.{basin_of}
use Rattle.filecheck.specs.Check.{check_of}

-- A file that the check accepts, whatever its bytes, describes a basin that has all that the rules of a month need.
abbrev pub AcceptedFacts : Type 0
AcceptedFacts = (f : List ℕ) → check_of f ≡ Ok tt → Accepted (basin_of f)

-- The table of each of its lakes rises, so that the area is the pair's at a pair and between theirs between two.
abbrev pub LakeAreas : Type 0
LakeAreas = (f : List ℕ) → check_of f ≡ Ok tt → (v : ℕ) → v < length (basin_of f).reservoirs → AreaFacts (reservoir_at (basin_of f) v)
