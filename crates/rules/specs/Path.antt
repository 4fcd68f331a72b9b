-- The river's network (01, "The path of a row"). It is read off the stations alone.
use Rattle.std.specs.Prelude.{Bool, true, false, ◌||◌, List, [], ◌∷◌, ℕ, suc, ◌-◌, eqb, length, Option}
use Rattle.general.specs.Routes.{follow}
use Rattle.general.specs.Tests.{first_at}
use Rattle.rules.specs.Basin.{Station, Basin, rows, station_at}

-- whether row j carries on a river of order o: it has that order, or one less
unfoldable pub carries_on : List Station → ℕ → ℕ → Bool
carries_on st o j = let x : ℕ = (station_at st j).order in eqb x o || eqb (suc x) o

-- The row below (the next station downstream): of the rows after this one, the first that carries its river on.
unfoldable pub row_below : List Station → ℕ → Option ℕ
row_below st r = first_at (length st - suc r) (suc r) (carries_on st (station_at st r).order)

-- The path of a row: its station and all those downstream of it, down to the outlet.
unfoldable pub path : List Station → ℕ → List ℕ
path st r = follow (row_below st) (length st) r

-- a path as far as just above row w
unfoldable pub until_row : ℕ → List ℕ → List ℕ
until_row w [] = []
until_row w (r ∷ p) = elim (eqb r w) [ true ↦ [] | false ↦ r ∷ until_row w p ]

-- the outlet of the basin
abbrev pub last_row : Basin → ℕ
last_row b = rows b - 1
