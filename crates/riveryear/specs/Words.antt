-- The year that a word of the command line names.
use Rattle.std.specs.Prelude.{true, false, cond, List, [], ◌∷◌, ℕ, ◌+◌, ◌-◌, ◌*◌, leb, Option, None, Some}
use Rattle.std.specs.Option.{unwrap_or}
use Rattle.general.specs.Tests.{between}

-- Decimal digits read on from the number n, the first of them weighing most; none where a byte is no digit.
unfoldable pub read_on : ℕ → List ℕ → Option ℕ
read_on n [] = Some n
read_on n (c ∷ cs) = elim (between 48 c 57) [ true ↦ read_on (10 * n + (c - 48)) cs | false ↦ None ]

-- the largest number of 32 bits, as which a year is looked up
abbrev pub most_year : ℕ
most_year = 4294967295

unfoldable pub year_in : Option ℕ → Option ℕ
year_in None = None
year_in (Some n) = cond (leb n most_year) (Some n) None

-- The number that the digits make. An empty word, one with another byte and one that is too large name no year.
unfoldable pub year_named : List ℕ → Option ℕ
year_named [] = None
year_named (c ∷ cs) = year_in (read_on 0 (c ∷ cs))

-- The year that a word has looked up: the one that it names. Where it names none, 0 stands for that: no book lists it.
abbrev pub year_sought : List ℕ → ℕ
year_sought word = unwrap_or (year_named word) 0
