-- The sections as the code has them.
use Rattle.std.specs.Prelude.{ℕ}
use Rattle.sections.specs.declared.Section.{Section}
use Rattle.sections.specs.declared.Section.TheVariants.{Stations, Reservoirs, Patterns, Rights}

-- a section's place in the table, by which the definitions of the file go
abbrev pub place_of : Section → ℕ
place_of Stations = 0
place_of Reservoirs = 1
place_of Patterns = 2
place_of Rights = 3
