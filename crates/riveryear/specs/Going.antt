-- What the program keeps from year to year of a listing.
use Rattle.std.specs.Prelude.{true, ◌≡◌, ℕ, ◌+◌, ◌*◌, ◌≤◌}
use Rattle.lister.specs.declared.Listing.{Listing}
use Rattle.lister.specs.Lister.{Kept}
use Rattle.printing.specs.Going.{Going}

-- the most bytes of a year: twelve sheets of 64 stations; the months are counted by the bytes, of which each takes some
abbrev pub year_bytes : ℕ
year_bytes = 3072

-- the most years that are listed: more words than any system hands over, and few enough that their months can be counted
abbrev pub most_asked : ℕ
most_asked = 1099511627776

-- a listing that goes on, and whose months can be counted to the end of so many years
pub record CanListYears (years : ℕ) (l : Listing) : Type 0 where
  pub going : Going l
  pub more : l.more ≡ true
  pub counted : l.months + year_bytes * years ≤ 9_223_372_036_854_775_808

-- what is kept when a year has been listed
pub record YearWent (l l' : Listing) : Type 0 where
  pub going : Going l'
  pub counted : l'.months ≤ l.months + year_bytes
  pub kept : Kept l l'
