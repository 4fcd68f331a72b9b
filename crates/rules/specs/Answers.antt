-- What a call answers: a number and a place (01, "Numbers for what is turned down"; 02, Nos. 4 and 7). This is the only table of the numbers.
use Rattle.std.specs.Prelude.{Bool, true, false, ℕ, ⊤, Option, None, Some, Result}
use Rattle.rules.specs.declared.Refusal.{Refusal}
use Rattle.rules.specs.declared.Refusal.TheVariants.{Layout, Station, Reservoir, Pattern, Right, Lists, Board, Runoff, Book, Year, Name, Full}

-- what is said of all that a call was lent: accepted, or the cause of a refusal with the first at fault
abbrev pub Verdict : Type 0
Verdict = Result ⊤ Refusal

-- of a refusal the number of the cause and the first at fault; of an accepted call 0 and 0, but of an accepted month how many rights are short, and of an
-- accepted year run how many months it ran
pub record Answer : Type 0 where
  pub number : ℕ
  pub place : ℕ

abbrev pub number_of : Refusal → ℕ
number_of Layout = 1
number_of (Station i) = 2
number_of (Reservoir i) = 3
number_of (Pattern i) = 4
number_of (Right i) = 5
number_of Lists = 6
number_of Board = 7
number_of (Runoff i) = 8
number_of Book = 9
number_of Year = 10
number_of Name = 11
number_of Full = 12

-- the first at fault, where there is one
abbrev pub place_of : Refusal → ℕ
place_of (Station i) = i
place_of (Reservoir i) = i
place_of (Pattern i) = i
place_of (Right i) = i
place_of (Runoff i) = i
place_of r = 0

abbrev pub told : Refusal → Answer
told r = record { number = number_of r; place = place_of r }

-- ---- refusals: none where nothing is turned down

-- a refusal, or else what comes after
unfoldable pub or_else : Option Answer → Option Answer → Option Answer
or_else None later = later
or_else (Some a) later = Some a

-- refused with this, unless the test holds
unfoldable pub unless : Bool → Refusal → Option Answer
unless true r = None
unless false r = Some (told r)
