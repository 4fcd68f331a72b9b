-- What the start of a year of a runoff book promises in a listing.
use Rattle.std.specs.Prelude.{true, false, List, [], ◌≡◌, ℕ, ◌≤◌, Option, None, Some}
use Rattle.rules.specs.Answers.{Answer}
use Rattle.years.specs.Runs.{CanJudge}
use Rattle.lines.specs.Texts.{room_of}
use Rattle.lines.specs.Putting.{most_text, Put}
use Rattle.listing.specs.Listing.{refusal_line}
use Rattle.listing.specs.Run.{Standing, Step}
use Rattle.yearly.specs.Years.{year_refusal}
use Rattle.lister.specs.declared.Listing.{Listing}
use Rattle.lister.specs.Lister.{standing, text_of, Kept}

-- A year that is turned down ends the listing with its refusal. Of any other nothing is put yet: its sheets follow.
unfoldable pub year_opening : Option Answer → Standing → Step
year_opening None s = record { text = []; standing = s; more = true }
year_opening (Some a) s = record { text = refusal_line a; standing = s; more = false }

-- a listing that goes on, with room for a refusal
pub record CanOpenYear (l : Listing) : Type 0 where
  pub in_order : CanJudge l.file.now l.board.now
  pub going : l.more ≡ true
  pub room : most_text ≤ room_of (text_of l)

-- The text is added; the board and the list for a report are as they were.
pub record YearOpened (book : List ℕ) (y : ℕ) (l l' : Listing) : Type 0 where
  pub added : List ℕ
  pub put : Put most_text added (text_of l) (text_of l')
  pub equation : record { text = added; standing = standing l'; more = l'.more } ≡ year_opening (year_refusal l.file.now book (standing l) y) (standing l)
  pub report : l'.report.now ≡ l.report.now
  pub kept : Kept l l'
