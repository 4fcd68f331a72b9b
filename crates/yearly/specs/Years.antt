-- The listing of picked years of a runoff book (02, No. 4): a basin file, a book and years. Each year is run from where the listing stands, as a year run is.
-- With it the steps of a program that lists so, and that their texts are this listing; and years as a file of months. proofs/Years and proofs/Bodies prove it.
use Rattle.std.specs.Prelude.{Bool, true, false, List, [], ◌∷◌, ◌++◌, ◌≡◌, ℕ, ◌*◌, ◌<◌, length, drop, replicate, Option, None, Some, Ok}
use Rattle.general.specs.Tables.{All}
use Rattle.places.specs.Board.{month_at}
use Rattle.rules.specs.Basin.{Basin}
use Rattle.rules.specs.Answers.{Answer}
use Rattle.rules.specs.Tally.{report_length}
use Rattle.filecheck.specs.Check.{check_of}
use Rattle.records.specs.Records.{basin_of}
use Rattle.answers.specs.Answers.{file_refusal}
use Rattle.book.specs.Book.{year_part}
use Rattle.years.specs.Years.{sheets_left, run_refusal}
use Rattle.listing.specs.Listing.{refusal_line, header}
use Rattle.listing.specs.Run.{sheet_bytes, Standing, Step, sheet_step, begin, listing_of}
use Rattle.listing.specs.Steps.{Place, texts_of, Call, Calls, steps_of}

-- ---- what one year adds

-- Sheets of which none is turned down: the texts of their months, one after another, and how the run stands after the last.
unfoldable pub sheets_listed : Basin → Standing → List (List ℕ) → Step
sheets_listed b s [] = record { text = []; standing = s; more = true }
sheets_listed b s (r ∷ rs) =
    let first : Step = sheet_step None b s r in
    let later : Step = sheets_listed b first.standing rs in
    record { text = first.text ++ later.text; standing = later.standing; more = true }

-- A year that is turned down ends the run with its refusal, and none of its months is listed. Any other adds its months, and the run goes on.
unfoldable pub year_step : Option Answer → Basin → Standing → List (List ℕ) → Step
year_step (Some a) b s rs = record { text = refusal_line a; standing = s; more = false }
year_step None b s rs = sheets_listed b s rs

-- a list that is just long enough for twelve reports
abbrev pub least_list : Basin → List ℕ
least_list b = replicate (12 * report_length b) 0

-- what a year run would turn down here, lent such a list
abbrev pub year_refusal : List ℕ → List ℕ → Standing → ℕ → Option Answer
year_refusal f book s y = run_refusal f book y s.board (least_list (basin_of f))

-- what the next year adds: the sheets are those from the month on at which the board stands
unfoldable pub next_year : List ℕ → List ℕ → Standing → ℕ → Step
next_year f book s y = year_step (year_refusal f book s y) (basin_of f) s (sheets_left f book y s.board)

-- ---- year after year

-- what the years add, each from where the one before left the run, until one is turned down
unfoldable pub years_text : List ℕ → List ℕ → Standing → List ℕ → List ℕ
years_text f book s [] = []
years_text f book s (y ∷ ys) =
    let t : Step = next_year f book s y in
    t.text ++ elim t.more [ true ↦ years_text f book t.standing ys | false ↦ [] ]

-- A basin that is turned down ends the listing with its refusal, whatever the years.
unfoldable pub years_after_header : Option Answer → List ℕ → List ℕ → List ℕ → List ℕ
years_after_header (Some a) f book ys = refusal_line a
years_after_header None f book ys = years_text f book (begin (basin_of f)) ys

-- The listing: the header, then the basin's refusal or the months of the years.
unfoldable pub years_listing : List ℕ → List ℕ → List ℕ → List ℕ
years_listing f book ys = header ++ years_after_header (file_refusal f) f book ys

-- ---- the steps of a program

-- A year that is listed: calls that lend its body from the board's month on, in blocks of any length of which none is said to be the last of a file, until less
-- than a sheet is left.
pub record SheetsCalled (b : Basin) (s : Standing) (part : List ℕ) (o : Step) : Type 0 where
  pub calls : List (Call × List ℕ)
  pub to : Place
  pub made : Calls b (record { standing = s; left = part; more = true }) calls to
  pub on : All (λ (c : Call × List ℕ). c.0.last ≡ false) calls
  pub used : length to.left < sheet_bytes b
  pub told : o ≡ record { text = texts_of (steps_of calls); standing = to.standing; more = to.more }

-- What a program makes of a year, by what the run of the year would turn down.
abbrev pub YearMade : Option Answer → Basin → Standing → List ℕ → Step → Type 0
YearMade (Some a) b s part o = o ≡ record { text = refusal_line a; standing = s; more = false }
YearMade None b s part o = SheetsCalled b s part o

-- the body of a year from the month on at which the board stands
abbrev pub part_left : List ℕ → List ℕ → ℕ → List ℕ → List ℕ
part_left f book y board = drop (sheet_bytes (basin_of f) * month_at board) (year_part f book y)

-- what is made of the years after it: nothing where the run has ended
abbrev pub Later : Bool → List Step → Type 0 → Type 0
Later true os on = on
Later false os on = os ≡ []

-- The steps of years one after another: each stands where the one before left the run.
abbrev pub YearsMade : List ℕ → List ℕ → Standing → List ℕ → List Step → Type 0
YearsMade f book s [] os = os ≡ []
YearsMade f book s (y ∷ ys) [] = ⊥
YearsMade f book s (y ∷ ys) (o ∷ os) =
    YearMade (year_refusal f book s y) (basin_of f) s (part_left f book y s.board) o
    × Later o.more os (YearsMade f book o.standing ys os)

-- Of an accepted file: the header and the texts of the steps, from the fresh board on, are the listing of the years.
abbrev pub YearsList : Type 0
YearsList = (f book ys : List ℕ) → check_of f ≡ Ok tt → (os : List Step) → YearsMade f book (begin (basin_of f)) ys os → header ++ texts_of os ≡ years_listing f book ys

-- Of a file that is turned down: the header and the refusal are.
abbrev pub RefusalListsYears : Type 0
RefusalListsYears = (f book ys : List ℕ) (a : Answer) → file_refusal f ≡ Some a → header ++ refusal_line a ≡ years_listing f book ys

-- ---- years as a file of months

-- each year is accepted where the one before left the run
abbrev pub YearsAccepted : List ℕ → List ℕ → Standing → List ℕ → Type 0
YearsAccepted f book s [] = Unit {0}
YearsAccepted f book s (y ∷ ys) = (year_refusal f book s y ≡ None) × YearsAccepted f book (next_year f book s y).standing ys

-- the bodies of the years, one after another
unfoldable pub bodies_of : List ℕ → List ℕ → List ℕ → List ℕ
bodies_of f book [] = []
bodies_of f book (y ∷ ys) = year_part f book y ++ bodies_of f book ys

-- Where each year is accepted, the listing of the years is that of a file of months that holds their bodies.
abbrev pub YearsAsMonths : Type 0
YearsAsMonths = (f book ys : List ℕ) → check_of f ≡ Ok tt → YearsAccepted f book (begin (basin_of f)) ys → years_listing f book ys ≡ listing_of f (bodies_of f book ys)
