-- The runoff book (02, No. 4): many water years in one file, and the look-up of one. A book belongs to basins of n stations: it begins with a table of contents,
-- and the bodies of its years follow. Any bytes may be lent. All numbers are natural numbers, so no offset or size can wrap.
use Rattle.std.specs.Prelude.{◌≡◌, Bool, true, ◌||◌, List, [], ℕ, ◌+◌, ◌-◌, ◌*◌, ◌≤◌, leb, ltb, eqb, length, take, drop, Option, None, Some, is_some}
use Rattle.general.specs.Tests.{◌and◌, between, first_at, all_to}
use Rattle.rules.specs.Basin.{rows}
use Rattle.rules.specs.declared.Refusal.TheVariants.{Book, Year}
use Rattle.rules.specs.Answers.{Answer, or_else, unless}
use Rattle.numbers.specs.Bytes.{le32_at}
use Rattle.sheets.specs.Sheets.{sheet_size}
use Rattle.records.specs.Records.{basin_of}
use Rattle.answers.specs.Answers.{file_refusal}

-- ---- what a book may hold

abbrev pub most_years : ℕ
most_years = 20

abbrev pub first_year : ℕ
first_year = 1800

abbrev pub last_year : ℕ
last_year = 2200

-- ---- the table of contents: the number of years, then an entry for each

-- how many years there are, in four bytes
unfoldable pub year_count : List ℕ → ℕ
year_count k = le32_at k 0

-- where entry i starts; with the number of years for i, where the table ends
abbrev pub entry_at : ℕ → ℕ
entry_at i = 4 + 8 * i

-- an entry is the year in four bytes
unfoldable pub year_at : List ℕ → ℕ → ℕ
year_at k i = le32_at k (entry_at i)

-- and in four more where its body starts
unfoldable pub offset_at : List ℕ → ℕ → ℕ
offset_at k i = le32_at k (entry_at i + 4)

-- ---- the bodies

-- A body has a sheet of runoff for each of twelve months, October first.
abbrev pub body_size : ℕ → ℕ
body_size n = 12 * sheet_size n

-- where body i starts if the bodies follow the table without gaps; with the number of years for i, where the book ends
unfoldable pub packed_at : ℕ → List ℕ → ℕ → ℕ
packed_at n k i = entry_at (year_count k) + body_size n * i

-- ---- the layout

-- a year is above the one before
unfoldable pub rises : List ℕ → ℕ → Bool
rises k i = eqb i 0 || ltb (year_at k (i - 1)) (year_at k i)

-- an entry's year is in range and above the one before, and its body starts where it must
unfoldable pub entry_ok : ℕ → List ℕ → ℕ → Bool
entry_ok n k i =
    between first_year (year_at k i) last_year
    and rises k i
    and eqb (offset_at k i) (packed_at n k i)

-- the number of years is there and not too large, the book ends with its last body, and every entry is good
unfoldable pub book_ok : ℕ → List ℕ → Bool
book_ok n k =
    leb 4 (length k)
    and leb (year_count k) most_years
    and eqb (length k) (packed_at n k (year_count k))
    and all_to (year_count k) (entry_ok n k)

-- ---- a year of the book

-- its place in the table; years rise, so there is one at most
unfoldable pub listed_at : List ℕ → ℕ → Option ℕ
listed_at k y = first_at (year_count k) 0 (λ i. eqb (year_at k i) y)

-- body i as a part of the book
unfoldable pub body_of : ℕ → List ℕ → ℕ → List ℕ
body_of n k i = take (body_size n) (drop (offset_at k i) k)

unfoldable pub body_where : Option ℕ → ℕ → List ℕ → List ℕ
body_where None n k = []
body_where (Some i) n k = body_of n k i

-- the body of a year; nothing where the year is not listed
abbrev pub listed_body : ℕ → List ℕ → ℕ → List ℕ
listed_body n k y = body_where (listed_at k y) n k

-- ---- looking a year up

-- what is turned down whatever the year: the file, 1 to 5, then a book that breaks its layout
unfoldable pub book_refusal : List ℕ → List ℕ → Option Answer
book_refusal f k = or_else (file_refusal f) (unless (book_ok (rows (basin_of f)) k) Book)

-- then a year that is not listed
unfoldable pub lookup_refusal : List ℕ → List ℕ → ℕ → Option Answer
lookup_refusal f k y = or_else (book_refusal f k) (unless (is_some (listed_at k y)) Year)

unfoldable pub part_where : Option Answer → List ℕ → List ℕ → ℕ → List ℕ
part_where None f k y = listed_body (rows (basin_of f)) k y
part_where (Some a) f k y = []

-- what the look-up hands out: the year's body as a part of the book, nothing where it is refused
unfoldable pub year_part : List ℕ → List ℕ → ℕ → List ℕ
year_part f k y = part_where (lookup_refusal f k y) f k y

-- ---- what the inner functions ask for: no more stations than a basin may have, and

-- a book that keeps its layout
pub record Kept (n : ℕ) (k : List ℕ) : Type 0 where
  pub few : n ≤ 64
  pub good : book_ok n k ≡ true

-- or only a number of years that is there and not too large, in a book as long as that number asks
pub record Sized (n : ℕ) (k : List ℕ) : Type 0 where
  pub few : n ≤ 64
  pub long : 4 ≤ length k
  pub small : year_count k ≤ most_years
  pub whole : length k ≡ packed_at n k (year_count k)
