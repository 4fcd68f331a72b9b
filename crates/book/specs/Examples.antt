-- A book of two years for one station, byte by byte, with what is found in it, and books like it with one fault each.
use Rattle.std.specs.Prelude.{◌≡◌, true, false, List, [], ◌∷◌, ◌++◌, ℕ, zero, suc, ◌+◌, ◌*◌, ◌/◌, ◌%◌, replicate, None, Some}
use Rattle.book.specs.Book.{book_ok, listed_at, listed_body}

-- a number in four bytes, the least significant first
abbrev bytes4 : ℕ → List ℕ
bytes4 x = x % 256 ∷ x / 256 % 256 ∷ x / 65536 % 256 ∷ x / 16777216 ∷ []

-- years a and b whose bodies stand at p and q, of bytes 7 and 9, then the rest
unfoldable pub book_with : ℕ → ℕ → ℕ → ℕ → List ℕ → List ℕ
book_with a p b q rest = bytes4 2 ++ bytes4 a ++ bytes4 p ++ bytes4 b ++ bytes4 q ++ replicate 48 7 ++ replicate 48 9 ++ rest

-- n entries of years from y on, whose bodies stand one after another from p on
unfoldable pub entries_from : ℕ → ℕ → ℕ → List ℕ
entries_from zero y p = []
entries_from (suc n) y p = bytes4 y ++ bytes4 p ++ entries_from n (suc y) (p + 48)

-- a book of n years, all of whose runoff is 0
unfoldable pub book_of : ℕ → List ℕ
book_of n = bytes4 n ++ entries_from n 1800 (4 + 8 * n) ++ replicate (48 * n) 0

pub record BooksChecked : Type 0 where
  -- 20 bytes of contents, then 48 for each year; both ends of the range are years
  pub good : book_ok 1 (book_with 1800 20 2200 68 []) ≡ true
  pub found : listed_at (book_with 1800 20 2200 68 []) 2200 ≡ Some 1
  pub first_body : listed_body 1 (book_with 1800 20 2200 68 []) 1800 ≡ replicate 48 7
  pub last_body : listed_body 1 (book_with 1800 20 2200 68 []) 2200 ≡ replicate 48 9
  pub not_listed : listed_at (book_with 1800 20 2200 68 []) 1801 ≡ None
  pub no_body : listed_body 1 (book_with 1800 20 2200 68 []) 1801 ≡ []
  -- no year at all is four bytes, for any number of stations, and not a byte more or less
  pub empty : book_ok 64 (bytes4 0) ≡ true
  pub empty_and_more : book_ok 64 (bytes4 0 ++ (0 ∷ [])) ≡ false
  pub cut : book_ok 64 (0 ∷ 0 ∷ 0 ∷ []) ≡ false
  pub nothing : book_ok 1 [] ≡ false
  -- one fault each
  pub too_early : book_ok 1 (book_with 1799 20 2200 68 []) ≡ false
  pub too_late : book_ok 1 (book_with 1800 20 2201 68 []) ≡ false
  pub twice : book_ok 1 (book_with 1900 20 1900 68 []) ≡ false
  pub falling : book_ok 1 (book_with 1901 20 1900 68 []) ≡ false
  pub overlap : book_ok 1 (book_with 1800 20 2200 67 []) ≡ false
  pub swapped : book_ok 1 (book_with 1800 68 2200 20 []) ≡ false
  pub one_more : book_ok 1 (book_with 1800 20 2200 68 (0 ∷ [])) ≡ false
  pub two-stations : book_ok 2 (book_with 1800 20 2200 68 []) ≡ false
  -- an offset that is right in its lower three bytes only
  pub far : book_ok 1 (book_with 1800 20 2200 16777284 []) ≡ false
  -- twenty years are a book, one more is too many
  pub twenty : book_ok 1 (book_of 20) ≡ true
  pub too_many : book_ok 1 (book_of 21) ≡ false
  -- 2 + 2²⁹ years would have a table of 20 bytes if it were counted in 32 bits
  pub wrapped : book_ok 1 (bytes4 536870914 ++ replicate 112 0) ≡ false
