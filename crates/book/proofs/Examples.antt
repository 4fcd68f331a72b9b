-- The layout and the look-up computed on small books. Assumes nothing.
use mathlib.Core.Path.{refl}
use Rattle.general.specs.Tests.{◌and◌, between, first_at, all_to}
use Rattle.numbers.specs.Bytes.{le32_at}
use Rattle.book.specs.Book.{year_count, year_at, offset_at, packed_at, rises, entry_ok, book_ok, listed_at, body_of, body_where}
use Rattle.book.specs.Examples.{book_with, entries_from, book_of, BooksChecked}

pub books-checked : BooksChecked
unfolding book_with entries_from book_of book_ok entry_ok rises packed_at offset_at year_at year_count le32_at listed_at body_of body_where first_at all_to ◌and◌ between
books-checked = record {
  good = refl;
  found = refl;
  first_body = refl;
  last_body = refl;
  not_listed = refl;
  no_body = refl;
  empty = refl;
  empty_and_more = refl;
  cut = refl;
  nothing = refl;
  too_early = refl;
  too_late = refl;
  twice = refl;
  falling = refl;
  overlap = refl;
  swapped = refl;
  one_more = refl;
  two-stations = refl;
  far = refl;
  twenty = refl;
  too_many = refl;
  wrapped = refl;
}
