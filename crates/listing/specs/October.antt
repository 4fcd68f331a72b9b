-- 01's "One October, whole" as a listing of two files, byte by byte; listings that end at once; and the text of three numbers.
use Rattle.std.specs.Prelude.{List, [], ◌∷◌, ◌++◌, ◌≡◌, ℕ, ◌+◌, take}
use Rattle.filecheck.specs.October.{october_file}
use Rattle.listing.specs.Listing.{decimal_text}
use Rattle.listing.specs.Run.{listing_of}

-- its one sheet of runoff: 2000, 700 and 300
abbrev pub october_months : List ℕ
october_months = 208 ∷ 7 ∷ 0 ∷ 0 ∷ 188 ∷ 2 ∷ 0 ∷ 0 ∷ 44 ∷ 1 ∷ 0 ∷ 0 ∷ []

-- MONTH PERMIT RIVER STORE WHY AT
abbrev pub head_line : List ℕ
head_line =
    77 ∷ 79 ∷ 78 ∷ 84 ∷ 72 ∷ 32 ∷ 80 ∷ 69 ∷ 82 ∷ 77 ∷ 73 ∷ 84 ∷ 32 ∷ 82 ∷ 73 ∷ 86 ∷ 69 ∷ 82 ∷ 32 ∷ 83 ∷ 84 ∷ 79 ∷ 82 ∷ 69 ∷ 32 ∷ 87 ∷ 72 ∷ 89 ∷ 32 ∷ 65 ∷ 84 ∷ 10 ∷ []

-- 0 11 1500 0 0 0
abbrev first_line : List ℕ
first_line = 48 ∷ 32 ∷ 49 ∷ 49 ∷ 32 ∷ 49 ∷ 53 ∷ 48 ∷ 48 ∷ 32 ∷ 48 ∷ 32 ∷ 48 ∷ 32 ∷ 48 ∷ 10 ∷ []

-- 0 12 1201 0 0 0
abbrev second_line : List ℕ
second_line = 48 ∷ 32 ∷ 49 ∷ 50 ∷ 32 ∷ 49 ∷ 50 ∷ 48 ∷ 49 ∷ 32 ∷ 48 ∷ 32 ∷ 48 ∷ 32 ∷ 48 ∷ 10 ∷ []

-- 0 13 701 0 2 300
abbrev third_line : List ℕ
third_line = 48 ∷ 32 ∷ 49 ∷ 51 ∷ 32 ∷ 55 ∷ 48 ∷ 49 ∷ 32 ∷ 48 ∷ 32 ∷ 50 ∷ 32 ∷ 51 ∷ 48 ∷ 48 ∷ 10 ∷ []

-- 0 14 0 600 0 0
abbrev fourth_line : List ℕ
fourth_line = 48 ∷ 32 ∷ 49 ∷ 52 ∷ 32 ∷ 48 ∷ 32 ∷ 54 ∷ 48 ∷ 48 ∷ 32 ∷ 48 ∷ 32 ∷ 48 ∷ 10 ∷ []

-- 0 15 0 0 1 100
abbrev fifth_line : List ℕ
fifth_line = 48 ∷ 32 ∷ 49 ∷ 53 ∷ 32 ∷ 48 ∷ 32 ∷ 48 ∷ 32 ∷ 49 ∷ 32 ∷ 49 ∷ 48 ∷ 48 ∷ 10 ∷ []

-- 0 end 0 75 1026 403
abbrev sixth_line : List ℕ
sixth_line = 48 ∷ 32 ∷ 101 ∷ 110 ∷ 100 ∷ 32 ∷ 48 ∷ 32 ∷ 55 ∷ 53 ∷ 32 ∷ 49 ∷ 48 ∷ 50 ∷ 54 ∷ 32 ∷ 52 ∷ 48 ∷ 51 ∷ 10 ∷ []

abbrev pub seven_lines : List ℕ
seven_lines = head_line ++ first_line ++ second_line ++ third_line ++ fourth_line ++ fifth_line ++ sixth_line

-- a sheet with 1,000,000,001 at row 1
abbrev pub over_months : List ℕ
over_months = 208 ∷ 7 ∷ 0 ∷ 0 ∷ 1 ∷ 202 ∷ 154 ∷ 59 ∷ 44 ∷ 1 ∷ 0 ∷ 0 ∷ []

-- refused 1 0, refused 6 0, refused 8 1
abbrev pub refused_line : ℕ → ℕ → List ℕ
refused_line number place = 114 ∷ 101 ∷ 102 ∷ 117 ∷ 115 ∷ 101 ∷ 100 ∷ 32 ∷ (48 + number) ∷ 32 ∷ (48 + place) ∷ 10 ∷ []

pub record Listed : Type 0 where
  pub zero : decimal_text 0 ≡ 48 ∷ []
  pub ten : decimal_text 10 ≡ 49 ∷ 48 ∷ []
  pub fifteen_hundred : decimal_text 1500 ≡ 49 ∷ 53 ∷ 48 ∷ 48 ∷ []
  pub october : listing_of october_file october_months ≡ seven_lines
  -- no months; a sheet without its last byte; a sheet over its limit; no basin, whatever the months
  pub no_months : listing_of october_file [] ≡ head_line
  pub cut_short : listing_of october_file (take 11 october_months) ≡ head_line ++ refused_line 6 0
  pub over : listing_of october_file over_months ≡ head_line ++ refused_line 8 1
  pub no_basin : (months : List ℕ) → listing_of [] months ≡ head_line ++ refused_line 1 0
