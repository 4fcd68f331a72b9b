-- 01's "One October, whole" as the bytes of a file, and the check of this file and of files like it with one fault each.
use Rattle.std.specs.Prelude.{◌≡◌, Ok, Err, List, [], ◌∷◌, ◌++◌, ℕ, ◌/◌, ◌%◌, set, replicate, take}
use Rattle.rules.specs.October.{october, elder_alone}
use Rattle.rules.specs.declared.Refusal.TheVariants.{Layout, Station, Reservoir, Pattern, Right}
use Rattle.records.specs.Records.{basin_of}
use Rattle.filecheck.specs.Check.{check_of}

-- a number in two and in four bytes, the least significant first
abbrev bytes2 : ℕ → List ℕ
bytes2 x = x % 256 ∷ x / 256 % 256 ∷ []

abbrev bytes4 : ℕ → List ℕ
bytes4 x = x % 256 ∷ x / 256 % 256 ∷ x / 65536 % 256 ∷ x / 16777216 ∷ []

abbrev station_bytes : ℕ → ℕ → List ℕ
station_bytes number order = bytes4 number ++ (order ∷ 0 ∷ 0 ∷ 0 ∷ [])

abbrev pair_bytes : ℕ → ℕ → List ℕ
pair_bytes storage area = bytes4 storage ++ bytes4 area

-- fields: kind, row, reservoir, efficiency, pattern, number of points
abbrev right_bytes : ℕ → ℕ → List ℕ → ℕ → ℕ → List ℕ → List ℕ
right_bytes permit date fields limit amount pairs =
    bytes4 permit ++ bytes4 date ++ fields ++ bytes2 4095 ++ bytes4 limit
    ++ bytes4 amount ++ bytes4 amount ++ bytes4 amount ++ bytes4 amount ++ bytes4 amount ++ bytes4 amount
    ++ bytes4 amount ++ bytes4 amount ++ bytes4 amount ++ bytes4 amount ++ bytes4 amount ++ bytes4 amount
    ++ pairs

abbrev no_pairs : List ℕ
no_pairs = replicate 8 0

unfoldable pub october_file : List ℕ
october_file =
    bytes4 32 ++ bytes4 3 ++ bytes4 56 ++ bytes4 1 ++ bytes4 124 ++ bytes4 1 ++ bytes4 136 ++ bytes4 5
    ++ station_bytes 100 2 ++ station_bytes 200 1 ++ station_bytes 300 1
    ++ (0 ∷ 0 ∷ 0 ∷ 0 ∷ []) ++ bytes4 5000 ++ bytes4 1000
    ++ pair_bytes 0 10 ++ pair_bytes 2000 20 ++ pair_bytes 4000 30 ++ pair_bytes 6000 40 ++ bytes2 5 ++ replicate 22 0
    ++ (50 ∷ 30 ∷ 20 ∷ []) ++ replicate 9 0
    ++ right_bytes 11 18900501 (1 ∷ 2 ∷ 255 ∷ 100 ∷ 255 ∷ 0 ∷ []) 0 1500 no_pairs
    ++ right_bytes 12 19000401 (1 ∷ 1 ∷ 255 ∷ 33 ∷ 0 ∷ 1 ∷ []) 0 1201 (2 ∷ 100 ∷ replicate 6 0)
    ++ right_bytes 13 19100101 (4 ∷ 0 ∷ 0 ∷ 0 ∷ 255 ∷ 0 ∷ []) 3000 900 no_pairs
    ++ right_bytes 14 19500101 (2 ∷ 1 ∷ 0 ∷ 100 ∷ 255 ∷ 0 ∷ []) 0 600 no_pairs
    ++ right_bytes 15 99999999 (1 ∷ 0 ∷ 255 ∷ 100 ∷ 255 ∷ 0 ∷ []) 0 50 no_pairs

-- up to its first right, with the number of rights in the table of contents
unfoldable pub elder_alone_file : List ℕ
elder_alone_file = set (take 212 october_file) 28 1

pub record OctoberChecked : Type 0 where
  pub accepted : check_of october_file ≡ Ok tt
  -- it describes the basin of the rules' October
  pub decoded : basin_of october_file ≡ october
  -- so does the one with its first right alone
  pub alone_accepted : check_of elder_alone_file ≡ Ok tt
  pub alone_decoded : basin_of elder_alone_file ≡ elder_alone
  -- the last byte missing
  pub cut_short : check_of (take 515 october_file) ≡ Err Layout
  -- reservoirs said to start one byte later
  pub gap : check_of (set october_file 8 57) ≡ Err Layout
  -- station 100 of order 3: it finds no row below, though there is a next row
  pub lost_row : check_of (set october_file 36 3) ≡ Err (Station 0)
  -- the last station of order 2: the row above it finds none, and comes first
  pub last_order : check_of (set october_file 52 2) ≡ Err (Station 1)
  -- a zero byte of the reservoir set
  pub zero_byte : check_of (set october_file 57 1) ≡ Err (Reservoir 0)
  -- percents that sum to 80, and to 0
  pub seeping : check_of (set october_file 126 0) ≡ Ok tt
  pub all_deep : check_of (set (set (set october_file 124 0) 125 0) 126 0) ≡ Ok tt
  -- percents that sum to 101
  pub one_over : check_of (set october_file 127 1) ≡ Err (Pattern 0)
  -- percents that sum to 356, which is 100 in eight bits
  pub over_full : check_of (set (set october_file 127 255) 128 1) ≡ Err (Pattern 0)
  -- a right without points at efficiency 99
  pub unpointed : check_of (set october_file 147 99) ≡ Err (Right 0)
  -- a storage right at another row than its reservoir
  pub misplaced : check_of (set october_file 297 1) ≡ Err (Right 2)
  -- a storage right in all but its byte, which is 5
  pub kind_unknown : check_of (set october_file 296 5) ≡ Err (Right 2)
