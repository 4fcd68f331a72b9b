-- The names of a store looked up, and numbers as bytes: small cases computed. Of a store only its names are written out.
use Rattle.std.specs.Prelude.{◌≡◌, false, List, [], ◌∷◌, ◌++◌, ℕ, replicate, None, Some}
use Rattle.numbers.specs.Bytes.{le64_at, bytes64}
use Rattle.entries.specs.Entries.{name_start, board_start, store_length, name_at, bytes_of, no_name, same_name, first_named, first_empty, place_for}

-- a name of seven bytes that are x, and a last one
abbrev pub named : ℕ → ℕ → List ℕ
named x last = replicate 7 x ++ (last ∷ [])

-- one name, an empty entry, another name, and the first again
abbrev pub names : List ℕ
names = named 65 1 ++ no_name ++ named 65 2 ++ named 65 1

-- four names
abbrev pub full : List ℕ
full = named 65 1 ++ named 0 1 ++ named 65 2 ++ named 65 1

pub record EntriesChecked : Type 0 where
  -- 02's length, and where the second entry and the last one stand
  pub long : store_length ≡ 39264
  pub second_name : name_start 1 ≡ 8
  pub second_board : board_start 1 ≡ 9840
  pub last_board : board_start 3 ≡ 29456
  -- a name is all of its eight bytes
  pub third : name_at names 2 ≡ named 65 2
  pub last_byte : same_name (named 65 1) (named 65 2) ≡ false
  pub zeros_within : same_name (named 0 1) no_name ≡ false
  -- of two that are the same the earlier is meant
  pub earlier : first_named names (named 65 1) ≡ Some 0
  pub later : first_named names (named 65 2) ≡ Some 2
  pub unknown : first_named names (named 66 1) ≡ None
  pub empty : first_empty names ≡ Some 1
  pub none_empty : first_empty full ≡ None
  -- a save: the name's own entry, also where an earlier one is empty; a new name the empty one, where there is one
  pub own : place_for names (named 65 2) ≡ Some 2
  pub new : place_for names (named 66 1) ≡ Some 1
  pub no_place : place_for full (named 66 1) ≡ None
  -- numbers: the least significant byte first, up to the largest of 64 bits
  pub bytes : bytes_of (258 ∷ 18446744073709551615 ∷ []) ≡ (2 ∷ 1 ∷ 0 ∷ 0 ∷ 0 ∷ 0 ∷ 0 ∷ 0 ∷ []) ++ replicate 8 255
  pub largest : le64_at (bytes64 18446744073709551615) 0 ≡ 18446744073709551615
