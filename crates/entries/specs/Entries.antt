-- The entries of a store of named boards (02, No. 7): four names of eight bytes, then four boards in the same order, whose numbers have eight bytes each. Entries are
-- counted from 0.
use Rattle.std.specs.Prelude.{Bool, List, [], ◌∷◌, ◌++◌, ℕ, ◌+◌, ◌*◌, eqb, take, drop, replicate, Option, None, Some}
use Rattle.general.specs.Tables.{tab}
use Rattle.general.specs.Tests.{all_to, first_at}
use Rattle.numbers.specs.Bytes.{byte_at, le64_at, bytes64}
use Rattle.places.specs.Board.{board_length}

-- ---- its places

abbrev pub entry_count : ℕ
entry_count = 4

abbrev pub name_length : ℕ
name_length = 8

-- where the name of an entry begins
abbrev pub name_start : ℕ → ℕ
name_start e = name_length * e

-- the bytes of a board, and where the board of an entry begins
abbrev pub board_bytes : ℕ
board_bytes = 8 * board_length

abbrev pub board_start : ℕ → ℕ
board_start e = name_length * entry_count + board_bytes * e

-- 39,264 bytes
abbrev pub store_length : ℕ
store_length = board_start entry_count

-- ---- what an entry holds

unfoldable pub name_at : List ℕ → ℕ → List ℕ
name_at s e = take name_length (drop (name_start e) s)

unfoldable pub board_at : List ℕ → ℕ → List ℕ
board_at s e = tab board_length (λ k. le64_at s (board_start e + 8 * k))

-- the bytes of numbers, one after another: how a board stands in a store
unfoldable pub bytes_of : List ℕ → List ℕ
bytes_of [] = []
bytes_of (x ∷ l) = bytes64 x ++ bytes_of l

-- ---- names

-- two names are one where all their bytes are the same
unfoldable pub same_name : List ℕ → List ℕ → Bool
same_name a b = all_to name_length (λ j. eqb (byte_at a j) (byte_at b j))

-- eight zero bytes name no board: they mark an empty entry
abbrev pub no_name : List ℕ
no_name = replicate name_length 0

unfoldable pub is_named : List ℕ → List ℕ → ℕ → Bool
is_named s n e = same_name (name_at s e) n

-- the entry that a name means: where it stands twice, the earlier
unfoldable pub first_named : List ℕ → List ℕ → Option ℕ
first_named s n = first_at entry_count 0 (is_named s n)

abbrev pub first_empty : List ℕ → Option ℕ
first_empty s = first_named s no_name

unfoldable pub or_first : Option ℕ → Option ℕ → Option ℕ
or_first None later = later
or_first (Some e) later = Some e

-- the entry for a board to be saved: the one that has the name already, else the earliest empty one
unfoldable pub place_for : List ℕ → List ℕ → Option ℕ
place_for s n = or_first (first_named s n) (first_empty s)
