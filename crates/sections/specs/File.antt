-- How a basin file is laid out (01, "The basin file"): a table that says where each of four sections starts and how many records it has, then the records.
-- A section goes by its place in the table: stations 0, reservoirs 1, patterns 2, rights 3. All numbers are natural numbers, so no sum or product wraps.
use Rattle.std.specs.Prelude.{Bool, cond, List, [], ℕ, ◌+◌, ◌*◌, leb, eqb, length, take, drop}
use Rattle.general.specs.Tests.{◌and◌, between}
use Rattle.numbers.specs.Bytes.{le32_at}

-- the bytes of one record
unfoldable pub width_of : ℕ → ℕ
width_of w = cond (eqb w 0) 8 (cond (eqb w 1) 68 (cond (eqb w 2) 12 76))

-- what the table of contents says of a section: where it starts, and its number of records
unfoldable pub offset_of : List ℕ → ℕ → ℕ
offset_of f w = le32_at f (8 * w)

unfoldable pub count_of : List ℕ → ℕ → ℕ
count_of f w = le32_at f (8 * w + 4)

-- the bytes of all its records, and where they end
abbrev pub size_of : List ℕ → ℕ → ℕ
size_of f w = count_of f w * width_of w

abbrev pub end_of : List ℕ → ℕ → ℕ
end_of f w = offset_of f w + size_of f w

-- A basin has a station at least; any other section may be empty.
unfoldable pub counts_ok : List ℕ → Bool
counts_ok f =
    between 1 (count_of f 0) 64
    and leb (count_of f 1) 8
    and leb (count_of f 2) 16
    and leb (count_of f 3) 256

-- The first section starts right after the table, each other one, empty ones too, where the one before ends; after the last comes nothing.
unfoldable pub packed : List ℕ → Bool
packed f =
    eqb (offset_of f 0) 32
    and eqb (offset_of f 1) (end_of f 0)
    and eqb (offset_of f 2) (end_of f 1)
    and eqb (offset_of f 3) (end_of f 2)
    and eqb (length f) (end_of f 3)

-- the table is there, and the file is as it says
unfoldable pub layout_ok : List ℕ → Bool
layout_ok f =
    leb 32 (length f)
    and counts_ok f
    and packed f

-- the part of the file that holds the records of a section; nothing where the table points past the end
unfoldable pub section_of : List ℕ → ℕ → List ℕ
section_of f w = cond (leb 32 (length f) and leb (end_of f w) (length f)) (take (size_of f w) (drop (offset_of f w) f)) []
