-- The places of a board (01, "The board and one month"): where each number stands. Everything else names a number of a board by these words.
use Rattle.std.specs.Prelude.{Bool, cond, List, ◌≡◌, ℕ, zero, suc, ◌+◌, ◌-◌, ◌*◌, ◌/◌, ◌%◌, ◌≤◌, ltb, eqb, length, get_or}
use Rattle.general.specs.Tables.{tab}

-- ---- places

-- the month of the year that comes next
abbrev pub month_place : ℕ
month_place = 0

-- the storage of reservoir v, of up to eight
abbrev pub storage_place : ℕ → ℕ
storage_place v = 1 + v

-- a word of one-fill marks, with reservoir v's as bit v
abbrev pub marks_place : ℕ
marks_place = 9

-- what right i, of up to 256, has stored since October
abbrev pub taken_place : ℕ → ℕ
taken_place i = 10 + i

-- the returns on their way: eleven for each of up to 64 rows
abbrev pub dues_from : ℕ
dues_from = 266

abbrev pub dues_of : ℕ → ℕ
dues_of w = dues_from + 11 * w

-- of row w the one that arrives k months after the coming month
abbrev pub due_place : ℕ → ℕ → ℕ
due_place w k = dues_of w + k

-- whether the due at a place is the last of its row
abbrev pub last_due : ℕ → Bool
last_due p = eqb ((p - dues_from) % 11) 10

-- the short words: of right i, of up to 256, bit m is set if it was short in month m of this water year (02, No. 6)
abbrev pub words_from : ℕ
words_from = 970

abbrev pub word_place : ℕ → ℕ
word_place i = words_from + i

abbrev pub board_length : ℕ
board_length = 1226

-- ---- read off a board

abbrev pub month_at : List ℕ → ℕ
month_at l = get_or l month_place 0

abbrev pub storage_at : List ℕ → ℕ → ℕ
storage_at l v = get_or l (storage_place v) 0

abbrev pub marks_at : List ℕ → ℕ
marks_at l = get_or l marks_place 0

abbrev pub taken_at : List ℕ → ℕ → ℕ
taken_at l i = get_or l (taken_place i) 0

-- 01 counts the months until a return arrives from 1; nothing on the board arrives sooner
abbrev pub due_at : List ℕ → ℕ → ℕ → ℕ
due_at l w zero = 0
due_at l w (suc k) = get_or l (due_place w k) 0

abbrev pub word_at : List ℕ → ℕ → ℕ
word_at l i = get_or l (word_place i) 0

-- ---- a board with room for more in every number, so that no sum wraps

abbrev pub roomy : ℕ
roomy = 4611686018427387904

pub record Roomy (l : List ℕ) (most : ℕ) : Type 0 where
  pub room : (j : ℕ) → get_or l j 0 ≤ most

-- ---- a board made of its parts

-- storages by reservoir, water taken and short words by right, dues by row and by the months until they arrive, counted from 1
pub record Parts : Type 0 where
  pub month : ℕ
  pub storage : ℕ → ℕ
  pub marks : ℕ
  pub taken : ℕ → ℕ
  pub due : ℕ → ℕ → ℕ
  pub word : ℕ → ℕ

-- the number at place p
unfoldable pub part_at : Parts → ℕ → ℕ
part_at x p =
    cond (eqb p month_place) x.month
    (cond (ltb p marks_place) (x.storage (p - storage_place 0))
    (cond (eqb p marks_place) x.marks
    (cond (ltb p dues_from) (x.taken (p - taken_place 0))
    (cond (ltb p words_from) (x.due ((p - dues_from) / 11) (suc ((p - dues_from) % 11)))
    (x.word (p - word_place 0))))))

unfoldable pub board_by : Parts → List ℕ
board_by x = tab board_length (part_at x)
