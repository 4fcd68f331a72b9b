-- A board of a basin: what it tells, when it is possible, and its sums (01, "The board and one month"; 02, No. 6). Where each number stands is said in `places`.
use Rattle.std.specs.Prelude.{Bool, true, false, Ok, Err, List, [], ◌∷◌, ℕ, suc, ◌+◌, ◌*◌, ◌^◌, leb, ltb, eqb, length, get_or}
use Rattle.general.specs.Sums.{sum_to, only}
use Rattle.general.specs.Tables.{tab}
use Rattle.general.specs.Tests.{◌and◌, all_to, bit}
use Rattle.places.specs.Board.{board_length, month_at, storage_at, marks_at, taken_at, due_at, word_at, Parts, board_by}
use Rattle.rules.specs.declared.Refusal.TheVariants.{Lists, Board}
use Rattle.rules.specs.Answers.{Verdict}
use Rattle.rules.specs.Basin.{Basin, rows, reservoir_at, right_at}
use Rattle.rules.specs.Month.{Carried}
use Rattle.rules.specs.Theorems.{most_due}

-- ---- read

unfoldable pub carried_of : Basin → List ℕ → Carried
carried_of b l = record {
  m = month_at l;
  storages = tab (length b.reservoirs) (storage_at l);
  marks = tab (length b.reservoirs) (bit (marks_at l));
  taken = tab (length b.rights) (taken_at l);
  shorts = tab (length b.rights) (λ i. tab 12 (bit (word_at l i)));
}

-- ---- written

-- a word whose bit v is mark v
unfoldable pub word_of : List Bool → ℕ
word_of [] = 0
word_of (t ∷ ts) = only t 1 + 2 * word_of ts

-- what is carried, and what is due at a row at k; where the basin has nothing to tell it is 0
unfoldable pub board_parts : Basin → Carried → (ℕ → ℕ → ℕ) → Parts
board_parts b c due = record {
  month = c.m;
  storage = λ v. get_or c.storages v 0;
  marks = word_of c.marks;
  taken = λ i. get_or c.taken i 0;
  due = λ w k. only (ltb w (rows b)) (due w k);
  word = λ i. word_of (get_or c.shorts i []);
}

unfoldable pub board_of : Basin → Carried → (ℕ → ℕ → ℕ) → List ℕ
board_of b c due = board_by (board_parts b c due)

-- whether a list is as long as a board
abbrev pub board_fits : List ℕ → Bool
board_fits board = eqb (length board) board_length

-- ---- when a board is possible

unfoldable pub possible : Basin → List ℕ → Bool
possible b l =
    ltb (month_at l) 12
    and all_to 8 (λ v. leb (storage_at l v) (reservoir_at b v).capacity)
    and ltb (marks_at l) (2 ^ length b.reservoirs)
    and all_to 256 (λ i. leb (taken_at l i) (right_at b i).limit)
    and all_to 64 (λ w. all_to 11 (λ k. leb (due_at l w (suc k)) (only (ltb w (rows b)) (most_due (suc k)))))
    and all_to 256 (λ i. ltb (word_at l i) (2 ^ only (ltb i (length b.rights)) 12))

-- what is turned down beside an accepted file: lists that do not fit, then a board that is not possible
abbrev pub judged : Bool → Bool → Verdict
judged false can = Err Lists
judged true false = Err Board
judged true true = Ok tt

-- ---- its sums

unfoldable pub storage_sum : Basin → List ℕ → ℕ
storage_sum b l = sum_to (length b.reservoirs) (storage_at l)

unfoldable pub due_sum : Basin → List ℕ → ℕ
due_sum b l = sum_to (rows b) (λ w. sum_to 11 (λ k. due_at l w (suc k)))
