-- The river before the first right, in the arrays' words (01, steps 1 and 2).
use Rattle.std.specs.Prelude.{Bool, true, cond, ◌≢◌, List, ◌≡◌, ℕ, suc, ◌+◌, ◌*◌, ◌≤◌, ◌<◌, ltb, eqb, length, get_or}
use Rattle.general.specs.Sums.{sum_to, only}
use Rattle.general.specs.Tests.{has}
use Rattle.places.specs.Board.{marks_place, dues_from, dues_of, last_due, words_from, month_at, storage_at, marks_at, taken_at, due_at, word_at, Parts, board_by}
use Rattle.records.specs.Table.{path_by}

-- the most that enters at one row: runoff within its limit, and what eleven months can have sent
abbrev pub most_inflow : ℕ
most_inflow = 3_000_000_000_000

-- what enters at row j: runoff, and the returns that arrive
abbrev pub inflow : List ℕ → List ℕ → ℕ → ℕ
inflow runoff bd j = get_or runoff j 0 + due_at bd j 1

-- what the first k rows send to row i
unfoldable pub sent_to : List ℕ → List ℕ → List ℕ → ℕ → ℕ → ℕ
sent_to t runoff bd k i = sum_to k (λ j. only (has i (path_by t j)) (inflow runoff bd j))

pub record CanGather (t runoff bd f a : List ℕ) : Type 0 where
  pub sheet : length runoff ≤ 64
  pub small : (j : ℕ) → inflow runoff bd j ≤ most_inflow
  pub within : (j i : ℕ) → j < length runoff → has i (path_by t j) ≡ true → i < length runoff
  pub empty : (i : ℕ) → get_or f i 0 ≡ 0
  pub empty₂ : (i : ℕ) → get_or a i 0 ≡ 0

-- one row's step: all flows are small, so that no sum wraps
pub record CanSend (row d : ℕ) (f a : List ℕ) : Type 0 where
  pub on : row < 64
  pub small : (i : ℕ) → i < 64 → get_or f i 0 ≤ 64 * most_inflow
  pub more : d ≤ most_inflow

-- the row has d more, in available flow too, and the row below, where there is one, has as much more as the row has
pub record Sent (t : List ℕ) (row d : ℕ) (f a f' a' : List ℕ) : Type 0 where
  pub here : get_or f' row 0 ≡ get_or f row 0 + d
  pub here₂ : get_or a' row 0 ≡ get_or f row 0 + d
  pub other : (i : ℕ) → i < 64 → i ≢ row → get_or f' i 0 ≡ get_or f i 0 + only (eqb (get_or t row 0) i) (get_or f row 0 + d)
  pub other₂ : (i : ℕ) → i ≢ row → get_or a' i 0 ≡ get_or a i 0

-- flow and available flow at each row are what the first k rows send there
pub record Gathered (t runoff bd : List ℕ) (k : ℕ) (f a : List ℕ) : Type 0 where
  pub flow : (i : ℕ) → i < 64 → get_or f i 0 ≡ sent_to t runoff bd k i
  pub available : (i : ℕ) → i < 64 → get_or a i 0 ≡ sent_to t runoff bd k i

-- ---- the board as a month opens

-- Marks, water taken and short words become 0 in October; the dues come one month nearer, and the last of each row is 0.
unfoldable pub opened_parts : List ℕ → Bool → Parts
opened_parts bd october = record {
  month = month_at bd;
  storage = storage_at bd;
  marks = cond october 0 (marks_at bd);
  taken = λ i. cond october 0 (taken_at bd i);
  due = λ w k. cond (eqb k 11) 0 (due_at bd w (suc k));
  word = λ i. cond october 0 (word_at bd i);
}

unfoldable pub opened_board : List ℕ → Bool → List ℕ
opened_board bd october = board_by (opened_parts bd october)

-- a board of n rows: nothing is due where it has no row
pub record CanOpen (n : ℕ) (bd : List ℕ) : Type 0 where
  pub few : n ≤ 64
  pub empty : (p : ℕ) → dues_of n ≤ p → p < words_from → get_or bd p 0 ≡ 0

-- ---- its three steps, place by place, of which two are made for n rows

-- what stands from one place up to another becomes 0
unfoldable pub zeroed_at : List ℕ → ℕ → ℕ → ℕ → ℕ
zeroed_at bd from to p = cond (ltb p from) (get_or bd p 0) (cond (ltb p to) 0 (get_or bd p 0))

-- marks and water taken become 0 in October, and so do the short words
unfoldable pub cleared_at : List ℕ → Bool → ℕ → ℕ
cleared_at bd october p =
    cond (ltb p marks_place) (get_or bd p 0)
    (cond (ltb p dues_from) (cond october 0 (get_or bd p 0))
    (cond (ltb p words_from) (get_or bd p 0) (cond october 0 (get_or bd p 0))))

-- each due of theirs but the very last becomes the next one on the board
unfoldable pub moved_at : List ℕ → ℕ → ℕ → ℕ
moved_at bd n p = cond (ltb p dues_from) (get_or bd p 0) (cond (ltb (p + 1) (dues_of n)) (get_or bd (p + 1) 0) (get_or bd p 0))

-- the last due of each becomes 0
unfoldable pub ended_at : List ℕ → ℕ → ℕ → ℕ
ended_at bd n p = cond (ltb p dues_from) (get_or bd p 0) (cond (ltb p (dues_of n)) (cond (last_due p) 0 (get_or bd p 0)) (get_or bd p 0))
