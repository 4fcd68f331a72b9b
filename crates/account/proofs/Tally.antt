-- The board that the tally keeps: it is possible, runs the tally's month, and becomes the tally's next board; and a possible board is that of the tally
-- that begins from it. Assumes nothing.
use mathlib.Core.Path.{◌≡◌, refl, sym, ap, ◌∙◌}
use mathlib.Core.Bool.{Bool, true}
use mathlib.Core.List.{List, [], ◌∷◌, ◌++◌}
use Prim.Native.Nat.{ℕ, zero, suc, ◌≤◌, ◌<◌}
use native.Mathlib.Omega.{arith}
use native.Mathlib.Decide.{dec_lt}
use lib.Dec.{ltb}
use lib.ListN.{length, get_or, get_or-eq_default}
use Rattle.general.specs.Sums.{only}
use Rattle.general.specs.Tables.{tab}
use Rattle.general.proofs.Tests.{ltb_yes, ltb_no, only-le, only_yes, only_none}
use Rattle.general.proofs.Tables.{tab-length, tab-at, tab-past, tab-same}
use Rattle.rules.specs.Basin.{Basin, rows, reservoir_at, right_at}
use Rattle.general.specs.Tests.{bit}
use Rattle.rules.specs.Month.{Carried, MonthRun, month}
use Rattle.rules.specs.Tally.{Call, Tally, fresh_carried, fresh_start, begun, pending, arriving, next_run, accept, standing}
use Rattle.rules.specs.Accepted.{Accepted}
use Rattle.rules.specs.Theorems.{most_due, Possible}
use Rattle.rules.proofs.Possible.{capped-of, noted_of, fresh-possible}
use Rattle.rules.proofs.Pending.{pending-on, pending-ends, pending-begins}
use Rattle.places.specs.Board.{dues_from, due_place, board_length, month_at, storage_at, marks_at, taken_at, due_at, word_at}
use Rattle.places.proofs.BoardPlaces.{by-places}
use Rattle.boards.specs.Board.{carried_of, word_of, board_of, possible}
use Rattle.fresh.specs.Fresh.{fresh_board}
use Rattle.month.specs.Month.{run_of, due_after, board_after}
use Rattle.account.specs.Claim.{start_of, tally_board}
use Rattle.boards.proofs.Bounds as held
use Rattle.boards.proofs.Board.{word-bits, word_none, Counted, board-length, due-place, due-of-row, word-place, read_back, board-same, board-told}
use Rattle.fresh.proofs.Start.{no_word}

written : (b : Basin) (t : Tally) → board_of b t.carried (pending b t.start t.months) ≡ tally_board b t
unfolding tally_board
written b t = refl

module _ (b : Basin) (acc : Accepted b) (t : Tally) (p : Possible b (standing b t)) where
  abbrev owed : ℕ → ℕ → ℕ
  owed = pending b t.start t.months

  counted : Counted b t.carried
  unfolding standing
  counted = record { storages = p.storages_count; marks = p.marks_count; taken = p.taken_count; shorts = noted_of b (standing b t) p }

  -- ---- possible

  pub tally-possible : possible b (tally_board b t) ≡ true
  unfolding tally_board standing
  tally-possible = held.board_possible b t.carried owed p.month_in_year (capped-of b (standing b t) p) (noted_of b (standing b t) p) (λ w k h l. p.due_most w (suc k) (omega arith) (omega arith))

  -- ---- the month at which it stands

  pub tally-month : month_at (tally_board b t) ≡ t.carried.m
  unfolding tally_board carried_of
  tally-month = ap (λ (c : Carried). c.m) (read_back b acc t.carried owed counted)

  -- ---- the month that it runs

  pub tally-run : (runoff : List ℕ) (n : ℕ) → run_of b runoff (tally_board b t) ≡ next_run b t (record { runoff = runoff; report = n })
  unfolding run_of next_run tally_board arriving
  tally-run runoff n = λ z. month b (read_back b acc t.carried owed counted z) runoff
      (tab-same (rows b) (λ w. due_at (board_of b t.carried owed) w 1) (λ w. owed w 1)
      (λ w h. due-of-row b t.carried owed w 0 h acc.few_rows (omega arith)) z)

  -- ---- the board that it leaves

  due-on : (h : MonthRun) (w k : ℕ) → w < rows b → k < 11 → due_after b h (tally_board b t) w (suc k) ≡ pending b t.start (t.months ++ (h ∷ [])) w (suc k)
  unfolding due_after tally_board
  due-on h w k l m = omega (arith, pending-on b t.start h w t.months (suc k) (omega arith), moved (dec_lt (suc k) 11))
    where
      board : List ℕ
      board = board_of b t.carried owed

      moved : Dec (suc k < 11) → only (ltb (suc k) 11) (due_at board w (suc (suc k))) ≡ owed w (suc (suc k))
      moved (yes q) = rw (ltb_yes (suc k) 11 q) (due-of-row b t.carried owed w (suc k) l acc.few_rows q)
      moved (no q) = rw (ltb_no (suc k) 11 (omega arith)) (sym (pending-ends b t.start t.months w (suc (suc k)) (omega arith)))

  pub tally-next : (c : Call) → board_after b c.runoff (tally_board b t) ≡ tally_board b (accept b t c)
  unfolding board_after accept
  tally-next c =
      let h : MonthRun = next_run b t c in
      ap (λ (x : MonthRun). board_of b x.carried (due_after b x (tally_board b t))) (tally-run c.runoff c.report)
      ∙ board-same b h.carried (due_after b h (tally_board b t)) (pending b t.start (t.months ++ (h ∷ []))) (λ w k l m. due-on h w k l m)
      ∙ written b (record { start = t.start; carried = h.carried; months = t.months ++ (h ∷ []) })

-- ---- a board that is possible is the board of the tally that begins from it

-- read past its end a table that keeps within bounds keeps within them
tab-within : (n : ℕ) (f most : ℕ → ℕ) → ((i : ℕ) → i < n → f i ≤ most i) → (i : ℕ) → get_or (tab n f) i 0 ≤ most i
tab-within n f most h i = pick (dec_lt i n)
  where
    pick : Dec (i < n) → get_or (tab n f) i 0 ≤ most i
    pick (yes l) = omega (arith, tab-at f n i 0 l, h i l)
    pick (no l) = omega (arith, tab-past f n i 0 (omega arith))

module _ (b : Basin) (acc : Accepted b) (l : List ℕ) (size : length l ≡ board_length) (can : possible b l ≡ true) where
  due-within : (w k : ℕ) → k < 11 → only (ltb w (rows b)) (due_at l w (suc k)) ≤ most_due (suc k)
  due-within w k h = pick (dec_lt w (rows b))
    where
      pick : Dec (w < rows b) → only (ltb w (rows b)) (due_at l w (suc k)) ≤ most_due (suc k)
      pick (yes m) = omega (arith, held.due_most b l can w k (omega (arith, m, acc.few_rows)) h, only-le (ltb w (rows b)) (most_due (suc k)), only-le (ltb w (rows b)) (due_at l w (suc k)))
      pick (no m) = omega (arith, ap (λ (t : Bool). only t (due_at l w (suc k))) (ltb_no w (rows b) (omega (arith, m))))

  pub start-possible : Possible b (start_of b l)
  unfolding start_of carried_of
  start-possible = record {
    month_in_year = held.month-most b l can;
    storages_count = tab-length (storage_at l) (length b.reservoirs);
    storages_most = tab-within (length b.reservoirs) (storage_at l) (λ v. (reservoir_at b v).capacity) (λ v h. held.storage-most b l can v (omega (arith, acc.few_reservoirs)));
    marks_count = tab-length (bit (marks_at l)) (length b.reservoirs);
    taken_count = tab-length (taken_at l) (length b.rights);
    taken-most = tab-within (length b.rights) (taken_at l) (λ i. (right_at b i).limit) (λ i h. held.taken-most b l can i (omega (arith, acc.few_rights)));
    due_most = due;
    shorts_count = tab-length _ (length b.rights);
    shorts_months = λ i h. ap length (tab-at _ (length b.rights) i [] h) ∙ tab-length _ 12;
  }
    where
      due : (w k : ℕ) → 1 ≤ k → k < 12 → only (ltb w (rows b)) (due_at l w k) ≤ most_due k
      due w zero h m = absurd (omega arith)
      due w (suc k) h m = due-within w k (omega arith)

  -- read and written again, it is the same
  entry : (n m : ℕ) (f : ℕ → ℕ) → ((i : ℕ) → i < m → n ≤ i → f i ≡ 0) → (i : ℕ) → i < m → f i ≡ get_or (tab n f) i 0
  entry n m f none i h = pick (dec_lt i n)
    where
      pick : Dec (i < n) → f i ≡ get_or (tab n f) i 0
      pick (yes k) = sym (tab-at f n i 0 k)
      pick (no k) = none i h (omega arith) ∙ sym (tab-past f n i 0 (omega arith))

  due-entry : (w k : ℕ) → w < 64 → k < 11 → due_at l w (suc k) ≡ only (ltb w (rows b)) (due_at l w (suc k))
  due-entry w k h m = pick (dec_lt w (rows b))
    where
      pick : Dec (w < rows b) → due_at l w (suc k) ≡ only (ltb w (rows b)) (due_at l w (suc k))
      pick (yes o) = rw (ltb_yes w (rows b) o)
      pick (no o) = rw (ltb_no w (rows b) (omega arith)) (held.no_due b l can w k h m (omega arith))

  word-entry : (i : ℕ) → i < 256 → word_at l i ≡ word_of (get_or (tab (length b.rights) (λ j. tab 12 (bit (word_at l j)))) i [])
  word-entry i h = pick (dec_lt i (length b.rights))
    where
      year : ℕ → List Bool
      year j = tab 12 (bit (word_at l j))

      pick : Dec (i < length b.rights) → word_at l i ≡ word_of (get_or (tab (length b.rights) year) i [])
      pick (yes k) = sym (ap word_of (tab-at year (length b.rights) i [] k) ∙ word-bits 12 (word_at l i) (held.word_small b l can i h))
      pick (no k) = held.no_word b l can i h (omega arith) ∙ sym (ap word_of (tab-past year (length b.rights) i [] (omega arith)) ∙ word_none)

  written_back : l ≡ board_of b (carried_of b l) (due_at l)
  unfolding carried_of
  written_back = board-told b (carried_of b l) (due_at l) l (record {
    size = size;
    month = refl;
    storages = entry (length b.reservoirs) 8 (storage_at l) (λ v h o. held.no-storage b l can v h o);
    marks = sym (word-bits (length b.reservoirs) (marks_at l) (held.marks-most b l can));
    taken = entry (length b.rights) 256 (taken_at l) (λ i h o. held.no-taken b l can i h o);
    dues = due-entry;
    words = word-entry;
  })

  pub tally-begins : l ≡ tally_board b (begun (start_of b l))
  unfolding tally_board begun start_of
  tally-begins = written_back ∙ board-same b (carried_of b l) (due_at l) (pending b (start_of b l) []) (λ w k h m. sym (pending-begins b (start_of b l) w (suc k) (omega arith) ∙ only_yes (ltb w (rows b)) (due_at l w (suc k)) (ltb_yes w (rows b) h)))

-- ---- the fresh board

module _ (b : Basin) (acc : Accepted b) where
  abbrev made : List ℕ
  made = board_of b (fresh_carried b) (λ u j. 0)

  -- from the dues on it holds nothing
  none_from : (p : ℕ) → p < board_length → dues_from ≤ p → get_or made p 0 ≡ 0
  unfolding fresh_carried
  none_from = by-places (λ p. dues_from ≤ p → get_or made p 0 ≡ 0)
      (λ o. absurd (omega (arith, o)))
      (λ v m o. absurd (omega (arith, m, o)))
      (λ o. absurd (omega (arith, o)))
      (λ i m o. absurd (omega (arith, m, o)))
      (λ w k m n o. due-place b (fresh_carried b) (λ u j. 0) w k m n ∙ only_none (ltb w (rows b)))
      (λ i m o. word-place b (fresh_carried b) (λ u j. 0) i m ∙ no_word (length b.rights) i)

  fresh-due : (w k : ℕ) → due_at (fresh_board b) w k ≡ 0
  unfolding fresh_board
  fresh-due w zero = refl
  fresh-due w (suc k) = pick (dec_lt (due_place w k) board_length)
    where
      pick : Dec (due_place w k < board_length) → due_at made w (suc k) ≡ 0
      pick (yes l) = none_from (due_place w k) l (omega arith)
      pick (no l) = get_or-eq_default made 0 {n = due_place w k} (omega (arith, l, board-length b (fresh_carried b) (λ u j. 0)))

  fresh-counted : Counted b (fresh_carried b)
  unfolding fresh_start
  fresh-counted = let p : Possible b (fresh_start b) = fresh-possible b acc in record { storages = p.storages_count; marks = p.marks_count; taken = p.taken_count; shorts = noted_of b (fresh_start b) p }

  fresh-carried : carried_of b (fresh_board b) ≡ fresh_carried b
  unfolding fresh_board
  fresh-carried = read_back b acc (fresh_carried b) (λ w k. 0) fresh-counted

  none-due : (w k : ℕ) → only (ltb w (rows b)) (due_at (fresh_board b) w k) ≡ 0
  none-due w k = ap (only (ltb w (rows b))) (fresh-due w k) ∙ only_none (ltb w (rows b))

  pub fresh-starts : start_of b (fresh_board b) ≡ fresh_start b
  unfolding start_of fresh_start
  fresh-starts = λ z. record { carried = fresh-carried z; due = λ w k. none-due w k z }
