-- The board that a month leaves is possible again. Assumes nothing.
use mathlib.Core.Bool.{Bool, true}
use mathlib.Core.List.{List, []}
use mathlib.Core.Path.{◌≡◌, ap, ◌∙◌}
use Prim.Native.Nat.{ℕ, suc, ◌+◌, ◌≤◌, ◌<◌}
use native.Mathlib.Decide.{dec_lt}
use native.Mathlib.Omega.{arith}
use lib.Dec.{ltb}
use lib.ListN.{length, get_or}
use Rattle.general.specs.Sums.{only}
use Rattle.general.specs.Tables.{tab}
use Rattle.general.proofs.Tables.{tab-length, tab-at, tab-past}
use Rattle.general.proofs.Tests.{ltb_no, only-le}
use Rattle.rules.specs.Basin.{Basin, rows, reservoir_at, right_at}
use Rattle.rules.specs.Accepted.{Accepted}
use Rattle.rules.specs.Theorems.{most_due}
use Rattle.general.specs.Tests.{bit}
use Rattle.rules.proofs.Bounds.{CarriedCapped, month-capped, month_in_year, month-returns-le}
use Rattle.rules.proofs.Noting.{Noted, month-noted}
use Rattle.places.specs.Board.{storage_at, marks_at, taken_at, due_at}
use Rattle.boards.specs.Board.{carried_of, possible}
use Rattle.month.specs.Month.{run_of, due_after, board_after}
use Rattle.boards.proofs.Bounds.{month-most, storage-most, taken-most, due_most, board_possible}

-- ---- what a possible board carries is within bounds

module _ (b : Basin) (acc : Accepted b) (bd : List ℕ) (can : possible b bd ≡ true) where
  carried-capped : CarriedCapped b (carried_of b bd)
  unfolding carried_of
  carried-capped = record {
    storages_most = λ v. stored v (dec_lt v (length b.reservoirs));
    taken-most = λ i. taken i (dec_lt i (length b.rights));
    taken_count = tab-length (taken_at bd) (length b.rights);
    marks_count = tab-length (bit (marks_at bd)) (length b.reservoirs);
  }
    where
      stored : (v : ℕ) → Dec (v < length b.reservoirs) → get_or (tab (length b.reservoirs) (storage_at bd)) v 0 ≤ (reservoir_at b v).capacity
      stored v (yes h) = omega (arith, tab-at (storage_at bd) (length b.reservoirs) v 0 h, storage-most b bd can v (omega (arith, h, acc.few_reservoirs)))
      stored v (no h) = omega (arith, tab-past (storage_at bd) (length b.reservoirs) v 0 (omega (arith, h)))

      taken : (i : ℕ) → Dec (i < length b.rights) → get_or (tab (length b.rights) (taken_at bd)) i 0 ≤ (right_at b i).limit
      taken i (yes h) = omega (arith, tab-at (taken_at bd) (length b.rights) i 0 h, taken-most b bd can i (omega (arith, h, acc.few_rights)))
      taken i (no h) = omega (arith, tab-past (taken_at bd) (length b.rights) i 0 (omega (arith, h)))

  carried-noted : Noted b (carried_of b bd).shorts
  unfolding carried_of
  carried-noted = record {
    count = tab-length _ (length b.rights);
    months = λ i h. ap length (tab-at _ (length b.rights) i [] h) ∙ tab-length _ 12;
  }

  moved-most : (w k : ℕ) → w < rows b → k < 11 → only (ltb (suc k) 11) (due_at bd w (suc (suc k))) + 256_000_000_000 ≤ most_due (suc k)
  moved-most w k h o = pick (dec_lt k 10)
    where
      pick : Dec (k < 10) → only (ltb (suc k) 11) (due_at bd w (suc (suc k))) + 256_000_000_000 ≤ most_due (suc k)
      pick (yes y) =
          let d = due_most b bd can w (suc k) (omega (arith, h, acc.few_rows)) (omega (arith, y)) in
          let e = only-le (ltb (suc k) 11) (due_at bd w (suc (suc k))) in
          let g = only-le (ltb w (rows b)) (most_due (suc (suc k))) in
          omega (arith, y, d, e, g)
      pick (no y) =
          let e : only (ltb (suc k) 11) (due_at bd w (suc (suc k))) ≡ 0 = ap (λ (t : Bool). only t (due_at bd w (suc (suc k)))) (ltb_no (suc k) 11 (omega (arith, y))) in
          omega (arith, o, e)

  dues-most : (runoff : List ℕ) (w k : ℕ) → w < rows b → k < 11 → due_after b (run_of b runoff bd) bd w (suc k) ≤ most_due (suc k)
  unfolding due_after run_of
  dues-most runoff w k h o = omega (arith, moved-most w k h o, month-returns-le b acc (carried_of b bd) runoff (tab (rows b) (λ u. due_at bd u 1)) w (suc k))

  pub after-possible : (runoff : List ℕ) → possible b (board_after b runoff bd) ≡ true
  unfolding board_after run_of carried_of
  after-possible runoff =
      let arriving : List ℕ = tab (rows b) (λ w. due_at bd w 1) in
      board_possible b _ (due_after b (run_of b runoff bd) bd) (month_in_year b (carried_of b bd) runoff arriving (month-most b bd can)) (month-capped b (carried_of b bd) runoff arriving carried-capped) (month-noted b (carried_of b bd) runoff arriving carried-noted) (dues-most runoff)
