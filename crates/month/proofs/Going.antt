-- Month after month of an accepted file: what one leaves is what the next asks for. Assumes nothing.
use Rattle.std.specs.Prelude.{Option, None, Some, Ok}
use mathlib.Core.Path.{◌≡◌, sym, ap, ◌∙◌}
use mathlib.Core.Bool.{true}
use mathlib.Core.List.{List}
use Prim.Native.Nat.{ℕ, ◌*◌, ◌≤◌, ◌<◌}
use native.Mathlib.Nat.{mul-le-mul}
use native.Mathlib.Omega.{arith}
use lib.ListN.{length, get_or}
use Rattle.general.proofs.Lists.{all-at-place}
use Rattle.general.proofs.Tables.{tab-at}
use Rattle.rules.specs.Accepted.{Accepted, GoodReservoir}
use Rattle.rules.specs.Basin.{Basin, Reservoir, no_reservoir, rows, reservoir_at}
use Rattle.rules.specs.Month.{area_by, area_at, evaporation, evaporations, month}
use Rattle.rules.specs.declared.Refusal.{Refusal}
use Rattle.rules.specs.Answers.{Answer, told}
use Rattle.rules.proofs.Areas.{area-within}
use Rattle.rules.specs.Tally.{over_limit, over_answer}
use Rattle.boards.specs.Board.{possible}
use Rattle.answers.specs.Answers.{count_answer}
use Rattle.places.specs.Report.{evaporation_place}
use Rattle.month.specs.Month.{run_of, Outcome, month_settled, outcome_of}
use Rattle.month.specs.Run.{CanRun, Ran, CanRunSheet, SheetRan}
use Rattle.month.proofs.After.{after-possible}
use Rattle.boards.proofs.Report.{evaporation-place}
use Rattle.month.proofs.Settling.{over-none, within-limit}

-- ---- the contract, case by case

module _ (b : Basin) (runoff bd rp : List ℕ) (c : CanRunSheet b runoff bd rp) where
  pub stays : (r : Refusal) → Some (told r) ≡ over_answer (over_limit runoff) → SheetRan b runoff bd rp (outcome_of (told r) bd rp)
  unfolding month_settled
  stays r e = rw (← e)

  module _ (e : None ≡ over_answer (over_limit runoff)) where
    pub may-run : CanRun b runoff bd rp
    may-run = record { accepted = c.accepted; sheet = c.sheet; small = within-limit runoff (over-none (over_limit runoff) (sym e)); can = c.can; room = c.room }

    pub goes : (bd' rp' : List ℕ) (k : ℕ) → Ran b runoff bd rp bd' rp' k → SheetRan b runoff bd rp (outcome_of (count_answer (Ok k)) bd' rp')
    unfolding month_settled
    goes bd' rp' k r = rw (← e) (λ z. outcome_of (count_answer (Ok (r.shorts z))) (r.board z) (r.report z))

-- ---- what stands on the board after it

board-kept : (b : Basin) → Accepted b → (runoff bd rp : List ℕ) → possible b bd ≡ true → (v : Option Answer) → possible b (month_settled v b runoff bd rp).board ≡ true
unfolding month_settled
board-kept b acc runoff bd rp can None = after-possible b acc bd can runoff
board-kept b acc runoff bd rp can (Some a) = can

-- refused or not, the board is possible
pub still-possible : (b : Basin) → Accepted b → (runoff bd rp : List ℕ) → possible b bd ≡ true → (o : Outcome) → SheetRan b runoff bd rp o → possible b o.board ≡ true
still-possible b acc runoff bd rp can o w = ap (λ (x : Outcome). possible b x.board) w ∙ board-kept b acc runoff bd rp can (over_answer (over_limit runoff))

-- ---- what evaporates is at most the largest area under the largest depth

loss-most : (b : Basin) (v : Reservoir) (m x : ℕ) → GoodReservoir b v → evaporation m v x ≤ 1_000_000_000
unfolding evaporation area_at
loss-most b v m x g =
    let p : area_by v.surveys x * get_or v.depths m 0 ≤ 1_000_000 * 1000 = mul-le-mul (area-within 1_000_000 x v.surveys g.areas_most) (g.depths_most m) in
    omega (arith, p)

losses-most : (b : Basin) → Accepted b → (m : ℕ) (ss : List ℕ) (v : ℕ) → v < length b.reservoirs → get_or (evaporations b m ss) v 0 ≤ 1_000_000_000
unfolding evaporations
losses-most b acc m ss v h = omega (
  arith,
  tab-at (λ u. evaporation m (reservoir_at b u) (get_or ss u 0)) (length b.reservoirs) v 0 h,
  loss-most b (reservoir_at b v) m (get_or ss v 0) (all-at-place (GoodReservoir b) b.reservoirs no_reservoir acc.reservoirs_good v h),
)

run-losses : (b : Basin) → Accepted b → (runoff bd : List ℕ) (v : ℕ) → v < length b.reservoirs → get_or (run_of b runoff bd).evaporation v 0 ≤ 1_000_000_000
unfolding run_of month
run-losses b acc runoff bd v h = losses-most b acc _ _ v h

-- of an accepted month the report tells them
told-losses : (b : Basin) → Accepted b → (runoff bd rp : List ℕ) (o : Option ℕ) → (month_settled (over_answer o) b runoff bd rp).answer.number ≡ 0
    → (v : ℕ) → v < length b.reservoirs → get_or (month_settled (over_answer o) b runoff bd rp).report (evaporation_place (length b.rights) (rows b) v) 0 ≤ 2_000_000_000
unfolding month_settled over_answer
told-losses b acc runoff bd rp None e v h = omega (arith, evaporation-place b (run_of b runoff bd) rp v h, run-losses b acc runoff bd v h)
told-losses b acc runoff bd rp (Some i) e v h = absurd (omega (arith, e))

pub losses_told : (b : Basin) → Accepted b → (runoff bd rp : List ℕ) (o : Outcome) → SheetRan b runoff bd rp o → o.answer.number ≡ 0 → (v : ℕ) → v < length b.reservoirs → get_or o.report (evaporation_place (length b.rights) (rows b) v) 0 ≤ 2_000_000_000
losses_told b acc runoff bd rp o w e v h =
    let t = told-losses b acc runoff bd rp (over_limit runoff) (ap (λ (x : Outcome). x.answer.number) (sym w) ∙ e) v h in
    omega (arith, t, ap (λ (x : Outcome). get_or x.report (evaporation_place (length b.rights) (rows b) v) 0) w)
