-- What a list of calls may start from: the fresh start, and wherever a tally stands. Assumes nothing.
use Rattle.std.specs.Prelude.{Option, None, Some}
use mathlib.Core.Bool.{false}
use mathlib.Core.List.{List, [], ◌∷◌, ◌++◌}
use Prim.Native.Nat.{ℕ, suc, ◌*◌, ◌≤◌, ◌<◌}
use native.Mathlib.Omega.{arith}
use native.Mathlib.Decide.{dec_lt}
use lib.ListN.{length, length-replicate, length-map, get_or-map, get_or-eq_default}
use Rattle.general.proofs.Lists.{get_d-zeros, all-at-place}
use Rattle.general.proofs.Sums.{sum-map, sum_to-zero₂}
use Rattle.rules.specs.Basin.{Reservoir, Basin, no_reservoir, rows, reservoir_at}
use Rattle.rules.specs.Month.{returns_at, MonthRun, month}
use Rattle.rules.specs.Tally.{Call, refusal, Start, Tally, fresh_carried, fresh_start, begun, pending, arriving, next_run, accept, standing, after_judged, after_call, after_calls}
use Rattle.rules.specs.Answers.{Answer}
use Rattle.rules.specs.Accepted.{GoodReservoir, Accepted, most_amount}
use Rattle.rules.specs.Water.{starting_storage, starting_dues}
use Rattle.rules.specs.Theorems.{most_due, Possible, FreshFacts}
use Rattle.rules.proofs.Pending.{pending-on, pending-ends, pending-begins}
use Rattle.rules.proofs.Noting.{Noted, none-noted, month-noted}
use Rattle.rules.proofs.Shortness.{fresh-short}
use Rattle.rules.proofs.Bounds.{month-returns-le, CarriedCapped, month-capped, month_in_year, month-count}

pub capped-of : (b : Basin) (s : Start) → Possible b s → CarriedCapped b s.carried
capped-of b s p = record { storages_most = p.storages_most; taken-most = p.taken-most; taken_count = p.taken_count; marks_count = p.marks_count }

pub noted_of : (b : Basin) (s : Start) → Possible b s → Noted b s.carried.shorts
noted_of b s p = record { count = p.shorts_count; months = p.shorts_months }

start-le : (b : Basin) → Accepted b → (v : ℕ) → (reservoir_at b v).start ≤ (reservoir_at b v).capacity
start-le b acc v = pick (dec_lt v (length b.reservoirs))
  where
    pick : Dec (v < length b.reservoirs) → (reservoir_at b v).start ≤ (reservoir_at b v).capacity
    pick (yes h) = (all-at-place (GoodReservoir b) b.reservoirs no_reservoir acc.reservoirs_good v h).start_most
    pick (no h) = rw (get_or-eq_default b.reservoirs no_reservoir {n = v} (omega arith)) (omega arith)

pub fresh-possible : (b : Basin) → Accepted b → Possible b (fresh_start b)
unfolding fresh_start fresh_carried
fresh-possible b acc = record {
  month_in_year = omega arith;
  storages_count = length-map b.reservoirs _;
  storages_most = λ v. omega (arith, get_or-map (λ (x : Reservoir). x.start) b.reservoirs v no_reservoir, start-le b acc v);
  marks_count = length-replicate _ false;
  taken_count = length-replicate _ 0;
  taken-most = λ i. omega (arith, get_d-zeros (length b.rights) i);
  due_most = λ w k h l. omega arith;
  shorts_count = (none-noted b).count;
  shorts_months = (none-noted b).months;
}

pub fresh-facts : (b : Basin) → Accepted b → FreshFacts b
unfolding fresh_start fresh_carried starting_storage starting_dues
fresh-facts b acc = record {
  is_possible = fresh-possible b acc;
  storage = sum-map (λ (v : Reservoir). v.start) b.reservoirs;
  dues = sum_to-zero₂ (rows b) 11;
  none_short = fresh-short b;
}

-- a tally that begins stands at its start
pub begun-possible : (b : Basin) (s : Start) → Possible b s → Possible b (standing b (begun s))
unfolding standing begun
begun-possible b s p = record {
  month_in_year = p.month_in_year;
  storages_count = p.storages_count;
  storages_most = p.storages_most;
  marks_count = p.marks_count;
  taken_count = p.taken_count;
  taken-most = p.taken-most;
  due_most = λ w k h l. omega (arith, pending-begins b s w k l, p.due_most w k h l);
  shorts_count = p.shorts_count;
  shorts_months = p.shorts_months;
}

due-on : (b : Basin) (s : Start) (hs : List MonthRun) (h : MonthRun) (w k : ℕ) → returns_at b h.turns w k ≤ 256 * most_amount
    → ((j : ℕ) → 1 ≤ j → j < 12 → pending b s hs w j ≤ most_due j) → k < 12 → pending b s (hs ++ (h ∷ [])) w k ≤ most_due k
due-on b s hs h w k r d l = pick (dec_lt (suc k) 12)
  where
    pick : Dec (suc k < 12) → pending b s (hs ++ (h ∷ [])) w k ≤ most_due k
    pick (yes m) = omega (arith, pending-on b s h w hs k l, d (suc k) (omega arith) m)
    pick (no m) = omega (arith, pending-on b s h w hs k l, pending-ends b s hs w (suc k) (omega arith))

accept-possible : (b : Basin) → Accepted b → (t : Tally) (c : Call) → Possible b (standing b t) → Possible b (standing b (accept b t c))
unfolding accept next_run standing
accept-possible b acc t c p =
    let arrived : List ℕ = arriving b t.start t.months in
    let z : CarriedCapped b (month b t.carried c.runoff arrived).carried = month-capped b t.carried c.runoff arrived (capped-of b (standing b t) p) in
    let n : Noted b (month b t.carried c.runoff arrived).carried.shorts = month-noted b t.carried c.runoff arrived (noted_of b (standing b t) p) in
    record {
      month_in_year = month_in_year b t.carried c.runoff arrived p.month_in_year;
      storages_count = month-count b t.carried c.runoff arrived;
      storages_most = z.storages_most;
      marks_count = z.marks_count;
      taken_count = z.taken_count;
      taken-most = z.taken-most;
      due_most = λ w k h l. due-on b t.start t.months (month b t.carried c.runoff arrived) w k (month-returns-le b acc t.carried c.runoff arrived w k) (p.due_most w) l;
      shorts_count = n.count;
      shorts_months = n.months;
    }

pub call-possible : (b : Basin) → Accepted b → (t : Tally) (c : Call) → Possible b (standing b t) → Possible b (standing b (after_call b t c))
unfolding after_call after_judged
call-possible b acc t c p = go (refusal b c)
  where
    go : (v : Option Answer) → Possible b (standing b (after_judged v b t c))
    go None = accept-possible b acc t c p
    go (Some a) = p

pub calls-possible : (b : Basin) → Accepted b → (t : Tally) (cs : List Call) → Possible b (standing b t) → Possible b (standing b (after_calls b t cs))
unfolding after_calls
calls-possible b acc t [] p = p
calls-possible b acc t (c ∷ cs) p = calls-possible b acc (after_call b t c) cs (call-possible b acc t c p)
