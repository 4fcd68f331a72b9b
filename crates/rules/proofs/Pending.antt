-- Pending returns, one month on. Assumes nothing.
use mathlib.Core.Path.{◌≡◌, refl, ap, ◌∙◌}
use mathlib.Core.List.{List, [], ◌∷◌, ◌++◌}
use Prim.Native.Nat.{ℕ, suc, ◌+◌, ◌≤◌, ◌<◌}
use native.Mathlib.Nat.{add-zero, zero-add, add-suc, suc-add}
use native.Mathlib.Omega.{arith}
use lib.Dec.{eqb}
use lib.ListN.{length, get_or, length-append}
use Rattle.general.specs.Sums.{sum_to, only}
use Rattle.general.proofs.Sums.{sum_to-same, sum_to-add, sum_to-miss, sum_to-pick}
use Rattle.general.proofs.Tests.{ltb_yes, ltb_no}
use Rattle.general.proofs.Tables.{tab-at}
use Rattle.rules.specs.Basin.{Basin, rows}
use Rattle.rules.specs.Month.{returns_at, MonthRun}
use Rattle.rules.specs.Tally.{Start, still_due, pending_from, pending, arriving}
use Rattle.rules.specs.Water.{in_transit, starting_dues}
use Rattle.rules.proofs.Months.{later_all}

module _ (b : Basin) (s : Start) (h : MonthRun) (w : ℕ) where
  pending-append : (j : ℕ) (hs : List MonthRun) (z : ℕ)
      → pending_from b j (hs ++ (h ∷ [])) z w ≡ pending_from b j hs z w + sum_to 12 (λ i. only (eqb (j + length hs + i) z) (returns_at b h.turns w i))
  unfolding pending_from
  pending-append j [] z = rw (add-zero j) (omega arith)
  pending-append j (g ∷ hs) z = rw (pending-append (suc j) hs z, add-suc j (length hs), suc-add j (length hs)) (omega arith)

  -- what was pending at k + 1, and what the new grants return after k months
  pub pending-on : (hs : List MonthRun) (k : ℕ) → k < 12 → pending b s (hs ++ (h ∷ [])) w k ≡ pending b s hs w (suc k) + returns_at b h.turns w k
  unfolding pending
  pending-on hs k l =
      let e : length (hs ++ (h ∷ [])) + k ≡ length hs + suc k = omega (arith, length-append hs (h ∷ [])) in
      rw (e, pending-append 1 hs (length hs + suc k), sum_to-pick 12 (1 + length hs) (length hs + suc k) k (λ j. returns_at b h.turns w j) l (omega arith)) (omega arith)

pending-over : (b : Basin) (w j : ℕ) (hs : List MonthRun) (z : ℕ) → j + length hs + 11 ≤ z → pending_from b j hs z w ≡ 0
unfolding pending_from
pending-over b w j [] z h = refl
pending-over b w j (g ∷ hs) z h = rw (sum_to-miss 12 j z (λ s. returns_at b g.turns w s) (λ s l. omega arith), pending-over b w (suc j) hs z (omega arith))

-- ---- the start's dues

still-due : (s : Start) (w z : ℕ) → z < 12 → still_due s w z ≡ s.due w z
unfolding still_due
still-due s w z h = rw (ltb_yes z 12 h)

none-due : (s : Start) (w z : ℕ) → 12 ≤ z → still_due s w z ≡ 0
unfolding still_due
none-due s w z h = rw (ltb_no z 12 h)

-- a share, or what the start had due, is used up after eleven months
pub pending-ends : (b : Basin) (s : Start) (hs : List MonthRun) (w k : ℕ) → 12 ≤ k → pending b s hs w k ≡ 0
unfolding pending
pending-ends b s hs w k h = omega (arith, none-due s w (length hs + k) (omega arith), pending-over b w 1 hs (length hs + k) (omega arith))

pub pending-begins : (b : Basin) (s : Start) (w k : ℕ) → k < 12 → pending b s [] w k ≡ s.due w k
unfolding pending pending_from
pending-begins b s w k h = omega (arith, ap (λ (z : ℕ). still_due s w z) (zero-add k), still-due s w k h)

-- ---- over all rows and k: what arrives is gone, what is new is added

transit-row : (b : Basin) (s : Start) (w : ℕ) (hs : List MonthRun) → sum_to 11 (λ k. pending b s hs w (suc (suc k))) + pending b s hs w 1 ≡ sum_to 11 (λ k. pending b s hs w (suc k))
unfolding sum_to
transit-row b s w hs = omega (arith, pending-ends b s hs w 12 (omega arith))

pub transit-on : (b : Basin) (s : Start) (hs : List MonthRun) (h : MonthRun)
    → in_transit b s (hs ++ (h ∷ [])) + sum_to (rows b) (λ w. pending b s hs w 1) ≡ in_transit b s hs + later_all b h.turns
unfolding in_transit later_all
transit-on b s hs h =
    let A : ℕ → ℕ = λ w. sum_to 11 (λ k. pending b s hs w (suc (suc k))) in
    let L : ℕ → ℕ = λ w. sum_to 11 (λ k. returns_at b h.turns w (suc k)) in
    let p : ℕ → ℕ = λ w. pending b s hs w 1 in
    omega (
      arith,
      sum_to-same (rows b) (λ w. sum_to 11 (λ k. pending b s (hs ++ (h ∷ [])) w (suc k))) (λ w. A w + L w)
          (λ w _. sum_to-same 11 _ _ (λ k l. pending-on b s h w hs (suc k) (omega arith)) ∙ sum_to-add 11 (λ k. pending b s hs w (suc (suc k))) (λ k. returns_at b h.turns w (suc k))),
      sum_to-add (rows b) A L,
      sum_to-same (rows b) (λ w. A w + p w) (λ w. sum_to 11 (λ k. pending b s hs w (suc k))) (λ w _. transit-row b s w hs),
      sum_to-add (rows b) A p,
    )

-- before the first month: the start's dues
pub transit-begins : (b : Basin) (s : Start) → in_transit b s [] ≡ starting_dues b s
unfolding in_transit starting_dues
transit-begins b s = sum_to-same (rows b) _ _ (λ w _. sum_to-same 11 _ _ (λ k l. pending-begins b s w (suc k) (omega arith)))

pub arriving-sum : (b : Basin) (s : Start) (hs : List MonthRun) → sum_to (rows b) (λ j. get_or (arriving b s hs) j 0) ≡ sum_to (rows b) (λ w. pending b s hs w 1)
unfolding arriving
arriving-sum b s hs = sum_to-same (rows b) _ _ (λ j l. tab-at (λ w. pending b s hs w 1) (rows b) j 0 l)
