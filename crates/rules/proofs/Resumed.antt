-- Tallies that stand alike go on alike, and one begun where another stands is such a one. Assumes nothing.
use Rattle.std.specs.Prelude.{Option, None, Some}
use mathlib.Core.Path.{◌≡◌, refl, sym, ap, ◌∙◌}
use mathlib.Core.List.{List, [], ◌∷◌}
use Prim.Native.Nat.{ℕ, suc, ◌<◌}
use native.Mathlib.Omega.{arith}
use native.Mathlib.Decide.{dec_lt}
use Rattle.general.proofs.Tables.{tab-same}
use Rattle.rules.specs.Basin.{Basin, rows}
use Rattle.rules.specs.Month.{returns_at, MonthRun, month}
use Rattle.rules.specs.Tally.{Call, refusal, Tally, begun, pending, arriving, next_run, accept, standing, after_judged, after_call, after_calls}
use Rattle.rules.specs.Answers.{Answer}
use Rattle.rules.specs.Theorems.{SameStanding}
use Rattle.rules.proofs.Pending.{pending-on, pending-ends, pending-begins}

module _ (b : Basin) where
  abbrev owed : Tally → ℕ → ℕ → ℕ
  owed t = pending b t.start t.months

  same-run : (t u : Tally) (c : Call) → SameStanding b t u → next_run b t c ≡ next_run b u c
  unfolding next_run arriving
  same-run t u c e = λ z. month b (e.carried_same z) c.runoff (tab-same (rows b) (λ w. owed t w 1) (λ w. owed u w 1) (λ w _. e.pending_same w 1 (omega arith)) z)

  same-later : (t u : Tally) → SameStanding b t u → (w k : ℕ) → owed t w k ≡ owed u w k
  same-later t u e w k = pick (dec_lt k 12)
    where
      pick : Dec (k < 12) → owed t w k ≡ owed u w k
      pick (yes h) = e.pending_same w k h
      pick (no h) = pending-ends b t.start t.months w k (omega arith) ∙ sym (pending-ends b u.start u.months w k (omega arith))

  same-accept : (t u : Tally) (c : Call) → SameStanding b t u → SameStanding b (accept b t c) (accept b u c)
  unfolding accept
  same-accept t u c e = record {
    carried_same = ap (λ (h : MonthRun). h.carried) (same-run t u c e);
    pending_same = λ w k l. omega (
      arith,
      pending-on b t.start (next_run b t c) w t.months k l,
      pending-on b u.start (next_run b u c) w u.months k l,
      same-later t u e w (suc k),
      ap (λ (h : MonthRun). returns_at b h.turns w k) (same-run t u c e),
    );
  }

  same-call : (t u : Tally) (c : Call) → SameStanding b t u → SameStanding b (after_call b t c) (after_call b u c)
  unfolding after_call after_judged
  same-call t u c e = go (refusal b c)
    where
      go : (v : Option Answer) → SameStanding b (after_judged v b t c) (after_judged v b u c)
      go None = same-accept t u c e
      go (Some a) = e

  pub same-calls : (t u : Tally) (cs : List Call) → SameStanding b t u → SameStanding b (after_calls b t cs) (after_calls b u cs)
  unfolding after_calls
  same-calls t u [] e = e
  same-calls t u (c ∷ cs) e = same-calls (after_call b t c) (after_call b u c) cs (same-call t u c e)

  pub begun-there : (t : Tally) → SameStanding b (begun (standing b t)) t
  unfolding begun standing
  begun-there t = record { carried_same = refl; pending_same = λ w k l. pending-begins b (standing b t) w k l }
