-- The turns of the month that is run. Assumes nothing.
use mathlib.Core.Bool.{Bool, true}
use mathlib.Core.List.{List, [], ◌∷◌}
use mathlib.Core.Path.{◌≡◌, refl, ap, ◌∙◌}
use Prim.Native.Nat.{ℕ, suc, ◌≤◌}
use native.Mathlib.Omega.{arith}
use Rattle.general.specs.Sums.{only, sum_over}
use Rattle.general.specs.Tables.{tab, All}
use Rattle.general.proofs.Tests.{eqb-other}
use Rattle.rules.specs.Basin.{Basin, Right, rows, pattern_of}
use Rattle.rules.specs.Accepted.{GoodRight}
use Rattle.rules.specs.Returns.{Part, parts_of, lagged, returned_at}
use Rattle.rules.specs.Turn.{State, granted, turn}
use Rattle.rules.specs.Month.{MonthRun, opening, turns, after_turns, returned_by, returns_at, month}
use Rattle.rules.proofs.Splits.{PartsIn, parts_in}
use Rattle.turns.specs.Lines.{turns_from, Served}
use Rattle.places.specs.Board.{month_at, due_at}
use Rattle.river.specs.Setting.{SettingOf}
use Rattle.turns.specs.State.{state_of}
use Rattle.boards.specs.Board.{carried_of, possible}
use Rattle.month.specs.Month.{run_of}
use Rattle.month.proofs.Opened.{opened}

-- ---- nothing returns at a row that the basin does not have

returned-beyond : (b : Basin) (pattern : List ℕ) (w s : ℕ) (qs : List Part) → PartsIn b qs → rows b ≤ w → returned_at pattern w s qs ≡ 0
unfolding returned_at sum_over
returned-beyond b pattern w s [] h l = refl
returned-beyond b pattern w s (q ∷ qs) h l = omega (arith, ap (λ (t : Bool). only t (lagged pattern s q)) (eqb-other q.row w (λ e. omega (arith, e, l, h.0))), returned-beyond b pattern w s qs h.1 l)

pub returns-beyond : (b : Basin) (m i : ℕ) (rs : List Right) (s : State) (w k : ℕ) → All (GoodRight b) rs → rows b ≤ w → returns_at b (turns b m i rs s) w k ≡ 0
unfolding returns_at sum_over turns returned_by turn
returns-beyond b m i [] s w k h l = refl
returns-beyond b m i (r ∷ rs) s w k h l = omega (
  arith,
  returned-beyond b (pattern_of b r) w k (parts_of r.kind r (granted (turn b m i r s).grant)) (parts_in b r r.kind (granted (turn b m i r s).grant) h.0.returns-ok) l,
  returns-beyond b m (suc i) rs (turn b m i r s).after_returns w k h.1 l,
)

-- ---- the month that was run

module _ (b : Basin) (st t rs : List ℕ) (pa : List (List ℕ)) (ri : List ℕ) (w : SettingOf b st t rs pa ri) (runoff bd : List ℕ) (can : possible b bd ≡ true)
    (f a : List ℕ) (sh : List Bool) (start : state_of b f a sh (opened bd) ≡ opening b (carried_of b bd) runoff (tab (rows b) (λ u. due_at bd u 1))) (m : ℕ) (em : m ≡ month_at bd)
    (rp f₂ a₂ : List ℕ) (sh₂ : List Bool) (bd₂ rp₁ : List ℕ) (c : ℕ) (q : Served b m f a sh (opened bd) rp f₂ a₂ sh₂ bd₂ rp₁ c) where
  abbrev h : MonthRun
  h = run_of b runoff bd

  abbrev s₂ : State
  s₂ = state_of b f₂ a₂ sh₂ bd₂

  pub turns-are : turns_from b m (state_of b f a sh (opened bd)) ≡ h.turns
  unfolding run_of month carried_of
  turns-are = ap (turns_from b m) start ∙ ap (λ (x : ℕ). turns_from b x (opening b (carried_of b bd) runoff (tab (rows b) (λ u. due_at bd u 1)))) em

  pub closed_is : s₂ ≡ h.closed
  unfolding run_of month carried_of
  closed_is = q.state ∙ (λ z. after_turns (turns-are z) (start z))
