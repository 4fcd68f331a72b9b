-- The report that a month leaves, place by place. Assumes nothing.
use mathlib.Core.Bool.{Bool, true}
use mathlib.Core.List.{List}
use mathlib.Core.Logic.{◌≢◌}
use mathlib.Core.Path.{◌≡◌, sym, ap, ◌∙◌, subst}
use Prim.Native.Nat.{ℕ, ◌≤◌, ◌<◌}
use native.Mathlib.Omega.{arith}
use lib.ListN.{length, get_or, set, length-set}
use lib.Seq.{get_or-set_same, get_or-set_other}
use lib.IntN.{nat_abs}
use Rattle.general.specs.Tables.{tab}
use Rattle.general.proofs.Tables.{tab-at}
use Rattle.rules.specs.Basin.{Basin, rows}
use Rattle.rules.specs.River.{Level, level_at, dry}
use Rattle.rules.specs.Turn.{State, Turn}
use Rattle.rules.specs.Month.{MonthRun, opening, deep_of}
use Rattle.rules.specs.Tally.{report_length}
use Rattle.records.specs.Records.{reservoir_count}
use Rattle.river.specs.Arrays.{row_level, levels_of}
use Rattle.turns.specs.Lines.{LinesTo, turns_from, Served}
use Rattle.closing.specs.Losses.{loss_in, Lost}
use Rattle.river.specs.Setting.{SettingOf}
use Rattle.turns.specs.State.{state_of}
use Rattle.turns.proofs.Facts.{reservoirs-count}
use Rattle.places.specs.Board.{month_at, storage_at, due_at}
use Rattle.boards.specs.Board.{carried_of, possible}
use Rattle.boards.specs.Report.{report_of}
use Rattle.boards.proofs.Report.{report-by-parts}
use Rattle.places.specs.Report.{from_river_place, from_storage_place, reason_place, station_place, lines_end, flow_place, available_place, rows_end, evaporation_place, deep_place}
use Rattle.month.specs.Month.{run_of}
use Rattle.closing.specs.Closing.{RowsTold}
use Rattle.month.proofs.Opened.{opened}
use Rattle.month.proofs.Turned.{turns-are, closed_is}
use Rattle.month.proofs.Closing.{loss-is}

-- ---- the report of the month that was run

module _ (b : Basin) (st t rs : List ℕ) (pa : List (List ℕ)) (ri : List ℕ) (w : SettingOf b st t rs pa ri) (runoff bd : List ℕ) (can : possible b bd ≡ true)
    (f a : List ℕ) (sh : List Bool) (start : state_of b f a sh (opened bd) ≡ opening b (carried_of b bd) runoff (tab (rows b) (λ u. due_at bd u 1))) (m : ℕ) (em : m ≡ month_at bd)
    (rp f₂ a₂ : List ℕ) (sh₂ : List Bool) (bd₂ rp₁ : List ℕ) (c : ℕ) (q : Served b m f a sh (opened bd) rp f₂ a₂ sh₂ bd₂ rp₁ c) where
  abbrev h : MonthRun
  h = run_of b runoff bd

  abbrev n : ℕ
  n = length b.rights

  turns_same : turns_from b m (state_of b f a sh (opened bd)) ≡ h.turns
  turns_same = turns-are b st t rs pa ri w runoff bd can f a sh start m em rp f₂ a₂ sh₂ bd₂ rp₁ c q

  lines : LinesTo h.turns n rp rp₁
  lines = subst (λ (ts : List Turn). LinesTo ts n rp rp₁) turns_same q.lines

  level-is : (u : ℕ) → u < rows b → level_at h.closed.levels u ≡ row_level f₂ a₂ u
  unfolding state_of levels_of
  level-is u o = ap (λ (s : State). level_at s.levels u) (sym (closed_is b st t rs pa ri w runoff bd can f a sh start m em rp f₂ a₂ sh₂ bd₂ rp₁ c q)) ∙ tab-at (row_level f₂ a₂) (rows b) u dry o

  -- rp₂ once the rows are told, rp₃ once the losses are, rp₄ once what went deep is: each behind what was told before it
  module _ (room : report_length b ≤ length rp) (rp₂ : List ℕ) (r : RowsTold n (rows b) f₂ a₂ rp₁ rp₂) (noted : List ℕ) (same : (v : ℕ) → v < 8 → storage_at noted v ≡ storage_at bd₂ v) (bd₃ rp₃ : List ℕ) (l : Lost rs m (reservoir_count rs) noted rp₂ (rows_end n (rows b)) bd₃ rp₃)
      (rp₄ : List ℕ) (e : rp₄ ≡ set rp₃ (deep_place n (rows b) (reservoir_count rs)) c) where
    abbrev last : ℕ
    last = deep_place n (rows b) (reservoir_count rs)

    size-kept : length rp₃ ≡ length rp
    size-kept = l.report_size ∙ r.size ∙ lines.size

    aside : (p : ℕ) → p ≢ last → get_or rp₄ p 0 ≡ get_or rp₃ p 0
    aside p o = ap (λ (x : List ℕ). get_or x p 0) e ∙ get_or-set_other rp₃ last p c 0 o

    front : (p : ℕ) → p < lines_end n → get_or rp₄ p 0 ≡ get_or rp₁ p 0
    front p o = aside p (λ x. omega (arith, x, o)) ∙ l.report_front p (omega (arith, o)) ∙ r.front p o

    flow-told : (u : ℕ) → u < rows b → get_or rp₄ (flow_place n u) 0 ≡ nat_abs (level_at h.closed.levels u).flow
    flow-told u o = aside (flow_place n u) (λ x. omega (arith, x, o)) ∙ l.report_front (flow_place n u) (omega (arith, o)) ∙ r.flow u o ∙ ap (λ (x : Level). nat_abs x.flow) (sym (level-is u o))

    available-told : (u : ℕ) → u < rows b → get_or rp₄ (available_place n u) 0 ≡ nat_abs (level_at h.closed.levels u).available
    available-told u o =
        aside (available_place n u) (λ x. omega (arith, x, o)) ∙ l.report_front (available_place n u) (omega (arith, o)) ∙ r.available u o ∙ ap (λ (x : Level). nat_abs x.available) (sym (level-is u o))

    loss-told : (v : ℕ) → v < length b.reservoirs → get_or rp₄ (evaporation_place n (rows b) v) 0 ≡ get_or h.evaporation v 0
    loss-told v o =
        let there : v < reservoir_count rs = omega (arith, o, reservoirs-count w) in
        aside (evaporation_place n (rows b) v) (λ x. omega (arith, x, there)) ∙ l.told v there ∙ ap (loss_in rs m v) (same v (omega (arith, there, reservoirs-count w, w.accepted.few_reservoirs))) ∙ loss-is b st t rs pa ri w runoff bd can f a sh start m em rp f₂ a₂ sh₂ bd₂ rp₁ c q v o

    deep_told : get_or rp₄ (deep_place n (rows b) (length b.reservoirs)) 0 ≡ deep_of b h.turns
    deep_told =
        ap (λ (v : ℕ). get_or rp₄ (deep_place n (rows b) v) 0) (reservoirs-count w)
        ∙ ap (λ (x : List ℕ). get_or x last 0) e
        ∙ get_or-set_same rp₃ last c 0 (omega (arith, room, size-kept, reservoirs-count w))
        ∙ q.lost ∙ ap (deep_of b) turns_same

    beyond-kept : (p : ℕ) → report_length b ≤ p → get_or rp₄ p 0 ≡ get_or rp p 0
    beyond-kept p o =
        let after : last < p = omega (arith, o, reservoirs-count w) in
        aside p (λ x. omega (arith, x, after)) ∙ l.report_kept p (omega (arith, after)) ∙ r.beyond p (omega (arith, o)) ∙ lines.beyond p (omega (arith, o))

    pub report-left : rp₄ ≡ report_of b h rp
    report-left = report-by-parts b h rp room rp₄ (record {
      size = ap (λ (x : List ℕ). length x) e ∙ length-set rp₃ last c ∙ size-kept;
      river = λ i o. front (from_river_place i) (omega (arith, o)) ∙ lines.from-river i o;
      storage = λ i o. front (from_storage_place i) (omega (arith, o)) ∙ lines.from-storage i o;
      reason = λ i o. front (reason_place i) (omega (arith, o)) ∙ lines.reason i o;
      station = λ i o. front (station_place i) (omega (arith, o)) ∙ lines.station i o;
      flow = flow-told;
      available = available-told;
      losses = loss-told;
      deep = deep_told;
      beyond = beyond-kept;
    })
