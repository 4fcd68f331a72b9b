-- Two accepted month calls on one board: what their reports tell of the first rights. Assumes nothing.
use Rattle.std.specs.Prelude.{Option, None, Some}
use mathlib.Core.Path.{◌≡◌, refl, sym, ap, ◌∙◌}
use mathlib.Core.List.{List, [], ◌∷◌, map}
use Prim.Native.Nat.{ℕ, zero, suc, ◌≤◌, ◌<◌}
use native.Mathlib.Omega.{arith}
use lib.ListN.{length, get_or, take, drop}
use Rattle.general.specs.Tables.{tab}
use Rattle.general.specs.Tests.{bit}
use Rattle.general.proofs.Tables.{tab-at}
use Rattle.places.specs.Board.{storage_at, marks_at, taken_at, due_at}
use Rattle.places.specs.Report.{from_river_place, from_storage_place, reason_place, station_place}
use Rattle.rules.specs.Answers.{Answer, or_else}
use Rattle.rules.proofs.Answers.{or-first}
use Rattle.rules.specs.Basin.{Station, Reservoir, Basin, rows}
use Rattle.rules.specs.Elders.{SameRiver, turn_without_taken, CarriedAlike}
use Rattle.rules.specs.Month.{grant_at, MonthRun, month, reason_number}
use Rattle.rules.specs.Tally.{over_limit, over_answer}
use Rattle.rules.specs.Turn.{Turn}
use Rattle.rules.proofs.Theorems.{first_turns_of_month}
use Rattle.records.specs.Records.{basin_of}
use Rattle.boards.specs.Board.{carried_of}
use Rattle.boards.specs.Report.{report_of}
use Rattle.boards.proofs.Report.{river-place, storage-place, reason-place, station-place}
use Rattle.answers.specs.Answers.{lent_refusal}
use Rattle.answers.proofs.Answers.{Clear, lent-clear}
use Rattle.answers.proofs.Numbered.{Numbered}
use Rattle.month.specs.Month.{all_fit, month_refusal, run_of, Outcome, month_settled, month_of}
use Rattle.month.proofs.Settling.{month-numbered}
use Rattle.elders.specs.Elders.{AcceptedCall}

-- ---- the grants of the first turns

grants-same : (k : ℕ) (ts us : List Turn) → take k (map turn_without_taken ts) ≡ take k (map turn_without_taken us) → (i : ℕ) → i < k → grant_at ts i ≡ grant_at us i
unfolding turn_without_taken
grants-same zero ts us e i h = absurd (omega arith)
grants-same (suc k) [] [] e i h = refl
grants-same (suc k) [] (u ∷ us) e i h = absurd (let z : 0 ≡ suc (length (take k (map turn_without_taken us))) = ap length e in omega arith)
grants-same (suc k) (t ∷ ts) [] e i h = absurd (let z : suc (length (take k (map turn_without_taken ts))) ≡ 0 = ap length e in omega arith)
grants-same (suc k) (t ∷ ts) (u ∷ us) e zero h = ap (λ (l : List Turn). (get_or l 0 (turn_without_taken t)).grant) e
grants-same (suc k) (t ∷ ts) (u ∷ us) e (suc i) h = grants-same k ts us (ap (drop 1) e) i (omega arith)

-- ---- two basins on one board

module _ (a b : Basin) (e : SameRiver a b) (runoff board : List ℕ) where
  carried-alike : (k : ℕ) → k ≤ length a.rights → k ≤ length b.rights → CarriedAlike k (carried_of a board) (carried_of b board)
  unfolding carried_of
  carried-alike k h g = record {
    m = refl;
    storages = ap (λ (vs : List Reservoir). tab (length vs) (storage_at board)) e.reservoirs;
    marks = ap (λ (vs : List Reservoir). tab (length vs) (bit (marks_at board))) e.reservoirs;
    own = λ j l. tab-at (taken_at board) (length a.rights) j 0 (omega arith) ∙ sym (tab-at (taken_at board) (length b.rights) j 0 (omega arith));
  }

  -- the returns that arrive are read off the board, row by row
  unfoldable arriving : Basin → List ℕ
  arriving c = tab (rows c) (λ w. due_at board w 1)

  arriving-same : arriving a ≡ arriving b
  unfolding arriving
  arriving-same = ap (λ (st : List Station). tab (length st) (λ w. due_at board w 1)) e.stations

  pub first-grants : (k : ℕ) → take k a.rights ≡ take k b.rights → k ≤ length a.rights → k ≤ length b.rights → (i : ℕ) → i < k
      → grant_at (run_of a runoff board).turns i ≡ grant_at (run_of b runoff board).turns i
  unfolding run_of arriving
  first-grants k r h g i l = grants-same k (run_of a runoff board).turns (run_of b runoff board).turns
      (first_turns_of_month a b e k r (carried_of a board) (carried_of b board) (carried-alike k h g) runoff (arriving a)
      ∙ ap (λ (x : List ℕ). take k (map turn_without_taken (month b (carried_of b board) runoff x).turns)) arriving-same) i l

-- ---- an accepted call

-- where the month is settled with number 0, nothing was refused
settled-none : (v : Option Answer) → Numbered v → (b : Basin) (runoff board report : List ℕ) → (month_settled v b runoff board report).answer.number ≡ 0 → v ≡ None
unfolding month_settled
settled-none None w b runoff board report n = refl
settled-none (Some a) w b runoff board report n = absurd (w n)

module _ (f runoff board report : List ℕ) (o : Outcome) (c : AcceptedCall f runoff board report o) where
  abbrev b : Basin
  b = basin_of f

  abbrev lent : Option Answer
  lent = lent_refusal f (all_fit b runoff board report) board

  not-refused : month_refusal f runoff board report ≡ None
  unfolding month_of
  not-refused = settled-none (month_refusal f runoff board report) (month-numbered f runoff board report) b runoff board report
      (ap (λ (x : Outcome). x.answer.number) (sym c.meets) ∙ c.number)

  not-lent : lent ≡ None
  unfolding month_refusal
  not-lent = or-first lent (over_answer (over_limit runoff)) not-refused

  pub all-clear : Clear f (all_fit b runoff board report) board
  all-clear = lent-clear f (all_fit b runoff board report) board not-lent

  pub not-over : over_answer (over_limit runoff) ≡ None
  unfolding month_refusal or_else
  not-over = ap (λ (v : Option Answer). or_else v (over_answer (over_limit runoff))) (sym not-lent) ∙ not-refused

  report-is : o.report ≡ report_of b (run_of b runoff board) report
  unfolding month_of month_settled
  report-is = ap (λ (x : Outcome). x.report) (c.meets ∙ ap (λ (v : Option Answer). month_settled v b runoff board report) not-refused)

  -- its report tells the month's grants, place by place
  pub record Told (i : ℕ) : Type 0 where
    pub from-river : get_or o.report (from_river_place i) 0 ≡ (grant_at (run_of b runoff board).turns i).from_river
    pub from-storage : get_or o.report (from_storage_place i) 0 ≡ (grant_at (run_of b runoff board).turns i).from_storage
    pub reason : get_or o.report (reason_place i) 0 ≡ reason_number (grant_at (run_of b runoff board).turns i).reason
    pub station : get_or o.report (station_place i) 0 ≡ (grant_at (run_of b runoff board).turns i).station

  pub told : (i : ℕ) → i < length b.rights → Told i
  told i l =
      let h : MonthRun = run_of b runoff board in
      let read : (q : ℕ) → get_or o.report q 0 ≡ get_or (report_of b h report) q 0 = λ q. ap (λ (x : List ℕ). get_or x q 0) report-is in
      record {
        from-river = read (from_river_place i) ∙ river-place b h report i l;
        from-storage = read (from_storage_place i) ∙ storage-place b h report i l;
        reason = read (reason_place i) ∙ reason-place b h report i l;
        station = read (station_place i) ∙ station-place b h report i l;
      }
