-- A step of a listing tells what the rules define. Assumes nothing.
use Rattle.std.specs.Prelude.{Option, None, Some}
use Rattle.general.proofs.Sums.{sum_to-same}
use Rattle.rules.specs.declared.Refusal.TheVariants.{Lists}
use mathlib.Core.Bool.{true, false}
use mathlib.Core.List.{List, [], ◌∷◌, ◌++◌, map}
use mathlib.Core.Path.{◌≡◌, refl, sym, ap, ◌∙◌}
use Prim.Native.Nat.{ℕ, zero, suc, ◌<◌}
use native.Mathlib.Omega.{arith}
use lib.ListN.{length, get_or, drop, get_or-append}
use Rattle.general.specs.Tables.{tab}
use Rattle.general.proofs.Tests.{eqb-other}
use Rattle.general.proofs.Tables.{tab-length}
use Rattle.rules.specs.Basin.{Right, Basin, no_right, rows}
use Rattle.rules.specs.Path.{last_row}
use Rattle.rules.specs.Month.{MonthRun}
use Rattle.rules.specs.Answers.{Answer, told, or_else, unless}
use Rattle.rules.specs.Tally.{report_length, over_limit, over_answer}
use Rattle.boards.specs.Board.{storage_sum, due_sum}
use Rattle.boards.specs.Report.{report_parts, report_of}
use Rattle.places.specs.Report.{from_river_place, from_storage_place, reason_place, station_place, lines_end, flow_place, evaporation_place, part_at}
use Rattle.month.specs.Month.{run_of, board_after, Outcome, month_settled}
use Rattle.month.specs.Run.{SheetRan}
use Rattle.listing.specs.Listing.{right_line, right_lines, decimal_text, line_of, end_line, outflow_in, evaporation_in, month_text, refusal_line}
use Rattle.sheets.specs.Sheets.{sheet_of}
use Rattle.listing.specs.Run.{sheet_bytes, part_refusal, Standing, Step, sheet_step, step_of}
use Rattle.listing.specs.Steps.{StepMeets}
use Rattle.listing.proofs.Steps.{step-some, whole-refusal}

-- ---- the text of a month reads only what the report tells

module _ (month : ℕ) (rights : List Right) (x y : List ℕ) where
  lines_same : (n : ℕ) → ((p : ℕ) → p < lines_end n → get_or x p 0 ≡ get_or y p 0) → right_lines month rights x n ≡ right_lines month rights y n
  unfolding right_lines right_line
  lines_same zero h = refl
  lines_same (suc n) h = λ z. lines_same n (λ p l. h p (omega arith)) z
      ++ line_of (map decimal_text (month ∷ (get_or rights n no_right).permit
      ∷ h (from_river_place n) (omega arith) z ∷ h (from_storage_place n) (omega arith) z ∷ h (reason_place n) (omega arith) z ∷ h (station_place n) (omega arith) z ∷ []))

module _ (b : Basin) (h : MonthRun) (old : List ℕ) where
  place_same : (p : ℕ) → p < report_length b → get_or (report_of b h old) p 0 ≡ get_or (report_of b h []) p 0
  unfolding report_of
  place_same p l =
      let at : ℕ → ℕ = part_at (length b.rights) (rows b) (length b.reservoirs) (report_parts b h) in
      let k : p < length (tab (report_length b) at) = rw (tab-length at (report_length b)) l in
      get_or-append (tab (report_length b) at) (drop (report_length b) old) 0 p k ∙ sym (get_or-append (tab (report_length b) at) (drop (report_length b) []) 0 p k)

  text_same : 0 < rows b → (month : ℕ) (board : List ℕ) → month_text b month (report_of b h old) board ≡ month_text b month (report_of b h []) board
  unfolding month_text outflow_in evaporation_in
  text_same row month board = λ z.
      lines_same month b.rights (report_of b h old) (report_of b h []) (length b.rights) (λ p l. place_same p (omega arith)) z
      ++ end_line month (place_same (flow_place (length b.rights) (last_row b)) (omega (arith, row)) z)
      (sum_to-same (length b.reservoirs) _ _ (λ v l. place_same (evaporation_place (length b.rights) (rows b) v) (omega arith)) z) (storage_sum b board) (due_sum b board)

-- ---- which step a part makes

module _ (b : Basin) (s : Standing) (part : List ℕ) where
  short-refusal : (length part ≡ sheet_bytes b → ⊥) → part_refusal b part ≡ Some (told Lists)
  unfolding part_refusal unless or_else
  short-refusal h = rw (eqb-other (length part) (sheet_bytes b) h)

  -- a part that is turned down
  pub refused-meets : (a : Answer) → 0 < length part → part_refusal b part ≡ Some a → StepMeets b s part (record { text = refusal_line a; standing = s; more = false })
  unfolding sheet_step
  refused-meets a some_bytes e = sym (step-some b s part some_bytes ∙ rw e)

  -- a part too short, or none
  pub short-meets : 0 < length part → (length part ≡ sheet_bytes b → ⊥) → StepMeets b s part (record { text = refusal_line (told Lists); standing = s; more = false })
  short-meets some_bytes h = refused-meets (told Lists) some_bytes (short-refusal h)

  pub over-meets : (a : Answer) → 0 < length part → length part ≡ sheet_bytes b → over_answer (over_limit (sheet_of (rows b) part)) ≡ Some a
      → StepMeets b s part (record { text = refusal_line a; standing = s; more = false })
  over-meets a some_bytes h e = refused-meets a some_bytes (whole-refusal b part h ∙ e)

  -- a month
  pub month-meets : (old rp' bd' : List ℕ) → 0 < rows b → length part ≡ sheet_bytes b → over_answer (over_limit (sheet_of (rows b) part)) ≡ None
      → rp' ≡ report_of b (run_of b (sheet_of (rows b) part) s.board) old
      → bd' ≡ board_after b (sheet_of (rows b) part) s.board
      → StepMeets b s part (record { text = month_text b s.months rp' bd'; standing = record { months = suc s.months; board = bd' }; more = true })
  unfolding sheet_step
  month-meets old rp' bd' row h e er eb =
      let e' : part_refusal b part ≡ None = whole-refusal b part h ∙ e in
      let run : MonthRun = run_of b (sheet_of (rows b) part) s.board in
      let et : month_text b s.months rp' bd' ≡ month_text b s.months (report_of b run []) (board_after b (sheet_of (rows b) part) s.board) =
      ap (λ (x : List ℕ). month_text b s.months x bd') er
      ∙ text_same b run old row s.months bd'
      ∙ ap (λ (x : List ℕ). month_text b s.months (report_of b run []) x) eb in
      (λ z. record { text = et z; standing = record { months = suc s.months; board = eb z }; more = true }) ∙ sym (step-some b s part (omega (arith, h, row)) ∙ rw e')

-- where the file is at its end
pub ended-meets : (b : Basin) (s : Standing) (part : List ℕ) → length part ≡ 0 → StepMeets b s part (record { text = []; standing = s; more = false })
unfolding step_of
ended-meets b s [] h = refl
ended-meets b s (x ∷ part) h = absurd (omega (arith, h))

-- a part that is no whole sheet is a run's last
pub short-ends : (b : Basin) (s : Standing) (part : List ℕ) → length part < sheet_bytes b → (o : Step) → StepMeets b s part o → o.more ≡ false
unfolding step_of sheet_step
short-ends b s part h o w = ap (λ (x : Step). x.more) w ∙ go part h
  where
    go : (l : List ℕ) → length l < sheet_bytes b → (step_of b s l).more ≡ false
    go [] k = refl
    go (x ∷ l) k = rw (short-refusal b s (x ∷ l) (λ e. omega (arith, e, k)))

-- ---- what the month's own promise says, case by case

module _ (b : Basin) (runoff bd rp bd' rp' : List ℕ) (a : Answer) (w : SheetRan b runoff bd rp (record { answer = a; board = bd'; report = rp' })) where
  abbrev settled_by : Option Answer → Outcome
  settled_by v = month_settled v b runoff bd rp

  pub went-refused : (a.number ≡ 0 → ⊥) → (over_answer (over_limit runoff) ≡ Some a) × (bd' ≡ bd)
  unfolding month_settled
  went-refused n = go (over_answer (over_limit runoff)) w
    where
      go : (v : Option Answer) → record { answer = a; board = bd'; report = rp' } ≡ settled_by v → (v ≡ Some a) × (bd' ≡ bd)
      go None e = absurd (n (ap (λ (x : Outcome). x.answer.number) e))
      go (Some x) e = (ap (λ (y : Outcome). Some y.answer) (sym e), ap (λ (y : Outcome). y.board) e)

  -- v is what is said of the runoff
  pub record RanBy (v : Option Answer) : Type 0 where
    pub none_over : v ≡ None
    pub board : bd' ≡ board_after b runoff bd
    pub report : rp' ≡ report_of b (run_of b runoff bd) rp

  abbrev pub Ran : Type 0
  Ran = RanBy (over_answer (over_limit runoff))

  pub went_on : a.number ≡ 0 → Ran
  unfolding month_settled over_answer
  went_on n = go (over_limit runoff) w
    where
      go : (v : Option ℕ) → record { answer = a; board = bd'; report = rp' } ≡ settled_by (over_answer v) → RanBy (over_answer v)
      go None e = record { none_over = refl; board = ap (λ (y : Outcome). y.board) e; report = ap (λ (y : Outcome). y.report) e }
      go (Some i) e = absurd (let z : a.number ≡ 8 = ap (λ (x : Outcome). x.answer.number) e in omega (arith, z, n))
