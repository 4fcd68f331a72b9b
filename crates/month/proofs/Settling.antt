-- Each answer of month, case by case. Assumes nothing.
use Rattle.std.specs.Prelude.{Option, None, Some, Ok, Err, MatchOption}
use Rattle.std.specs.List.{AllWithin, HoldsAt}
use mathlib.Core.Path.{◌≡◌, refl, sym, ap, ◌∙◌, subst}
use mathlib.Core.Bool.{Bool, true, false}
use mathlib.Core.Logic.{◌≢◌}
use mathlib.Core.List.{List}
use Prim.Native.Nat.{ℕ, ◌≤◌, ◌<◌}
use native.Mathlib.Decide.{dec_lt}
use native.Mathlib.Omega.{arith}
use lib.Dec.{leb, ltb, eqb}
use lib.ListN.{length, get_or, get_or-eq_default}
use Rattle.general.specs.Tests.{◌and◌}
use Rattle.general.proofs.Tests.{ltb_yes, ltb_no, not-lt-of, eq_of, le_of, both_of, eqb_same, eqb-other, and-true}
use Rattle.general.proofs.Loops.{and-not}
use Rattle.general.proofs.Search.{first-none, found-below}
use Rattle.rules.specs.Basin.{Basin, rows}
use Rattle.rules.specs.declared.Refusal.{Refusal}
use Rattle.rules.specs.declared.Refusal.TheVariants.{Runoff}
use Rattle.records.specs.Records.{rows_of, reservoir_count, right_count, basin_of, bodies}
use Rattle.records.specs.declared.bodies.Bodies.{Bodies}
use Rattle.records.specs.Bodies.{basin_in, BodiesOf}
use Rattle.filecheck.proofs.Accepted.{accepted-facts}
use Rattle.records.proofs.Rows.{rows_are}
use Rattle.places.specs.Report.{report_end}
use Rattle.records.proofs.Decoded.{basin-same, reservoirs-are, rights-are}
use Rattle.places.specs.Board.{board_length}
use Rattle.rules.specs.Answers.{Verdict, Answer, told, or_else}
use Rattle.rules.specs.Tally.{most_runoff, report_length, lists_fit, over_limit, over_answer}
use Rattle.filecheck.specs.Check.{check_of}
use Rattle.boards.specs.Board.{possible, judged}
use Rattle.boards.proofs.Bodies.{possible-told}
use Rattle.answers.specs.Answers.{refusal_of, lent_refusal}
use Rattle.answers.proofs.Answers.{Clear, lent-file, lent_none}
use Rattle.answers.proofs.Judged.{lent-judged}
use Rattle.answers.proofs.Numbered.{Numbered, or-numbered, over-numbered, lent-numbered}
use Rattle.month.specs.Month.{call_with, all_fit, month_refusal, Outcome, month_settled, month_of, MonthMeets, outcome_of}
use Rattle.month.specs.Run.{CanRunSheet, SheetRan}

-- ---- the lists, by the bodies

pub lists-bodies : (w : Bodies) (runoff report : List ℕ)
    → (eqb (length runoff) (rows_of w.stations.now) and leb (report_end (right_count w.rights.now) (rows_of w.stations.now) (reservoir_count w.reservoirs.now)) (length report))
    ≡ lists_fit (basin_in w) (call_with runoff report)
unfolding bodies lists_fit
lists-bodies w runoff report = rw (reservoirs-are w.reservoirs.now, rows_are w.stations.now, rights-are w.rights.now)

-- beside a board that has its length, by the bodies of a file and by the file
pub lists-told : (f : List ℕ) (w : Bodies) (runoff board report : List ℕ) {r : Bool} → BodiesOf f w → length board ≡ board_length → r ≡ lists_fit (basin_in w) (call_with runoff report) → r ≡ all_fit (basin_of f) runoff board report
unfolding all_fit
lists-told f w runoff board report o long h =
    h ∙ ap (λ (b : Basin). lists_fit b (call_with runoff report)) (basin-same f w o)
    ∙ sym (ap (λ (k : ℕ). lists_fit (basin_of f) (call_with runoff report) and eqb k board_length) long ∙ ap (λ (t : Bool). lists_fit (basin_of f) (call_with runoff report) and t) (eqb_same board_length) ∙ and-true (lists_fit (basin_of f) (call_with runoff report)))

-- a board of another length
pub board-unfit : (b : Basin) (runoff board report : List ℕ) → length board ≢ board_length → all_fit b runoff board report ≡ false
unfolding all_fit
board-unfit b runoff board report n = and-not (lists_fit b (call_with runoff report)) (eqb-other (length board) board_length n)

pub fits-parts : (b : Basin) (runoff board report : List ℕ) → all_fit b runoff board report ≡ true → (length runoff ≡ rows b) × (report_length b ≤ length report) × (length board ≡ board_length)
unfolding all_fit lists_fit
fits-parts b runoff board report e =
    let x = both_of e in
    let y = both_of x.0 in
    (eq_of {m = length runoff} {n = rows b} y.0, le_of {m = report_length b} {n = length report} y.1, eq_of {m = length board} {n = board_length} x.1)

-- ---- the first row over the limit

abbrev over : List ℕ → ℕ → Bool
over runoff k = ltb most_runoff (get_or runoff k 0)

module _ (runoff : List ℕ) where
  -- what a search for the first one turns up
  pub over-found : (r : Option ℕ)
      → MatchOption r (AllWithin (λ x. x ≤ most_runoff) runoff 0 (length runoff)) (λ i. (i < length runoff) × HoldsAt (λ x. most_runoff < x) runoff i × AllWithin (λ x. x ≤ most_runoff) runoff 0 i)
      → r ≡ over_limit runoff
  unfolding over_limit
  over-found None h = found-below (over runoff) (length runoff) None (λ k l u. ltb_no most_runoff (get_or runoff k 0) (h k 0 l u))
  over-found (Some i) h = found-below (over runoff) (length runoff) (Some i)
      (omega arith, h.0, ltb_yes most_runoff (get_or runoff i 0) (h.1 0), λ k l u. ltb_no most_runoff (get_or runoff k 0) (h.2 k 0 l u))

  -- where none is over, each is within
  none_over : over_limit runoff ≡ None → (j : ℕ) → j < length runoff → get_or runoff j 0 ≤ most_runoff
  unfolding over_limit
  none_over e j h = not-lt-of {m = most_runoff} {n = get_or runoff j 0} (first-none (over runoff) (length runoff) 0 e j (omega arith) (omega (arith, h)))

  pub within-limit : over_limit runoff ≡ None → (j : ℕ) → get_or runoff j 0 ≤ most_runoff
  within-limit e j = pick (dec_lt j (length runoff))
    where
      pick : Dec (j < length runoff) → get_or runoff j 0 ≤ most_runoff
      pick (yes h) = none_over e j h
      pick (no h) = omega (arith, get_or-eq_default runoff 0 {n = j} (omega (arith, h)))

pub over-none : (o : Option ℕ) → over_answer o ≡ None → o ≡ None
unfolding over_answer
over-none None e = refl
over-none (Some i) e = cc

-- a row that was found is the place of the refusal
pub over-told : {P : ℕ → Type 0} (o : Option ℕ) (v : Verdict) → ((i : ℕ) → P i → v ≡ Err (Runoff i)) → MatchOption o (v ≡ Ok tt) P → refusal_of v ≡ over_answer o
unfolding over_answer
over-told None v f e = ap refusal_of e
over-told (Some i) v f e = ap refusal_of (f i e)

-- ---- the contract

module _ (f runoff board report : List ℕ) where
  abbrev fits : Bool
  fits = all_fit (basin_of f) runoff board report

  abbrev lent : Option Answer
  lent = lent_refusal f fits board

  -- a refusal has a number
  pub month-numbered : Numbered (month_refusal f runoff board report)
  unfolding month_refusal
  month-numbered = or-numbered lent (over_answer (over_limit runoff)) (lent-numbered f fits board) (over-numbered (over_limit runoff))

  pub month-refused : (r : Refusal) → Some (told r) ≡ lent → MonthMeets f runoff board report (outcome_of (told r) board report)
  unfolding month_of month_settled month_refusal or_else
  month-refused r e = rw (← e)

  pub month-unchecked : (r : Refusal) → Err r ≡ check_of f → MonthMeets f runoff board report (outcome_of (told r) board report)
  month-unchecked r e = month-refused r (lent-file f fits board r e)

  -- what is turned down beside an accepted file and a board that has its length
  pub lent-told : (w : Bodies) → BodiesOf f w → check_of f ≡ Ok tt → length board ≡ board_length → {t : Bool} {v : Verdict} {bd : List ℕ} → bd ≡ board → t ≡ lists_fit (basin_in w) (call_with runoff report) → v ≡ judged t (possible (basin_in w) bd) → refusal_of v ≡ lent
  lent-told w h acc long eb et ev = lent-judged f fits board acc
      (ev ∙ (λ z. judged (lists-told f w runoff board report h long et z) (possible-told f w board h (ap (possible (basin_in w)) eb) z)))

  -- only the runoff is left to look at
  module _ (k : Clear f fits board) where
    pub only-runoff : month_refusal f runoff board report ≡ over_answer (over_limit runoff)
    unfolding month_refusal or_else
    only-runoff = rw (lent_none f fits board k)

    can-go : CanRunSheet (basin_of f) runoff board report
    can-go = let p = fits-parts (basin_of f) runoff board report k.lists-ok in record { accepted = accepted-facts f k.file-ok; sheet = p.0; can = k.board-ok; room = p.1 }

    went : (o : Outcome) → SheetRan (basin_of f) runoff board report o → MonthMeets f runoff board report o
    unfolding month_of
    went o w = w ∙ ap (λ (v : Option Answer). month_settled v (basin_of f) runoff board report) (sym only-runoff)

    -- by the bodies of the file as the code has them
    module _ (w : Bodies) (h : BodiesOf f w) where
      pub can-go-at : CanRunSheet (basin_in w) runoff board report
      can-go-at = subst (λ (x : Basin). CanRunSheet x runoff board report) (sym (basin-same f w h)) can-go

      pub month-went : (o : Outcome) → SheetRan (basin_in w) runoff board report o → MonthMeets f runoff board report o
      month-went o r = went o (subst (λ (x : Basin). SheetRan x runoff board report o) (basin-same f w h) r)
