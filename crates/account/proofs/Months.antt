-- A month call on the tally's board: it is refused just where the tally refuses it, and leaves what the tally says. Assumes nothing.
use Rattle.std.specs.Prelude.{Option, None, Some, Ok}
use mathlib.Core.Path.{◌≡◌, refl, ap, ◌∙◌}
use mathlib.Core.Bool.{Bool, true, false}
use mathlib.Core.List.{List}
use Prim.Native.Nat.{ℕ}
use lib.ListN.{length}
use Rattle.general.proofs.Tests.{eqb_same, and-true}
use Rattle.rules.specs.Basin.{Basin}
use Rattle.rules.specs.Month.{MonthRun, short_count}
use Rattle.rules.specs.Tally.{Call, lists_fit, over_limit, over_answer, refusal, Tally, pending, next_run, standing, after_judged, after_call, after_calls, answer_judged, answer_of}
use Rattle.rules.specs.Years.{counts_as, after_entry, entry_answer}
use Rattle.rules.specs.Answers.{Answer, or_else, unless}
use Rattle.rules.specs.Accepted.{Accepted}
use Rattle.rules.specs.Theorems.{Possible}
use Rattle.rules.specs.declared.Refusal.TheVariants.{Lists}
use Rattle.records.specs.Records.{basin_of}
use Rattle.filecheck.specs.Check.{check_of}
use Rattle.boards.specs.Board.{possible}
use Rattle.boards.specs.Report.{report_of}
use Rattle.boards.proofs.Board.{board-length}
use Rattle.places.specs.Board.{board_length}
use Rattle.answers.specs.Answers.{lent_refusal}
use Rattle.answers.proofs.Answers.{no-refusal}
use Rattle.month.specs.Month.{call_with, all_fit, month_refusal, run_of, Outcome, month_settled, month_of, MonthMeets}
use Rattle.account.specs.Runs.{MonthCall, month_event}
use Rattle.account.specs.Reports.{call_of, MonthReport}
use Rattle.account.specs.Claim.{tally_board, tallied, Follows}
use Rattle.account.proofs.Tally.{tally-possible, tally-run, tally-next}
use Rattle.account.proofs.Telling.{tells}

-- ---- refusals

-- on an accepted file and a possible board only the lists are left to ask of what is lent
pub lent-lists : (f board : List ℕ) (fits : Bool) → check_of f ≡ Ok tt → possible (basin_of f) board ≡ true → lent_refusal f fits board ≡ unless fits Lists
unfolding lent_refusal or_else unless
lent-lists f board true acc can = rw (no-refusal f acc, can)
lent-lists f board false acc can = rw (no-refusal f acc)

pub lists-same : (b : Basin) (runoff board report : List ℕ) → length board ≡ board_length → all_fit b runoff board report ≡ lists_fit b (call_with runoff report)
unfolding all_fit
lists-same b runoff board report e = rw (e, eqb_same board_length) (and-true _)

same-refusal : (f runoff board report : List ℕ) → check_of f ≡ Ok tt → length board ≡ board_length → possible (basin_of f) board ≡ true
    → month_refusal f runoff board report ≡ refusal (basin_of f) (call_with runoff report)
unfolding month_refusal refusal
same-refusal f runoff board report e n p =
    ap (λ (x : Option Answer). or_else x (over_answer (over_limit runoff))) (lent-lists f board (all_fit (basin_of f) runoff board report) e p)
    ∙ ap (λ (t : Bool). or_else (unless t Lists) (over_answer (over_limit runoff))) (lists-same (basin_of f) runoff board report n)

pub tally-length : (b : Basin) (t : Tally) → length (tally_board b t) ≡ board_length
unfolding tally_board
tally-length b t = board-length b t.carried (pending b t.start t.months)

-- ---- what it answers and leaves

module _ (f : List ℕ) (ok : check_of f ≡ Ok tt) (acc : Accepted (basin_of f)) (t : Tally) (p : Possible (basin_of f) (standing (basin_of f) t)) where
  abbrev b : Basin
  b = basin_of f

  pub tally-refusal : (runoff report : List ℕ) → month_refusal f runoff (tally_board b t) report ≡ refusal b (call_with runoff report)
  tally-refusal runoff report = same-refusal f runoff (tally_board b t) report ok (tally-length b t) (tally-possible b acc t p)

  -- once the refusal is settled as v
  pub record Settled (v : Option Answer) (e : MonthCall) : Type 0 where
    pub answer : e.outcome.answer ≡ answer_judged v b t (call_of e)
    pub report : MonthReport v b t e
    pub board : e.outcome.board ≡ tally_board b (after_judged v b t (call_of e))

  settled : (e : MonthCall) (v : Option Answer) → refusal b (call_of e) ≡ v → e.outcome ≡ month_settled v b e.runoff (tally_board b t) e.report → Settled v e
  unfolding month_settled answer_judged after_judged
  settled e None w q =
      let c : Call = call_of e in
      let run : run_of b e.runoff (tally_board b t) ≡ next_run b t c = tally-run b acc t p e.runoff (length e.report) in
      record {
        answer = ap (λ (o : Outcome). o.answer) q ∙ ap (λ (r : MonthRun). record { number = 0; place = short_count r.turns }) run;
        report = tells b acc t p c w e.report e.outcome.report refl (ap (λ (o : Outcome). o.report) q ∙ ap (λ (r : MonthRun). report_of b r e.report) run);
        board = ap (λ (o : Outcome). o.board) q ∙ tally-next b acc t p c;
      }
  settled e (Some a) w q = record { answer = ap (λ (o : Outcome). o.answer) q; report = ap (λ (o : Outcome). o.report) q; board = ap (λ (o : Outcome). o.board) q }

  pub month-settled : (e : MonthCall) → MonthMeets f e.runoff (tally_board b t) e.report e.outcome → Settled (refusal b (call_of e)) e
  unfolding month_of
  month-settled e m = settled e (refusal b (call_of e)) refl (m ∙ ap (λ (v : Option Answer). month_settled v b e.runoff (tally_board b t) e.report) (tally-refusal e.runoff e.report))

  pub follow-month : (e : MonthCall) → MonthMeets f e.runoff (tally_board b t) e.report e.outcome → Follows f (tallied t) (month_event e)
  unfolding after_entry counts_as after_calls entry_answer after_call answer_of
  follow-month e m = let s : Settled (refusal b (call_of e)) e = month-settled e m in record { answer = s.answer; report = s.report; board = s.board }
