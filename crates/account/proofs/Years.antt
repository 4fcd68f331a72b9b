-- A year run on the tally's board: it is refused just where the tally refuses it, and leaves what the tally says of each of its months. Assumes nothing.
use Rattle.std.specs.Prelude.{Option, None, Some, Ok}
use mathlib.Core.Path.{◌≡◌, refl, sym, ap, ◌∙◌, subst}
use mathlib.Core.Bool.{Bool, true}
use mathlib.Core.List.{List, [], ◌∷◌, map}
use Prim.Native.Nat.{ℕ, ◌*◌, ◌≤◌}
use native.Mathlib.Nat.{mul-le-mul, suc-mul}
use native.Mathlib.Omega.{arith}
use lib.ListN.{length, take, drop, length-map, length-drop}
use lib.Seq.{length-take-le, take_at, drop_at}
use Rattle.general.specs.Tests.{◌and◌}
use Rattle.general.proofs.Tests.{le_of}
use Rattle.rules.specs.Basin.{Basin, rows}
use Rattle.rules.specs.Tally.{Call, report_length, refusal, Tally, next_run, standing, after_call, after_calls}
use Rattle.rules.specs.Years.{YearRun, least_call, calls_in, room_for_year, first_refusal, run_answer, run_counts, counts_as, after_entry, entry_answer}
use Rattle.rules.specs.Answers.{Answer, or_else, unless}
use Rattle.rules.specs.Accepted.{Accepted}
use Rattle.rules.specs.Theorems.{Possible}
use Rattle.rules.specs.declared.Refusal.TheVariants.{Lists}
use Rattle.rules.proofs.Answers.{or-first, or-second, or_same, unless-none}
use Rattle.rules.proofs.Possible.{call-possible}
use Rattle.records.specs.Records.{basin_of}
use Rattle.filecheck.specs.Check.{check_of}
use Rattle.answers.specs.Answers.{lent_refusal}
use Rattle.month.specs.Month.{month_refusal, Outcome, month_of}
use Rattle.book.specs.Book.{lookup_refusal, year_part}
use Rattle.years.specs.Years.{year_sheets, sheets_left, Made, calls_made, run_fits, run_settled, year_of, YearMeets}
use Rattle.years.proofs.Sheets.{sheets-length}
use Rattle.account.specs.Runs.{MonthCall, YearCall, year_event}
use Rattle.account.specs.Reports.{Tells, call_of, MonthReport, TellsEach, RunReports}
use Rattle.account.specs.Claim.{tally_board, tallied, run_in, Follows}
use Rattle.account.proofs.Tally.{tally-month, tally-possible}
use Rattle.account.proofs.Months.{lent-lists, tally-length, tally-refusal, Settled, month-settled}
use Rattle.rules.specs.Years as tally
use Rattle.years.specs.Years as year

module _ (f : List ℕ) (ok : check_of f ≡ Ok tt) (acc : Accepted (basin_of f)) where
  abbrev b : Basin
  b = basin_of f

  abbrev n : ℕ
  n = report_length b

  -- ---- its month calls, one after another from where the tally stands

  -- the first of them, lent a part as long as a report
  abbrev first : Tally → List ℕ → List ℕ → MonthCall
  first t r old = record { runoff = r; report = take n old; outcome = month_of f r (tally_board b t) (take n old) }

  module _ (t : Tally) (p : Possible b (standing b t)) (r old : List ℕ) (room : n ≤ length old) where
    least : call_of (first t r old) ≡ least_call b r
    least = ap (λ (x : ℕ). record { runoff = r; report = x }) (length-take-le n old room)

    first-settled : Settled f ok acc t p (refusal b (call_of (first t r old))) (first t r old)
    first-settled = month-settled f ok acc t p (first t r old) refl

    first-refusal : month_refusal f r (tally_board b t) (take n old) ≡ refusal b (least_call b r)
    first-refusal = tally-refusal f ok acc t p r (take n old) ∙ ap (refusal b) least

    first-board : (first t r old).outcome.board ≡ tally_board b (after_call b t (least_call b r))
    unfolding after_call
    first-board = first-settled.board ∙ ap (λ (c : Call). tally_board b (after_call b t c)) least

    -- where it is accepted it tells the tally's month, and its report is as long as the part
    first-tells : refusal b (least_call b r) ≡ None → Tells b (next_run b t (least_call b r)) (take n old) (first t r old).outcome.report
    first-tells e =
        subst (λ (c : Call). Tells b (next_run b t c) (take n old) (first t r old).outcome.report) least
        (subst (λ (v : Option Answer). MonthReport v b t (first t r old)) (ap (refusal b) least ∙ e) first-settled.report)

  room-first : (rs : List (List ℕ)) (old : List ℕ) (r : List ℕ) → length (r ∷ rs) * n ≤ length old → n ≤ length old
  room-first rs old r h = omega (arith, suc-mul (length rs) n, h)

  room-rest : (rs : List (List ℕ)) (old : List ℕ) (r : List ℕ) → length (r ∷ rs) * n ≤ length old → length rs * n ≤ length (drop n old)
  room-rest rs old r h = omega (arith, suc-mul (length rs) n, length-drop n old, h)

  -- they are refused where the tally refuses them
  calls-refused : (t : Tally) → Possible b (standing b t) → (rs : List (List ℕ)) (old : List ℕ) → length rs * n ≤ length old → (calls_made f rs (tally_board b t) old).refused ≡ first_refusal b (map (least_call b) rs)
  unfolding calls_made first_refusal
  calls-refused t p [] old h = refl
  calls-refused t p (r ∷ rs) old h =
      let o : n ≤ length old = room-first rs old r h in
      let c : Call = least_call b r in
      λ z. or_else (first-refusal t p r old o z)
      ((ap (λ (l : List ℕ). (calls_made f rs l (drop n old)).refused) (first-board t p r old o) ∙ calls-refused (after_call b t c) (call-possible b acc t c p) rs (drop n old) (room-rest rs old r h)) z)

  -- they leave the tally's board
  calls-board : (t : Tally) → Possible b (standing b t) → (rs : List (List ℕ)) (old : List ℕ) → length rs * n ≤ length old → (calls_made f rs (tally_board b t) old).board ≡ tally_board b (after_calls b t (map (least_call b) rs))
  unfolding calls_made after_calls
  calls-board t p [] old h = refl
  calls-board t p (r ∷ rs) old h =
      let o : n ≤ length old = room-first rs old r h in
      let c : Call = least_call b r in
      ap (λ (l : List ℕ). (calls_made f rs l (drop n old)).board) (first-board t p r old o) ∙ calls-board (after_call b t c) (call-possible b acc t c p) rs (drop n old) (room-rest rs old r h)

  -- and where none is refused, each tells the tally's month on its own part of the list
  calls-told : (t : Tally) → Possible b (standing b t) → (rs : List (List ℕ)) (old : List ℕ) → length rs * n ≤ length old → first_refusal b (map (least_call b) rs) ≡ None
      → TellsEach b t (map (least_call b) rs) old (calls_made f rs (tally_board b t) old).reports
  unfolding calls_made first_refusal
  calls-told t p [] old h e = refl
  calls-told t p (r ∷ rs) old h e =
      let o : n ≤ length old = room-first rs old r h in
      let c : Call = least_call b r in
      let mine : List ℕ = (first t r old).outcome.report in
      let rest : List ℕ = (calls_made f rs (first t r old).outcome.board (drop n old)).reports in
      let told : Tells b (next_run b t c) (take n old) mine = first-tells t p r old o (or-first (refusal b c) (first_refusal b (map (least_call b) rs)) e) in
      let long : length mine ≡ n = told.size ∙ length-take-le n old o in
      let later : TellsEach b (after_call b t c) (map (least_call b) rs) (drop n old) (calls_made f rs (tally_board b (after_call b t c)) (drop n old)).reports =
      calls-told (after_call b t c) (call-possible b acc t c p) rs (drop n old) (room-rest rs old r h) (or-second (refusal b c) (first_refusal b (map (least_call b) rs)) e) in (
        subst (λ (l : List ℕ). Tells b (next_run b t c) (take n old) l) (sym (take_at mine rest n long)) told,
        subst (λ (l : List ℕ). TellsEach b (after_call b t c) (map (least_call b) rs) (drop n old) l)
            (ap (λ (l : List ℕ). (calls_made f rs l (drop n old)).reports) (sym (first-board t p r old o)) ∙ sym (drop_at mine rest n long)) later,
      )

  -- ---- the run

  module _ (t : Tally) (p : Possible b (standing b t)) (e : YearCall) where
    abbrev board : List ℕ
    board = tally_board b t

    abbrev y : YearRun
    y = run_in f e

    -- the sheets from the tally's month on
    abbrev left : List (List ℕ)
    left = drop t.carried.m (year_sheets f e.book e.year)

    left-same : sheets_left f e.book e.year board ≡ left
    left-same = ap (λ (m : ℕ). drop m (year_sheets f e.book e.year)) (tally-month b acc t p)

    calls_are : map (least_call b) left ≡ calls_in b t y
    unfolding calls_in
    calls_are = refl

    few-left : length left ≤ 12
    unfolding year_sheets
    few-left = omega (arith, length-drop t.carried.m (year_sheets f e.book e.year), sheets-length (rows b) (year_part f e.book e.year))

    -- room for twelve reports is room for those of the months left
    room-left : room_for_year b (length e.reports) ≡ true → length left * n ≤ length e.reports
    unfolding room_for_year
    room-left h = omega (arith, le_of {m = 12 * n} {n = length e.reports} h, mul-le-mul {n₁ = length left} {m₁ = n} {n₂ = 12} {m₂ = n} few-left (omega arith))

    fits-same : run_fits b board e.reports ≡ room_for_year b (length e.reports)
    unfolding run_fits ◌and◌
    fits-same = rw (tally-length b t)

    abbrev made : Made
    made = calls_made f left board e.reports

    run_refused : year.run_refusal f e.book e.year board e.reports ≡ tally.run_refusal b t y
    unfolding year.run_refusal tally.run_refusal
    run_refused =
        let lists : Option Answer = unless (room_for_year b (length e.reports)) Lists in
        let lent : lent_refusal f (run_fits b board e.reports) board ≡ lists =
        lent-lists f board (run_fits b board e.reports) ok (tally-possible b acc t p) ∙ ap (λ (q : Bool). unless q Lists) fits-same in
        (λ z. or_else (lookup_refusal f e.book e.year) (or_else (lent z) (calls_made f (left-same z) board e.reports).refused))
        ∙ ap (or_else (lookup_refusal f e.book e.year))
        (or_same lists made.refused (first_refusal b (calls_in b t y))
        (λ h. calls-refused t p left e.reports (room-left (unless-none (room_for_year b (length e.reports)) Lists h)) ∙ ap (first_refusal b) calls_are))

    -- where the tally refuses nothing, there is room, and none of the calls is refused
    run_none : tally.run_refusal b t y ≡ None → (room_for_year b (length e.reports) ≡ true) × (first_refusal b (calls_in b t y) ≡ None)
    unfolding tally.run_refusal
    run_none h =
        let lists : Option Answer = unless (room_for_year b (length e.reports)) Lists in
        let rest : or_else lists (first_refusal b (calls_in b t y)) ≡ None = or-second y.lookup (or_else lists (first_refusal b (calls_in b t y))) h in
        (unless-none (room_for_year b (length e.reports)) Lists (or-first lists (first_refusal b (calls_in b t y)) rest), or-second lists (first_refusal b (calls_in b t y)) rest)

    -- once the refusal is settled as v
    record RunSettled (v : Option Answer) : Type 0 where
      answer : e.outcome.answer ≡ run_answer v (length (calls_in b t y))
      report : RunReports v b t (calls_in b t y) e
      board-left : e.outcome.board ≡ tally_board b (after_calls b t (run_counts v (calls_in b t y)))

    count_same : length left ≡ length (calls_in b t y)
    unfolding calls_in
    count_same = sym (length-map left (least_call b))

    settled : (v : Option Answer) → tally.run_refusal b t y ≡ v → e.outcome ≡ run_settled v (length left) made board e.reports → RunSettled v
    unfolding run_settled run_answer run_counts after_calls
    settled None w q =
        let h = run_none w in
        let room : length left * n ≤ length e.reports = room-left h.0 in
        record {
          answer = ap (λ (o : Outcome). o.answer) q ∙ ap (run_answer None) count_same;
          report = subst (λ (l : List ℕ). TellsEach b t (calls_in b t y) e.reports l) (sym (ap (λ (o : Outcome). o.report) q))
              (subst (λ (cs : List Call). TellsEach b t cs e.reports made.reports) calls_are (calls-told t p left e.reports room (ap (first_refusal b) calls_are ∙ h.1)));
          board-left = ap (λ (o : Outcome). o.board) q ∙ calls-board t p left e.reports room ∙ ap (λ (cs : List Call). tally_board b (after_calls b t cs)) calls_are;
        }
    settled (Some a) w q = record { answer = ap (λ (o : Outcome). o.answer) q; report = ap (λ (o : Outcome). o.report) q; board-left = ap (λ (o : Outcome). o.board) q }

    pub follow-year : YearMeets f e.book e.year board e.reports e.outcome → Follows f (tallied t) (year_event e)
    unfolding year_of entry_answer after_entry counts_as
    follow-year m =
        let s : RunSettled (tally.run_refusal b t y) = settled (tally.run_refusal b t y) refl
        (m ∙ (λ z. run_settled (run_refused z) (length (left-same z)) (calls_made f (left-same z) board e.reports) board e.reports)) in
        record { answer = s.answer; report = s.report; board = s.board-left }
