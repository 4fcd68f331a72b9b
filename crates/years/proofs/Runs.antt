-- From the months of a body to the whole run: what is turned down, and what is left. Assumes nothing.
use Rattle.std.specs.Prelude.{Option, None, Some, Ok}
use mathlib.Core.Path.{◌≡◌, refl, sym, ap, ◌∙◌, subst}
use mathlib.Core.Bool.{Bool, true, false}
use mathlib.Core.Logic.{◌≢◌}
use mathlib.Core.List.{List}
use Prim.Native.Nat.{ℕ, ◌-◌, ◌*◌, ◌≤◌, ◌<◌}
use native.Mathlib.Nat.{mul-le-mul}
use native.Mathlib.Omega.{arith}
use lib.Dec.{leb, eqb}
use lib.ListN.{length, drop, length-drop}
use Rattle.general.specs.Tests.{◌and◌}
use Rattle.general.proofs.Loops.{and_no}
use Rattle.general.proofs.Tests.{both_of, eq_of, le_of, eqb_same, eqb-other}
use Rattle.places.specs.Board.{board_length, month_at}
use Rattle.places.specs.Report.{report_end}
use Rattle.rules.specs.Accepted.{Accepted}
use Rattle.rules.specs.declared.Refusal.{Refusal}
use Rattle.rules.specs.Answers.{Verdict, Answer, told as refused_with, or_else}
use Rattle.rules.specs.Basin.{Basin, rows}
use Rattle.rules.specs.Tally.{report_length}
use Rattle.rules.specs.Years.{room_for_year, run_answer}
use Rattle.rules.proofs.Answers.{or-none}
use Rattle.records.specs.Records.{rows_of, reservoir_count, right_count, bodies, basin_of}
use Rattle.records.specs.declared.bodies.Bodies.{Bodies}
use Rattle.records.specs.Bodies.{basin_in, BodiesOf}
use Rattle.records.proofs.Decoded.{file-rows, basin-same, reservoirs-are, rights-are}
use Rattle.records.proofs.Rows.{rows_are}
use Rattle.filecheck.proofs.Accepted.{accepted-in}
use Rattle.filecheck.specs.Check.{check_of}
use Rattle.boards.specs.Board.{possible, judged}
use Rattle.boards.proofs.Bodies.{possible-told}
use Rattle.boards.proofs.Bounds.{month-most}
use Rattle.answers.specs.Answers.{refusal_of, lent_refusal, count_answer}
use Rattle.answers.proofs.Answers.{Clear, lent_none}
use Rattle.answers.proofs.Judged.{lent-judged}
use Rattle.month.specs.Month.{Outcome, outcome_of}
use Rattle.book.specs.Book.{body_size, lookup_refusal, year_part}
use Rattle.years.specs.Years.{sheets_in, year_sheets, sheets_left, Made, calls_made, year_made, run_fits, run_refusal, run_settled, year_of, YearMeets}
use Rattle.years.specs.Runs.{first_over, made_of, CanRead, CanJudge, CanRest, RestRan, CanThrough, WentThrough, body_refusal, BodyMeets}
use Rattle.years.proofs.Sheets.{sheets-length, sheets-wide}
use Rattle.years.proofs.Calls.{CanCall, refused_over, made-months}

-- ---- a run settled

over-is : (v : Option Answer) (k : ℕ) (x : Made) (bd old : List ℕ) (r : Refusal) → Some (refused_with r) ≡ v → outcome_of (refused_with r) bd old ≡ run_settled v k x bd old
unfolding run_settled
over-is v k x bd old r e = rw (← e)

ran-is : (v : Option Answer) (x : Made) (bd old : List ℕ) {k l : ℕ} {bd' old' : List ℕ} → v ≡ None → k ≡ l → bd' ≡ x.board → old' ≡ x.reports
    → run_settled v k x bd old ≡ record { answer = record { number = 0; place = l }; board = bd'; report = old' }
unfolding run_settled run_answer
ran-is v x bd old e n eb eo = rw e (λ z. record { answer = record { number = 0; place = n z }; board = sym eb z; report = sym eo z })

-- of what the calls leave only an accepted run tells
same-made : (v : Option Answer) (k : ℕ) (x y : Made) (bd old : List ℕ) → (v ≡ None → (x.board ≡ y.board) × (x.reports ≡ y.reports)) → run_settled v k x bd old ≡ run_settled v k y bd old
unfolding run_settled
same-made None k x y bd old h = let q = h refl in λ z. record { answer = run_answer None k; board = q.0 z; report = q.1 z }
same-made (Some a) k x y bd old h = refl

-- ---- the months from the board's on

module _ (b : Basin) (body : List ℕ) (told : ℕ) (runoff bd old : List ℕ) (c : CanThrough b body told runoff bd old) where
  pub month-in : month_at bd < 12
  month-in = month-most b bd c.year.can

  pub may_read : CanRead body runoff
  may_read = record { few = omega (arith, c.year.numbers, c.year.accepted.few_rows); bytes = c.year.bytes }

  module _ (m : ℕ) (em : m ≡ month_at bd) where
    abbrev from : List (List ℕ)
    from = drop m (sheets_in (length runoff) body)

    at-month : {o : Outcome} → WentThrough b from bd old o → WentThrough b (drop (month_at bd) (sheets_in (length runoff) body)) bd old o
    at-month {o} w = subst (λ (x : ℕ). WentThrough b (drop x (sheets_in (length runoff) body)) bd old o) em w

    pub over-told : (r : Refusal) → Some (refused_with r) ≡ first_over from → WentThrough b (drop (month_at bd) (sheets_in (length runoff) body)) bd old (outcome_of (refused_with r) bd old)
    over-told r e = at-month (over-is (first_over from) (length from) (made_of b from bd old) bd old r e)

    module _ (none_over : None ≡ first_over from) where
      pub can-rest : (runoff' : List ℕ) → length runoff' ≡ length runoff → CanRest b body m told runoff' bd old
      can-rest runoff' er = record {
        year = record { accepted = c.year.accepted; numbers = er ∙ c.year.numbers; bytes = omega (arith, er, c.year.bytes); can = c.year.can };
        month = omega (arith, em, month-in);
        none_over = ap (λ (x : ℕ). first_over (drop m (sheets_in x body))) er ∙ sym none_over;
        report = c.report;
        room = omega (arith, c.room, mul-le-mul {n₁ = 12 - m} {m₁ = told} {n₂ = 12} {m₂ = told} (omega arith) (omega arith));
      }

      pub run-told : {x : ℕ} (bd' old' : List ℕ) → x ≡ length runoff → RestRan b (drop m (sheets_in x body)) bd old bd' old'
          → WentThrough b (drop (month_at bd) (sheets_in (length runoff) body)) bd old (outcome_of (count_answer (Ok (12 - m))) bd' old')
      run-told {x} bd' old' ex q =
          let q' : RestRan b from bd old bd' old' = subst (λ (y : ℕ). RestRan b (drop m (sheets_in y body)) bd old bd' old') ex q in
          let count : length from ≡ 12 - m = omega (arith, length-drop m (sheets_in (length runoff) body), sheets-length (length runoff) body) in
          at-month (sym (ran-is (first_over from) (made_of b from bd old) bd old (sym none_over) count q'.board-left q'.reports_left))

-- ---- the lists, by the bodies

pub room-bodies : (w : Bodies) (n : ℕ) → leb (12 * report_end (right_count w.rights.now) (rows_of w.stations.now) (reservoir_count w.reservoirs.now)) n ≡ room_for_year (basin_in w) n
unfolding bodies room_for_year
room-bodies w n = rw (reservoirs-are w.reservoirs.now, rows_are w.stations.now, rights-are w.rights.now)

told-bodies : (w : Bodies) → report_end (right_count w.rights.now) (rows_of w.stations.now) (reservoir_count w.reservoirs.now) ≡ report_length (basin_in w)
unfolding bodies
told-bodies w = rw (reservoirs-are w.reservoirs.now, rows_are w.stations.now, rights-are w.rights.now)

-- beside a board that has its length, by the bodies of a file and by the file
pub run-fits-told : (f : List ℕ) (w : Bodies) (board reports : List ℕ) {r : Bool} → BodiesOf f w → length board ≡ board_length → r ≡ room_for_year (basin_in w) (length reports) → r ≡ run_fits (basin_of f) board reports
unfolding run_fits ◌and◌
run-fits-told f w board reports o long h = h ∙ ap (λ (b : Basin). room_for_year b (length reports)) (basin-same f w o)
    ∙ sym (ap (λ (k : ℕ). eqb k board_length and room_for_year (basin_of f) (length reports)) long ∙ ap (λ (t : Bool). t and room_for_year (basin_of f) (length reports)) (eqb_same board_length))

-- a board of another length
pub board-unfit : (b : Basin) (board reports : List ℕ) → length board ≢ board_length → run_fits b board reports ≡ false
unfolding run_fits
board-unfit b board reports n = and_no (room_for_year b (length reports)) (eqb-other (length board) board_length n)

pub run-fits-parts : (b : Basin) (board reports : List ℕ) → run_fits b board reports ≡ true → (length board ≡ board_length) × (12 * report_length b ≤ length reports)
unfolding run_fits room_for_year
run-fits-parts b board reports e = let x = both_of e in (eq_of {m = length board} {n = board_length} x.0, le_of {m = 12 * report_length b} {n = length reports} x.1)

-- ---- the body of an accepted file

module _ (f body bd old : List ℕ) where
  abbrev basin : Basin
  basin = basin_of f

  abbrev fits : Bool
  fits = run_fits basin bd old

  abbrev sheets : List (List ℕ)
  sheets = sheets_in (rows basin) body

  abbrev left : List (List ℕ)
  left = drop (month_at bd) sheets

  pub body-unfit : (r : Refusal) → Some (refused_with r) ≡ lent_refusal f fits bd → BodyMeets f sheets bd old (outcome_of (refused_with r) bd old)
  unfolding body_refusal or_else
  body-unfit r e = over-is (body_refusal f sheets bd old) (length left) (calls_made f left bd old) bd old r (rw (← e))

  -- what is turned down beside an accepted file and a board that has its length
  pub lent-told : (w : Bodies) → BodiesOf f w → check_of f ≡ Ok tt → length bd ≡ board_length → {told : ℕ} {v : Verdict} {board : List ℕ} → board ≡ bd → told ≡ report_end (right_count w.rights.now) (rows_of w.stations.now) (reservoir_count w.reservoirs.now)
      → v ≡ judged (leb (12 * told) (length old)) (possible (basin_in w) board) → refusal_of v ≡ lent_refusal f fits bd
  lent-told w h acc long eb et ev =
      let t = run-fits-told f w bd old h long (ap (λ (x : ℕ). leb (12 * x) (length old)) et ∙ room-bodies w (length old)) in
      lent-judged f fits bd acc (ev ∙ (λ z. judged (t z) (possible-told f w bd h (ap (possible (basin_in w)) eb) z)))

  module _ (k : Clear f fits bd) where
    parts : (length bd ≡ board_length) × (12 * report_length basin ≤ length old)
    parts = run-fits-parts basin bd old k.lists-ok

    pub can-call : CanCall f k.file-ok left bd old
    can-call = record {
      sheets = sheets-wide (rows basin) body (month_at bd);
      size = parts.0;
      can = k.board-ok;
      room = omega (
        arith,
        parts.1,
        mul-le-mul {n₁ = length left} {m₁ = report_length basin} {n₂ = 12} {m₂ = report_length basin} (omega (arith, length-drop (month_at bd) sheets, sheets-length (rows basin) body)) (omega arith),
      );
    }

    body-over : body_refusal f sheets bd old ≡ first_over left
    unfolding body_refusal
    body-over =
        ap (λ (v : Option Answer). or_else v (calls_made f left bd old).refused) (lent_none f fits bd k)
        ∙ or-none (calls_made f left bd old).refused
        ∙ refused_over f k.file-ok left bd old can-call

    body-made : (o : Outcome) → WentThrough basin left bd old o → BodyMeets f sheets bd old o
    body-made o w =
        w
        ∙ same-made (first_over left) (length left) (made_of basin left bd old) (calls_made f left bd old) bd old
        (λ e. let q = made-months f k.file-ok left bd old can-call e in (sym q.0, sym q.1))
        ∙ ap (λ (v : Option Answer). run_settled v (length left) (calls_made f left bd old) bd old) (sym body-over)

    -- by the bodies of the file as the code has them
    module _ (w : Bodies) (h : BodiesOf f w) where
      same : basin_in w ≡ basin
      same = basin-same f w h

      accepted : Accepted (basin_in w)
      accepted = accepted-in f w h k.file-ok

      rows_same : rows_of w.stations.now ≡ rows basin
      rows_same = file-rows f h.stations

      pub can-through : {told n : ℕ} (runoff : List ℕ) → n ≡ rows_of w.stations.now → told ≡ report_end (right_count w.rights.now) (rows_of w.stations.now) (reservoir_count w.reservoirs.now)
          → length runoff ≡ n → length body ≡ body_size (rows basin) → CanThrough (basin_in w) body told runoff bd old
      can-through {told} {n} runoff en et er eb = record {
        year = record {
          accepted = accepted;
          numbers = er ∙ en ∙ rows_same ∙ sym (ap rows same);
          bytes = omega (arith, eb, er, en, rows_same);
          can = ap (λ (x : Basin). possible x bd) same ∙ k.board-ok;
        };
        report = et ∙ told-bodies w;
        room = omega (arith, parts.1, et, told-bodies w, ap report_length same);
      }

      pub body-went : {x n : ℕ} {o : Outcome} → n ≡ rows_of w.stations.now → WentThrough (basin_in w) (drop (month_at bd) (sheets_in x body)) bd old o → x ≡ n → BodyMeets f sheets bd old o
      body-went {x} {n} {o} en r ex =
          body-made o (subst (λ (z : ℕ). WentThrough basin (drop (month_at bd) (sheets_in z body)) bd old o) (ex ∙ en ∙ rows_same)
          (subst (λ (z : Basin). WentThrough z (drop (month_at bd) (sheets_in x body)) bd old o) same r))

-- ---- the year

module _ (f k : List ℕ) (y : ℕ) (bd old : List ℕ) where
  pub year-refused : (r : Refusal) → Some (refused_with r) ≡ lookup_refusal f k y → YearMeets f k y bd old (outcome_of (refused_with r) bd old)
  unfolding year_of run_refusal or_else
  year-refused r e = over-is (run_refusal f k y bd old) (length (sheets_left f k y bd)) (year_made f k y bd old) bd old r (rw (← e))

  run-body : lookup_refusal f k y ≡ None → run_refusal f k y bd old ≡ body_refusal f (year_sheets f k y) bd old
  unfolding run_refusal body_refusal
  run-body e = ap (λ (v : Option Answer). or_else v (body_refusal f (year_sheets f k y) bd old)) e ∙ or-none (body_refusal f (year_sheets f k y) bd old)

  -- the run of a body that is the year's
  pub year-made : (body : List ℕ) (o : Outcome) → body ≡ year_part f k y → lookup_refusal f k y ≡ None → BodyMeets f (sheets_in (rows (basin_of f)) body) bd old o → YearMeets f k y bd old o
  unfolding year_of year_sheets
  year-made body o e n m =
      subst (λ (x : List ℕ). BodyMeets f (sheets_in (rows (basin_of f)) x) bd old o) e m
      ∙ ap (λ (v : Option Answer). run_settled v (length (sheets_left f k y bd)) (year_made f k y bd old) bd old) (sym (run-body n))

  -- ---- judged without a run, on an accepted file and a possible board, for a list that is long enough

  pub judged-missing : (r : Refusal) → Some (refused_with r) ≡ lookup_refusal f k y → Some (refused_with r) ≡ run_refusal f k y bd old
  unfolding run_refusal or_else
  judged-missing r e = rw (← e)

  module _ (j : CanJudge f bd) (size : length bd ≡ board_length) (room : room_for_year (basin_of f) (length old) ≡ true) where
    judge-clear : Clear f (run_fits (basin_of f) bd old) bd
    unfolding run_fits ◌and◌
    judge-clear = record { file-ok = j.accepted; lists-ok = rw (size, room); board-ok = j.can }

    pub judged-found : {n m : ℕ} {x : Option Answer} (body : List ℕ) → body ≡ year_part f k y → lookup_refusal f k y ≡ None → n ≡ rows (basin_of f) → m ≡ month_at bd
        → x ≡ first_over (drop m (sheets_in n body)) → x ≡ run_refusal f k y bd old
    unfolding year_sheets
    judged-found {n} {m} body e none_here en em h =
        h
        ∙ (λ z. first_over (drop (em z) (sheets_in (en z) (e z))))
        ∙ sym (run-body none_here ∙ body-over f (year_part f k y) bd old judge-clear)
