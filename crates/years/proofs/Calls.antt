-- The month calls of a year: on an accepted file and a possible board, with room for their reports, they are refused just where a sheet is over its limit, and
-- where none is they leave what the months leave. Assumes nothing.
use Rattle.std.specs.Prelude.{Option, None, Some, Ok}
use mathlib.Core.Path.{◌≡◌, refl, ap, ◌∙◌}
use mathlib.Core.Bool.{true}
use mathlib.Core.List.{List, [], ◌∷◌, ◌++◌}
use Prim.Native.Nat.{ℕ, ◌*◌, ◌≤◌}
use native.Mathlib.Nat.{suc-mul}
use native.Mathlib.Omega.{arith}
use lib.ListN.{length, take, drop, length-drop}
use lib.Seq.{length-take-le}
use Rattle.general.specs.Tables.{All}
use Rattle.general.specs.Tests.{◌and◌}
use Rattle.general.proofs.Tests.{leb_yes, eqb_same}
use Rattle.places.specs.Board.{board_length}
use Rattle.rules.specs.Answers.{Answer, or_else}
use Rattle.rules.specs.Basin.{Basin, rows}
use Rattle.rules.specs.Tally.{report_length, lists_fit, over_limit, over_answer}
use Rattle.rules.proofs.Answers.{or-first, or-second, or-none}
use Rattle.records.specs.Records.{basin_of}
use Rattle.filecheck.specs.Check.{check_of}
use Rattle.filecheck.proofs.Accepted.{accepted-facts}
use Rattle.boards.specs.Board.{possible}
use Rattle.boards.specs.Report.{report_of}
use Rattle.answers.proofs.Answers.{lent_none}
use Rattle.month.specs.Month.{all_fit, month_refusal, run_of, board_after, Outcome, month_settled, month_of}
use Rattle.month.proofs.Going.{still-possible}
use Rattle.years.specs.Years.{calls_made}
use Rattle.years.specs.Runs.{first_over, boards_after, reports_of}
use Rattle.years.proofs.Rest.{after-size}

all-fit : (b : Basin) (r bd rp : List ℕ) → length r ≡ rows b → report_length b ≤ length rp → length bd ≡ board_length → all_fit b r bd rp ≡ true
unfolding all_fit lists_fit ◌and◌
all-fit b r bd rp er ep eb = rw (er, eqb_same (rows b), leb_yes (report_length b) (length rp) ep, eb)

settled-size : (v : Option Answer) (b : Basin) (r bd rp : List ℕ) → length bd ≡ board_length → length (month_settled v b r bd rp).board ≡ board_length
unfolding month_settled
settled-size None b r bd rp e = after-size b r bd
settled-size (Some a) b r bd rp e = e

settled-month : (b : Basin) (r bd rp : List ℕ) (v : Option Answer) → v ≡ None → ((month_settled v b r bd rp).board ≡ board_after b r bd) × ((month_settled v b r bd rp).report ≡ report_of b (run_of b r bd) rp)
unfolding month_settled
settled-month b r bd rp None e = (refl, refl)
settled-month b r bd rp (Some a) e = absurd (let z : ◌≡◌ {A = ℕ} 0 1 = cc in omega arith)

module _ (f : List ℕ) (acc : check_of f ≡ Ok tt) where
  abbrev basin : Basin
  basin = basin_of f

  -- ---- one call

  -- lent what fits it, on a possible board
  pub record Lent (r bd rp : List ℕ) : Type 0 where
    pub sheet : length r ≡ rows basin
    pub size : length bd ≡ board_length
    pub can : possible basin bd ≡ true
    pub room : report_length basin ≤ length rp

  module _ (r bd rp : List ℕ) (h : Lent r bd rp) where
    runoff-alone : month_refusal f r bd rp ≡ over_answer (over_limit r)
    unfolding month_refusal
    runoff-alone =
        ap (λ (v : Option Answer). or_else v (over_answer (over_limit r))) (lent_none f (all_fit basin r bd rp) bd (record { file-ok = acc; lists-ok = all-fit basin r bd rp h.sheet h.room h.size; board-ok = h.can }))
        ∙ or-none (over_answer (over_limit r))

    is-settled : month_of f r bd rp ≡ month_settled (over_answer (over_limit r)) basin r bd rp
    unfolding month_of
    is-settled = ap (λ (v : Option Answer). month_settled v basin r bd rp) runoff-alone

    pub next-size : length (month_of f r bd rp).board ≡ board_length
    next-size = ap (λ (o : Outcome). length o.board) is-settled ∙ settled-size (over_answer (over_limit r)) basin r bd rp h.size

    pub next-can : possible basin (month_of f r bd rp).board ≡ true
    next-can = still-possible basin (accepted-facts f acc) r bd rp h.can (month_of f r bd rp) is-settled

    module _ (e : over_answer (over_limit r) ≡ None) where
      pub next-board : (month_of f r bd rp).board ≡ board_after basin r bd
      next-board = ap (λ (o : Outcome). o.board) is-settled ∙ (settled-month basin r bd rp (over_answer (over_limit r)) e).0

      next-report : (month_of f r bd rp).report ≡ report_of basin (run_of basin r bd) rp
      next-report = ap (λ (o : Outcome). o.report) is-settled ∙ (settled-month basin r bd rp (over_answer (over_limit r)) e).1

  -- ---- call after call

  pub record CanCall (rs : List (List ℕ)) (bd old : List ℕ) : Type 0 where
    pub sheets : All (λ (r : List ℕ). length r ≡ rows basin) rs
    pub size : length bd ≡ board_length
    pub can : possible basin bd ≡ true
    pub room : length rs * report_length basin ≤ length old

  module _ (r : List ℕ) (rs : List (List ℕ)) (bd old : List ℕ) (c : CanCall (r ∷ rs) bd old) where
    abbrev n : ℕ
    n = report_length basin

    fits : n ≤ length old
    fits = omega (arith, suc-mul (length rs) n, c.room)

    lent : Lent r bd (take n old)
    lent = record { sheet = c.sheets.0; size = c.size; can = c.can; room = omega (arith, length-take-le n old fits) }

    then : CanCall rs (month_of f r bd (take n old)).board (drop n old)
    then = record {
      sheets = c.sheets.1;
      size = next-size r bd (take n old) lent;
      can = next-can r bd (take n old) lent;
      room = omega (arith, suc-mul (length rs) n, length-drop n old, c.room);
    }

  -- they are refused where a sheet is over its limit
  pub refused_over : (rs : List (List ℕ)) (bd old : List ℕ) → CanCall rs bd old → (calls_made f rs bd old).refused ≡ first_over rs
  unfolding calls_made first_over
  refused_over [] bd old c = refl
  refused_over (r ∷ rs) bd old c =
      λ z. or_else (runoff-alone r bd (take (report_length basin) old) (lent r rs bd old c) z)
      (refused_over rs (month_of f r bd (take (report_length basin) old)).board (drop (report_length basin) old) (then r rs bd old c) z)

  -- where none is they leave the months' board and reports
  pub made-months : (rs : List (List ℕ)) (bd old : List ℕ) → CanCall rs bd old → first_over rs ≡ None
      → ((calls_made f rs bd old).board ≡ boards_after basin rs bd) × ((calls_made f rs bd old).reports ≡ reports_of basin rs bd old)
  unfolding calls_made first_over boards_after reports_of
  made-months [] bd old c e = (refl, refl)
  made-months (r ∷ rs) bd old c e =
      let rp : List ℕ = take (report_length basin) old in
      let bd' : List ℕ = (month_of f r bd rp).board in
      let first : over_answer (over_limit r) ≡ None = or-first (over_answer (over_limit r)) (first_over rs) e in
      let eb : bd' ≡ board_after basin r bd = next-board r bd rp (lent r rs bd old c) first in
      let er : (month_of f r bd rp).report ≡ report_of basin (run_of basin r bd) rp = next-report r bd rp (lent r rs bd old c) first in
      let later = made-months rs bd' (drop (report_length basin) old) (then r rs bd old c) (or-second (over_answer (over_limit r)) (first_over rs) e) in
      (later.0 ∙ ap (boards_after basin rs) eb, (λ z. er z ++ later.1 z) ∙ (λ z. report_of basin (run_of basin r bd) rp ++ reports_of basin rs (eb z) (drop (report_length basin) old)))
