-- Years that are all accepted are listed as their bodies are, one after another. Assumes nothing.
use Rattle.std.specs.Prelude.{Option, None}
use mathlib.Core.Bool.{Bool, true, false, cond}
use mathlib.Core.List.{List, [], ◌∷◌, ◌++◌, append-nil}
use mathlib.Core.Path.{◌≡◌, refl, sym, ap, ◌∙◌, subst}
use Prim.Native.Nat.{ℕ, zero, suc, ◌+◌, ◌*◌, ◌≤◌, ◌<◌}
use native.Mathlib.Nat.{mul-zero}
use native.Mathlib.Numerals.{add-one}
use native.Mathlib.Omega.{arith}
use lib.Dec.{eqb}
use lib.Seq.{take-nil}
use lib.ListN.{length, take, drop, length-drop, drop_of_length-le}
use borrow.Author.Tests.{eq-eqb}
use Rattle.general.proofs.Tests.{absurd-bool, by_eqb, eqb-other}
use Rattle.general.proofs.Loops.{step-within}
use Rattle.places.specs.Board.{month_at}
use Rattle.rules.specs.Answers.{Answer}
use Rattle.rules.specs.Basin.{Basin, rows}
use Rattle.rules.specs.Month.{next_month, month}
use Rattle.rules.specs.Tally.{fresh_carried}
use Rattle.records.specs.Records.{basin_of}
use Rattle.filecheck.proofs.Accepted.{accepted-facts}
use Rattle.boards.specs.Board.{carried_of}
use Rattle.boards.proofs.Board.{month-place}
use Rattle.fresh.specs.Fresh.{fresh_board}
use Rattle.month.specs.Month.{run_of, due_after, board_after}
use Rattle.answers.proofs.Answers.{no-refusal}
use Rattle.book.specs.Book.{year_part}
use Rattle.sheets.specs.Sheets.{sheet_at}
use Rattle.years.specs.Years.{year_sheets, sheets_left}
use Rattle.years.specs.Runs.{first_over}
use Rattle.years.proofs.Sheets.{sheets-from, sheets-end, none_from}
use Rattle.years.proofs.Theorems.{none_over}
use Rattle.listing.specs.Listing.{header}
use Rattle.listing.specs.Run.{sheet_bytes, Standing, Step, sheet_step, step_of, begin}
use Rattle.listing.specs.Steps.{Walk, texts_of, start}
use Rattle.yearly.specs.Years.{sheets_listed, year_step, least_list, year_refusal, next_year, years_text, years_after_header, years_listing, YearsAccepted, bodies_of, YearsAsMonths}
use Rattle.listing.proofs.Steps.{steps-list}
use Rattle.listing.proofs.Blocks.{walk-join, walk-whole, texts-join}
use Rattle.yearly.proofs.Years.{listed_more, sheets_of, from_sheet, next, month-made, year-found}

-- ---- the month at which a board stands

month-after : (b : Basin) (r bd : List ℕ) → month_at (board_after b r bd) ≡ next_month (month_at bd)
unfolding board_after run_of month carried_of
month-after b r bd = month-place b (run_of b r bd).carried (due_after b (run_of b r bd) bd)

month-fresh : (b : Basin) → month_at (fresh_board b) ≡ 0
unfolding fresh_board fresh_carried
month-fresh b = month-place b (fresh_carried b) (λ w k. 0)

-- after twelve months it is October again
abbrev in_year : ℕ → ℕ
in_year k = cond (eqb k 12) 0 k

in-year-other : (k : ℕ) → (k ≡ 12 → ⊥) → in_year k ≡ k
in-year-other k h = rw (eqb-other k 12 h)

in-year-end : (k : ℕ) → k ≡ 12 → in_year k ≡ 0
in-year-end k h = rw (eq-eqb k 12 h)

next-in-year : (k : ℕ) → k < 12 → next_month (in_year k) ≡ in_year (k + 1)
unfolding next_month
next-in-year k h =
    ap next_month (in-year-other k (λ e. omega (arith, e, h)))
    ∙ by_eqb k 11 (λ t. cond t 0 (suc k) ≡ in_year (k + 1)) (λ e. sym (in-year-end (k + 1) (omega (arith, e)))) (λ e. sym (add-one k) ∙ sym (in-year-other (k + 1) (λ q. e (omega (arith, q)))))

-- ---- a year

-- steps on sheets, until the bytes at `end` are left: their texts, how the run stands after them, and that it is October then
record Walked (b : Basin) (s : Standing) (left : List ℕ) (rs : List (List ℕ)) (end : List ℕ) : Type 0 where
  steps : List Step
  walk : Walk b false (record { standing = s; left = left; more = true }) steps (record { standing = (sheets_listed b s rs).standing; left = end; more = true })
  told : texts_of steps ≡ (sheets_listed b s rs).text
  october : month_at (sheets_listed b s rs).standing.board ≡ 0

walked_none : (b : Basin) (s : Standing) (left : List ℕ) → month_at s.board ≡ 0 → Walked b s left [] left
unfolding texts_of sheets_listed
walked_none b s left e = record { steps = []; walk = refl; told = refl; october = e }

walked_more : (b : Basin) (s : Standing) (left : List ℕ) (r : List ℕ) (rs : List (List ℕ)) (end : List ℕ) → sheet_bytes b ≤ length left → sheet_step None b s r ≡ step_of b s (take (sheet_bytes b) left)
    → Walked b (sheet_step None b s r).standing (drop (sheet_bytes b) left) rs end → Walked b s left (r ∷ rs) end
unfolding texts_of sheets_listed sheet_step
walked_more b s left r rs end h e w = record {
  steps = sheet_step None b s r ∷ w.steps;
  walk = (record { going = refl; whole = λ _. h; meets = e }, w.walk);
  told = ap (λ (l : List ℕ). (sheet_step None b s r).text ++ l) w.told;
  october = w.october;
}

module _ (b : Basin) (body : List ℕ) (row : 0 < rows b) (whole : length body ≡ 12 * sheet_bytes b) where
  walk-year : (j k : ℕ) (s : Standing) → k + j ≡ 12 → month_at s.board ≡ in_year k → first_over (drop k (sheets_of b body)) ≡ None
      → Walked b s (from_sheet b body k) (drop k (sheets_of b body)) (from_sheet b body 12)
  unfolding sheet_step
  walk-year zero k s e m n =
      let at-end : k ≡ 12 = omega arith in
      subst (λ (x : ℕ). Walked b s (from_sheet b body k) (drop k (sheets_of b body)) (from_sheet b body x)) at-end
      (subst (λ (rs : List (List ℕ)). Walked b s (from_sheet b body k) rs (from_sheet b body k)) (sym (sheets-end (rows b) body k (omega arith))) (walked_none b s (from_sheet b body k) (m ∙ in-year-end k at-end)))
  walk-year (suc j) k s e m n =
      let h : k < 12 = omega arith in
      let clear = none_from (rows b) body k h n in
      let r : List ℕ = sheet_at (rows b) body k in
      let o : Step = sheet_step None b s r in
      let later = walk-year j (k + 1) o.standing (omega arith) (month-after b r s.board ∙ ap next_month m ∙ next-in-year k h) clear.1 in
      subst (λ (rs : List (List ℕ)). Walked b s (from_sheet b body k) rs (from_sheet b body 12)) (sym (sheets-from (rows b) body k h))
      (walked_more b s (from_sheet b body k) r (drop (k + 1) (sheets_of b body)) (from_sheet b body 12) (room k h) (sym (month-made b body row whole k s h clear.0))
      (subst (λ (l : List ℕ). Walked b o.standing l (drop (k + 1) (sheets_of b body)) (from_sheet b body 12)) (sym (next b body row whole k)) later))
    where
      room : (i : ℕ) → i < 12 → sheet_bytes b ≤ length (from_sheet b body i)
      room i l = omega (arith, step-within (sheet_bytes b) 12 i l, length-drop (sheet_bytes b * i) body, whole)

  -- all twelve sheets
  walk-body : (s : Standing) → month_at s.board ≡ 0 → first_over (sheets_of b body) ≡ None → Walked b s body (sheets_of b body) []
  walk-body s m n =
      let none_left : from_sheet b body 12 ≡ [] = drop_of_length-le body {i = sheet_bytes b * 12} (omega (arith, whole)) in
      let all : from_sheet b body 0 ≡ body = ap (λ (x : ℕ). drop x body) (mul-zero (sheet_bytes b)) in
      subst (λ (l : List ℕ). Walked b s l (sheets_of b body) []) all (subst (λ (l : List ℕ). Walked b s (from_sheet b body 0) (sheets_of b body) l) none_left (walk-year 12 0 s (omega arith) m n))

module _ (f book : List ℕ) (s : Standing) (y : ℕ) (e : year_refusal f book s y ≡ None) where
  abbrev listed : Step
  listed = sheets_listed (basin_of f) s (sheets_left f book y s.board)

  next-is : next_year f book s y ≡ listed
  unfolding next_year year_step
  next-is = ap (λ (v : Option Answer). year_step v (basin_of f) s (sheets_left f book y s.board)) e

  year-walked : month_at s.board ≡ 0 → Walked (basin_of f) s (year_part f book y) (sheets_left f book y s.board) []
  unfolding year_sheets
  year-walked m =
      let all : sheets_left f book y s.board ≡ sheets_of (basin_of f) (year_part f book y) = ap (λ (k : ℕ). drop k (sheets_of (basin_of f) (year_part f book y))) m in
      let found = year-found f book s y e in
      subst (λ (rs : List (List ℕ)). Walked (basin_of f) s (year_part f book y) rs []) (sym all)
      (walk-body (basin_of f) (year_part f book y) (accepted-facts f found.file).connected.some_row found.size s m (sym (ap first_over all) ∙ none_over f book y s.board (least_list (basin_of f)) e))

-- ---- year after year

module _ (f book : List ℕ) where
  record YearsWalked (s : Standing) (ys : List ℕ) : Type 0 where
    steps : List Step
    after : Standing
    walk : Walk (basin_of f) true (record { standing = s; left = bodies_of f book ys; more = true }) steps (record { standing = after; left = []; more = true })
    told : texts_of steps ≡ years_text f book s ys

  going_on : (t : Bool) (s : Standing) (ys : List ℕ) → t ≡ true → years_text f book s ys ≡ elim t [ true ↦ years_text f book s ys | false ↦ [] ]
  going_on true s ys e = refl
  going_on false s ys e = absurd-bool e refl

  years-walked : (ys : List ℕ) (s : Standing) → month_at s.board ≡ 0 → YearsAccepted f book s ys → YearsWalked s ys
  unfolding texts_of years_text bodies_of
  years-walked [] s m acc = record { steps = []; after = s; walk = refl; told = refl }
  years-walked (y ∷ ys) s m acc =
      let x : Step = listed f book s y acc.0 in
      let e : next_year f book s y ≡ x = next-is f book s y acc.0 in
      let here = year-walked f book s y acc.0 m in
      let later = years-walked ys x.standing here.october (subst (λ (t : Step). YearsAccepted f book t.standing ys) e acc.1) in
      record {
        steps = here.steps ++ later.steps;
        after = later.after;
        walk = walk-join (basin_of f) true (record { standing = s; left = year_part f book y ++ bodies_of f book ys; more = true }) (record { standing = x.standing; left = bodies_of f book ys; more = true })
            (record { standing = later.after; left = []; more = true }) here.steps later.steps
            (walk-whole (basin_of f) (bodies_of f book ys) true (record { standing = s; left = year_part f book y; more = true }) (record { standing = x.standing; left = []; more = true }) here.steps here.walk) later.walk;
        told =
            texts-join here.steps later.steps
            ∙ (λ z. here.told z ++ later.told z)
            ∙ ap (λ (l : List ℕ). x.text ++ l) (going_on x.more x.standing ys (listed_more (basin_of f) s (sheets_left f book y s.board)))
            ∙ sym (ap (λ (t : Step). t.text ++ elim t.more [ true ↦ years_text f book t.standing ys | false ↦ [] ]) e);
      }

-- ---- the listing

module _ (f book ys : List ℕ) (w : YearsWalked f book (begin (basin_of f)) ys) where
  -- where the file is at its end
  abbrev last : Step
  last = record { text = []; standing = w.after; more = false }

  ended : Walk (basin_of f) true (start f (bodies_of f book ys)) (w.steps ++ (last ∷ [])) (record { standing = w.after; left = drop (sheet_bytes (basin_of f)) []; more = false })
  unfolding step_of
  ended = walk-join (basin_of f) true (start f (bodies_of f book ys)) (record { standing = w.after; left = []; more = true }) (record { standing = w.after; left = drop (sheet_bytes (basin_of f)) []; more = false })
      w.steps (last ∷ []) w.walk (record { going = refl; whole = λ z. absurd-bool refl z; meets = sym (ap (step_of (basin_of f) w.after) (take-nil (sheet_bytes (basin_of f)))) }, refl)

  all_told : texts_of (w.steps ++ (last ∷ [])) ≡ years_text f book (begin (basin_of f)) ys
  unfolding texts_of
  all_told = texts-join w.steps (last ∷ []) ∙ append-nil (texts_of w.steps) ∙ w.told

pub years-as-months : YearsAsMonths
unfolding years_listing years_after_header begin
years-as-months f book ys acc all =
    let w = years-walked f book ys (begin (basin_of f)) (month-fresh (basin_of f)) all in
    rw (no-refusal f acc) (ap (λ (l : List ℕ). header ++ l) (sym (all_told f book ys w)) ∙ steps-list f (bodies_of f book ys) acc _ _ (ended f book ys w) refl)
