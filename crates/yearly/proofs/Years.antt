-- The texts of a program's steps, year by year, are the listing of the years. Assumes nothing.
use Rattle.std.specs.Prelude.{Option, None, Some}
use mathlib.Core.Bool.{Bool, true, false}
use mathlib.Core.List.{List, [], ◌∷◌, ◌++◌}
use mathlib.Core.Path.{◌≡◌, refl, sym, ap, ◌∙◌, subst}
use Prim.Native.Nat.{ℕ, ◌+◌, ◌*◌, ◌≤◌, ◌<◌}
use lib.Dec.{ltb}
use native.Mathlib.Nat.{mul-le-mul, mul-suc}
use native.Mathlib.Numerals.{add-one}
use native.Mathlib.Omega.{arith}
use lib.ListN.{length, take, drop, length-drop}
use lib.Seq.{length-take-le, drop-drop}
use Rattle.general.proofs.Tests.{lt_of, not-lt-of}
use Rattle.general.proofs.Loops.{step-within}
use Rattle.places.specs.Board.{month_at}
use Rattle.rules.specs.Answers.{Answer}
use Rattle.rules.specs.Basin.{Basin, rows}
use Rattle.rules.specs.Tally.{over_limit, over_answer}
use Rattle.rules.proofs.Answers.{or-first}
use Rattle.records.specs.Records.{basin_of}
use Rattle.filecheck.proofs.Accepted.{accepted-facts}
use Rattle.answers.proofs.Answers.{no-refusal}
use Rattle.sheets.specs.Sheets.{sheet_at}
use Rattle.book.specs.Book.{lookup_refusal, year_part}
use Rattle.book.proofs.LookUp.{Found, found_none}
use Rattle.years.specs.Years.{sheets_in, year_sheets, sheets_left, run_refusal}
use Rattle.years.specs.Runs.{first_over}
use Rattle.years.proofs.Sheets.{sheets-from, sheets-end, none_from}
use Rattle.years.proofs.Theorems.{none_over}
use Rattle.listing.specs.Listing.{header}
use Rattle.listing.specs.Run.{sheet_bytes, Standing, Step, sheet_step, step_of, begin}
use Rattle.listing.specs.Steps.{Place, Walk, texts_of, steps_of}
use Rattle.yearly.specs.Years.{sheets_listed, year_step, least_list, year_refusal, next_year, years_text, years_after_header, years_listing, SheetsCalled, YearMade, part_left, Later, YearsMade, YearsList, RefusalListsYears}
use Rattle.listing.proofs.Steps.{step-some, whole-refusal}
use Rattle.listing.proofs.Blocks.{calls-on}

-- ---- the sheets of a body, one after another

pub listed_more : (b : Basin) (s : Standing) (rs : List (List ℕ)) → (sheets_listed b s rs).more ≡ true
unfolding sheets_listed
listed_more b s [] = refl
listed_more b s (r ∷ rs) = refl

abbrev pub sheets_of : Basin → List ℕ → List (List ℕ)
sheets_of b body = sheets_in (rows b) body

-- what is left of the body from sheet k on
abbrev pub from_sheet : Basin → List ℕ → ℕ → List ℕ
from_sheet b body k = drop (sheet_bytes b * k) body

module _ (b : Basin) (body : List ℕ) (row : 0 < rows b) (whole : length body ≡ 12 * sheet_bytes b) where
  -- where a sheet is left, there is one more of the twelve
  in_body : (k : ℕ) → sheet_bytes b ≤ length (from_sheet b body k) → k < 12
  in_body k h = go (ltb k 12) refl
    where
      go : (t : Bool) → ltb k 12 ≡ t → k < 12
      go true e = lt_of {m = k} {n = 12} e
      go false e =
          let past : sheet_bytes b * 12 ≤ sheet_bytes b * k = mul-le-mul {n₁ = sheet_bytes b} {m₁ = 12} {n₂ = sheet_bytes b} {m₂ = k} (omega arith) (not-lt-of {m = k} {n = 12} e) in
          absurd (omega (arith, past, row, h, whole, length-drop (sheet_bytes b * k) body))

  -- and where less is left, there is none
  at-end : (k : ℕ) → length (from_sheet b body k) < sheet_bytes b → 12 ≤ k
  at-end k h = go (ltb k 12) refl
    where
      go : (t : Bool) → ltb k 12 ≡ t → 12 ≤ k
      go true e = absurd (omega (arith, step-within (sheet_bytes b) 12 k (lt_of {m = k} {n = 12} e), h, whole, length-drop (sheet_bytes b * k) body))
      go false e = not-lt-of {m = k} {n = 12} e

  pub sheet-long : (k : ℕ) → k < 12 → length (take (sheet_bytes b) (from_sheet b body k)) ≡ sheet_bytes b
  sheet-long k h = length-take-le (sheet_bytes b) (from_sheet b body k) (omega (arith, length-drop (sheet_bytes b * k) body, step-within (sheet_bytes b) 12 k h, whole))

  pub next : (k : ℕ) → drop (sheet_bytes b) (from_sheet b body k) ≡ from_sheet b body (k + 1)
  next k = drop-drop (sheet_bytes b) (sheet_bytes b * k) body ∙ ap (λ (x : ℕ). drop x body) (sym (mul-suc (sheet_bytes b) k)) ∙ ap (from_sheet b body) (sym (add-one k))

  -- the step that sheet k makes, where it is within its limit
  pub month-made : (k : ℕ) (s : Standing) → k < 12 → over_limit (sheet_at (rows b) body k) ≡ None → step_of b s (take (sheet_bytes b) (from_sheet b body k)) ≡ sheet_step None b s (sheet_at (rows b) body k)
  unfolding over_answer
  month-made k s h e =
      step-some b s (take (sheet_bytes b) (from_sheet b body k)) (omega (arith, sheet-long k h, row))
      ∙ ap (λ (v : Option Answer). sheet_step v b s (sheet_at (rows b) body k)) (whole-refusal b (take (sheet_bytes b) (from_sheet b body k)) (sheet-long k h) ∙ ap over_answer e)

  -- steps from sheet k on, each lent a whole sheet, until none is left
  walked : (os : List Step) (k : ℕ) (s : Standing) (to : Place) → first_over (drop k (sheets_of b body)) ≡ None → Walk b false (record { standing = s; left = from_sheet b body k; more = true }) os to
      → length to.left < sheet_bytes b → record { text = texts_of os; standing = to.standing; more = to.more } ≡ sheets_listed b s (drop k (sheets_of b body))
  unfolding texts_of sheets_listed sheet_step
  walked [] k s to e w l =
      let over : 12 ≤ k = at-end k (subst (λ (p : Place). length p.left < sheet_bytes b) (sym w) l) in
      (λ z. record { text = []; standing = (sym w z).standing; more = (sym w z).more }) ∙ sym (ap (sheets_listed b s) (sheets-end (rows b) body k over))
  walked (o ∷ os) k s to e w l =
      let h : k < 12 = in_body k (w.0.whole refl) in
      let none_over = none_from (rows b) body k h e in
      let r : List ℕ = sheet_at (rows b) body k in
      let m : Step = sheet_step None b s r in
      let eo : o ≡ m = w.0.meets ∙ month-made k s h none_over.0 in
      let ih = walked os (k + 1) m.standing to none_over.1 (subst (λ (p : Place). Walk b false p os to) (λ z. record { standing = (eo z).standing; left = next k z; more = (eo z).more }) w.1) l in
      (λ z. record { text = (eo z).text ++ (ih z).text; standing = (ih z).standing; more = (ih z).more })
      ∙ (λ z. record { text = m.text ++ (sheets_listed b m.standing (drop (k + 1) (sheets_of b body))).text; standing = (sheets_listed b m.standing (drop (k + 1) (sheets_of b body))).standing; more = listed_more b m.standing (drop (k + 1) (sheets_of b body)) z })
      ∙ sym (ap (sheets_listed b s) (sheets-from (rows b) body k h))

-- ---- a year

module _ (f book : List ℕ) (s : Standing) (y : ℕ) where
  pub year-found : year_refusal f book s y ≡ None → Found f book y
  unfolding run_refusal
  year-found e = found_none f book y (or-first (lookup_refusal f book y) _ e)

  year-listed : year_refusal f book s y ≡ None → (o : Step) → SheetsCalled (basin_of f) s (part_left f book y s.board) o → o ≡ sheets_listed (basin_of f) s (sheets_left f book y s.board)
  unfolding year_sheets
  year-listed e o c =
      c.told
      ∙ walked (basin_of f) (year_part f book y) (accepted-facts f (year-found e).file).connected.some_row (year-found e).size (steps_of c.calls) (month_at s.board) s c.to
      (none_over f book y s.board (least_list (basin_of f)) e) (calls-on (basin_of f) c.calls _ c.to c.on c.made) c.used

  year-told : (v : Option Answer) → year_refusal f book s y ≡ v → (o : Step) → YearMade v (basin_of f) s (part_left f book y s.board) o → o ≡ year_step v (basin_of f) s (sheets_left f book y s.board)
  unfolding year_step
  year-told None e o m = year-listed e o m
  year-told (Some a) e o m = m

  year-is : (o : Step) → YearMade (year_refusal f book s y) (basin_of f) s (part_left f book y s.board) o → o ≡ next_year f book s y
  unfolding next_year
  year-is o m = year-told (year_refusal f book s y) refl o m

-- ---- year after year

module _ (f book : List ℕ) where
  on : (t : Bool) (s : Standing) (ys : List ℕ) (os : List Step) → (YearsMade f book s ys os → texts_of os ≡ years_text f book s ys) → Later t os (YearsMade f book s ys os)
      → texts_of os ≡ elim t [ true ↦ years_text f book s ys | false ↦ [] ]
  unfolding texts_of
  on true s ys os ih w = ih w
  on false s ys os ih w = ap texts_of w

  years-told : (ys : List ℕ) (s : Standing) (os : List Step) → YearsMade f book s ys os → texts_of os ≡ years_text f book s ys
  unfolding texts_of years_text
  years-told [] s os w = ap texts_of w
  years-told (y ∷ ys) s [] w = absurd w
  years-told (y ∷ ys) s (o ∷ os) w =
      let t : Step = next_year f book s y in
      let e : o ≡ t = year-is f book s y o w.0 in
      let r = on t.more t.standing ys os (years-told ys t.standing os) (subst (λ (x : Step). Later x.more os (YearsMade f book x.standing ys os)) e w.1) in
      λ z. (e z).text ++ r z

pub years-list : YearsList
unfolding years_listing years_after_header
years-list f book ys acc os w = ap (λ (l : List ℕ). header ++ l) (years-told f book ys (begin (basin_of f)) os w) ∙ rw (no-refusal f acc)

pub refusal-lists-years : RefusalListsYears
unfolding years_listing years_after_header
refusal-lists-years f book ys a e = rw e
