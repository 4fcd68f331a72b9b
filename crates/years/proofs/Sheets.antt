-- The sheets of a year's body, and the first of them that is over its limit. Assumes nothing.
use Rattle.std.specs.Prelude.{Option, None, Some}
use mathlib.Core.Path.{◌≡◌, refl, sym, ap, ◌∙◌}
use mathlib.Core.List.{List, [], ◌∷◌}
use Prim.Native.Nat.{ℕ, zero, suc, ◌+◌, ◌≤◌, ◌<◌}
use native.Mathlib.Numerals.{add-one}
use native.Mathlib.Omega.{arith}
use lib.ListN.{length, get_or, drop, drop_of_length-le}
use lib.Seq.{drop-cons}
use Rattle.general.specs.Tables.{All}
use Rattle.general.proofs.Entries.{all-tab}
use Rattle.general.proofs.Tables.{tab-length, tab-at}
use Rattle.rules.specs.declared.Refusal.{Refusal}
use Rattle.rules.specs.Answers.{Answer, told, or_else}
use Rattle.rules.specs.Tally.{over_limit, over_answer}
use Rattle.rules.proofs.Answers.{or-first, or-second}
use Rattle.sheets.specs.Sheets.{sheet_part, sheet_at}
use Rattle.sheets.proofs.Sheets.{sheet-length}
use Rattle.answers.specs.Answers.{settled}
use Rattle.month.proofs.Settling.{over-none}
use Rattle.book.specs.Book.{body_size}
use Rattle.years.specs.Years.{sheets_in}
use Rattle.years.specs.Runs.{first_over, CanRead}

-- twelve sheets lie in a body
pub read_by : {body runoff : List ℕ} (n : ℕ) → length runoff ≡ n → n ≤ 64 → length body ≡ body_size n → CanRead body runoff
read_by n e h b = record { few = omega (arith, e, h); bytes = omega (arith, e, b) }

-- the bytes from a place to a sheet's end are the sheet's
all_drop : {A : Type 0} (P : A → Type 0) (k : ℕ) (l : List A) → All P l → All P (drop k l)
all_drop P zero l h = h
all_drop P (suc k) [] h = tt
all_drop P (suc k) (x ∷ l) h = all_drop P k l h.1

module _ (n : ℕ) (body : List ℕ) where
  pub sheets-length : length (sheets_in n body) ≡ 12
  unfolding sheets_in
  sheets-length = tab-length (sheet_at n body) 12

  sheets-at : (k : ℕ) → k < 12 → get_or (sheets_in n body) k [] ≡ sheet_at n body k
  unfolding sheets_in
  sheets-at k h = tab-at (sheet_at n body) 12 k [] h

  pub sheets-from : (k : ℕ) → k < 12 → drop k (sheets_in n body) ≡ sheet_at n body k ∷ drop (k + 1) (sheets_in n body)
  sheets-from k h = drop-cons (sheets_in n body) k [] (omega (arith, sheets-length)) ∙ (λ z. sheets-at k h z ∷ drop (sym (add-one k) z) (sheets_in n body))

  pub sheets-end : (k : ℕ) → 12 ≤ k → drop k (sheets_in n body) ≡ []
  sheets-end k h = drop_of_length-le (sheets_in n body) {i = k} (omega (arith, sheets-length))

  -- each has a number to a station
  pub sheets-wide : (k : ℕ) → All (λ (r : List ℕ). length r ≡ n) (drop k (sheets_in n body))
  unfolding sheets_in
  sheets-wide k = all_drop (λ (r : List ℕ). length r ≡ n) k (sheets_in n body) (all-tab (λ (r : List ℕ). length r ≡ n) 12 (sheet_at n body) (λ i h. sheet-length n (sheet_part n body i)))

  -- ---- the first over its limit, from sheet k on

  abbrev pub over_in : ℕ → Option Answer
  over_in k = first_over (drop k (sheets_in n body))

  abbrev over_at : ℕ → Option Answer
  over_at k = over_answer (over_limit (sheet_at n body k))

  over-from : (k : ℕ) → k < 12 → over_in k ≡ or_else (over_at k) (over_in (k + 1))
  unfolding first_over
  over-from k h = ap first_over (sheets-from k h)

  pub over-here : (k : ℕ) (r : Refusal) → k < 12 → Some (told r) ≡ over_at k → Some (told r) ≡ over_in k
  unfolding or_else
  over-here k r h e = sym (over-from k h ∙ rw (← e))

  pub over-next : (k : ℕ) → k < 12 → None ≡ over_at k → over_in (k + 1) ≡ over_in k
  unfolding or_else
  over-next k h e = sym (over-from k h ∙ rw (← e))

  pub over-end : (k : ℕ) → 12 ≤ k → None ≡ over_in k
  unfolding first_over
  over-end k h = sym (ap first_over (sheets-end k h))

  -- none over from k on: none in sheet k, none after it
  pub none_from : (k : ℕ) → k < 12 → over_in k ≡ None → (over_limit (sheet_at n body k) ≡ None) × (over_in (k + 1) ≡ None)
  none_from k h e =
      let both : or_else (over_at k) (over_in (k + 1)) ≡ None = sym (over-from k h) ∙ e in
      (over-none (over_limit (sheet_at n body k)) (or-first (over_at k) (over_in (k + 1)) both), or-second (over_at k) (over_in (k + 1)) both)

clear_or : (o : Option ℕ) (later : Option Answer) → ((settled later).number ≡ 0 → later ≡ None) → (settled (or_else (over_answer o) later)).number ≡ 0 → or_else (over_answer o) later ≡ None
unfolding or_else over_answer settled
clear_or None later h q = h q
clear_or (Some i) later h q = absurd (omega (arith, q))

-- number 0 says that no sheet is over its limit
pub clear_first : (rs : List (List ℕ)) → (settled (first_over rs)).number ≡ 0 → first_over rs ≡ None
unfolding first_over
clear_first [] e = refl
clear_first (r ∷ rs) e = clear_or (over_limit r) (first_over rs) (clear_first rs) e
