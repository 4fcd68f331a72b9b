-- A list of month calls and year runs counts as a list of month calls. Assumes nothing.
use mathlib.Core.Path.{◌≡◌, refl, sym, ap, ◌∙◌, subst}
use mathlib.Core.List.{List, [], ◌∷◌, ◌++◌, map}
use lib.ListN.{drop}
use Rattle.rules.specs.declared.Refusal.TheVariants.{Lists}
use Rattle.rules.specs.Answers.{or_else, unless}
use Rattle.rules.specs.Basin.{Basin}
use Rattle.rules.specs.Month.{Carried}
use Rattle.rules.specs.Tally.{Call, Tally, begun, standing, after_call, after_calls}
use Rattle.rules.specs.Years.{YearRun, least_call, calls_in, room_for_year, first_refusal, run_refusal, run_counts, Entry, monthly, yearly, counts_as, after_entry, after_entries, all_calls}
use Rattle.rules.specs.Theorems.{SameStanding}
use Rattle.rules.proofs.Resumed.{same-calls, begun-there}

calls-append : (b : Basin) (t : Tally) (cs ds : List Call) → after_calls b t (cs ++ ds) ≡ after_calls b (after_calls b t cs) ds
unfolding after_calls
calls-append b t [] ds = refl
calls-append b t (c ∷ cs) ds = calls-append b (after_call b t c) cs ds

pub entries-calls : (b : Basin) (t : Tally) (xs : List Entry) → after_entries b t xs ≡ after_calls b t (all_calls b t xs)
unfolding after_entries all_calls after_entry after_calls
entries-calls b t [] = refl
entries-calls b t (x ∷ xs) = entries-calls b (after_entry b t x) xs ∙ sym (calls-append b t (counts_as b t x) (all_calls b (after_entry b t x) xs))

-- ---- where two tallies stand alike, a list of entries counts as the same calls

-- of a tally, a run reads only the month
same-calls-in : (b : Basin) (t u : Tally) (y : YearRun) → t.carried ≡ u.carried → calls_in b t y ≡ calls_in b u y
unfolding calls_in
same-calls-in b t u y e = ap (λ (c : Carried). map (least_call b) (drop c.m y.sheets)) e

same-counts : (b : Basin) (t u : Tally) (x : Entry) → t.carried ≡ u.carried → counts_as b t x ≡ counts_as b u x
unfolding counts_as run_refusal
same-counts b t u (monthly c) e = refl
same-counts b t u (yearly y) e =
    let cs : calls_in b t y ≡ calls_in b u y = same-calls-in b t u y e in
    λ z. run_counts (or_else y.lookup (or_else (unless (room_for_year b y.room) Lists) (first_refusal b (cs z)))) (cs z)

module _ (b : Basin) where
  same-entry : (t u : Tally) (x : Entry) → SameStanding b t u → SameStanding b (after_entry b t x) (after_entry b u x)
  unfolding after_entry
  same-entry t u x e =
      subst (λ (cs : List Call). SameStanding b (after_calls b t (counts_as b t x)) (after_calls b u cs)) (same-counts b t u x e.carried_same) (same-calls b t u (counts_as b t x) e)

  same_entries : (t u : Tally) (xs : List Entry) → SameStanding b t u → SameStanding b (after_entries b t xs) (after_entries b u xs)
  unfolding after_entries
  same_entries t u [] e = e
  same_entries t u (x ∷ xs) e = same_entries (after_entry b t x) (after_entry b u x) xs (same-entry t u x e)

  pub resumes : (t : Tally) (xs : List Entry) → SameStanding b (after_entries b (begun (standing b t)) xs) (after_entries b t xs)
  resumes t xs = same_entries (begun (standing b t)) t xs (begun-there b t)
