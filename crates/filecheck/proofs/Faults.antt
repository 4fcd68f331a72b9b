-- Laws of the first at fault and of the verdicts that name it. Assumes nothing.
use Rattle.std.specs.Prelude.{Option, None, Some, Ok, Err, MatchOption, ⊤}
use Rattle.std.specs.declared.ops.Range.{Range}
use Rattle.std.specs.Iterator.{YieldsThen}
use Rattle.std.specs.List.{FoldsTo}
use Rattle.std.specs.Fn.{CalledAt}
use Rattle.std.proofs.iter.Yields.{nat_range_steps}
use Rattle.std.proofs.lemmas.Iterator.{first_from_Range}
use denote.Ref.{Bor}
use denote.Param.Members.{Mut}
use Rattle.std.specs.Result.{result_and}
use mathlib.Core.Path.{◌≡◌, refl, sym, ap, ◌∙◌}
use mathlib.Core.Bool.{Bool, true, false, not}
use mathlib.Core.List.{List}
use Prim.Native.Nat.{ℕ, ◌+◌, ◌-◌, ◌≤◌, ◌<◌}
use native.Mathlib.Nat.{sub-zero}
use native.Mathlib.Omega.{arith}
use Rattle.general.specs.Tests.{first_at, first_fault}
use Rattle.general.proofs.Tests.{both_of, lt_of}
use Rattle.general.proofs.Search.{no-fault, fault-found, first-within}
use Rattle.general.proofs.Loops.{search-here, search-on, search-over}
use Rattle.rules.specs.declared.Refusal.{Refusal}
use Rattle.rules.specs.declared.Refusal.TheVariants.{Layout, Station, Reservoir, Pattern, Right}
use Rattle.rules.specs.Answers.{Verdict, place_of}
use Rattle.sections.specs.File.{layout_ok, section_of}
use Rattle.records.specs.Records.{rows_of, reservoir_count, reservoir_record, pattern_count, right_count}
use Rattle.filerules.specs.FileRules.{station_ok, reservoir_plain, reservoir_ok, pattern_ok, right_ok}
use Rattle.records.specs.Table.{GoodRows}
use Rattle.sections.proofs.Parts.{laid}
use Rattle.records.proofs.Counted.{rows-counted, reservoirs-counted, patterns-counted, rights-counted}
use Rattle.filecheck.specs.Check.{only_if, fault_verdict, stations_verdict, reservoirs_verdict, patterns_verdict, rights_verdict, bodies_verdict, check_of}

-- the verdict on the records i, i + 1, .., n − 1 of a body
unfoldable pub verdict_from : (ℕ → Refusal) → (ℕ → Bool) → ℕ → ℕ → Verdict
verdict_from r ok n i = fault_verdict r (first_at (n - i) i (λ k. not (ok k)))

pub only-good : {t : Bool} (r : Refusal) → t ≡ true → Ok tt ≡ only_if t r
unfolding only_if
only-good r e = rw e

pub only-bad : {t : Bool} (r : Refusal) → t ≡ false → Err r ≡ only_if t r
unfolding only_if
only-bad r e = rw e

module _ (r : ℕ → Refusal) (ok : ℕ → Bool) (n : ℕ) where
  pub verdict-all : verdict_from r ok n 0 ≡ fault_verdict r (first_fault n ok)
  unfolding verdict_from first_fault
  verdict-all = rw (sub-zero n)

  module _ (i : ℕ) where
    pub verdict-on : i < n → ok i ≡ true → verdict_from r ok n (i + 1) ≡ verdict_from r ok n i
    unfolding verdict_from
    verdict-on h e = ap (fault_verdict r) (sym (search-on _ n i h (ap not e)))

    pub verdict-here : i < n → ok i ≡ false → Err (r i) ≡ verdict_from r ok n i
    unfolding verdict_from fault_verdict
    verdict-here h e = sym (ap (fault_verdict r) (search-here _ n i h (ap not e)))

    pub verdict-done : n ≤ i → Ok tt ≡ verdict_from r ok n i
    unfolding verdict_from fault_verdict
    verdict-done h = sym (ap (fault_verdict r) (search-over _ n i h))

  -- one record is left
  pub verdict-last : (i : ℕ) → i + 1 ≡ n → only_if (ok i) (r i) ≡ verdict_from r ok n i
  verdict-last i h = go (ok i) refl
    where
      go : (b : Bool) → ok i ≡ b → only_if b (r i) ≡ verdict_from r ok n i
      go true e = sym (only-good (r i) refl) ∙ verdict-done (i + 1) (omega arith) ∙ verdict-on i (omega arith) e
      go false e = sym (only-bad (r i) refl) ∙ verdict-here i (omega arith) e

-- the first of n records at fault, as the library's search finds it
pub fault-searched : (ok : ℕ → Bool) (u : Range ℕ) (o : Option ℕ) {n : ℕ} {F : Type 0} {g : Mut F (Bor ℕ × Unit {0}) Bool} {f : F}
    → (xs : List ℕ) × (j : F) × YieldsThen nat_range_steps (record { start = 0; end = n }) xs o u × FoldsTo (λ p x q. CalledAt g p x false q) f xs j × MatchOption o ⊤ (λ x. (h : F) × CalledAt g j x true h)
    → ((x : ℕ) (q : F) → CalledAt g f x true q → ok x ≡ false) → ((x : ℕ) (q : F) → CalledAt g f x false q → (q ≡ f) × (ok x ≡ true))
    → o ≡ first_fault n ok
fault-searched ok u o {n} {F} {g} {f} d bad good = fault-found n ok o (first_from_Range _ u f o (λ k. ok k ≡ false) (λ k. ok k ≡ true) d bad good)

-- the verdict where what was found is made a refusal by `map_or`
pub verdict-found : (r : ℕ → Refusal) (o : Option ℕ) {v : Verdict} {P : ℕ → Type 0} → MatchOption o (v ≡ Ok tt) P → ((i : ℕ) → P i → v ≡ Err (r i)) → v ≡ fault_verdict r o
unfolding fault_verdict
verdict-found r None m told = m
verdict-found r (Some i) m told = told i m

-- ---- one body after the other

-- an accepted body has none at fault
fault-clear : (r : ℕ → Refusal) (o : Option ℕ) → fault_verdict r o ≡ Ok tt → o ≡ None
unfolding fault_verdict
fault-clear r None e = refl
fault-clear r (Some i) e = cc

-- acceptance clears the first and what comes after
pub and-clear : (v w : Verdict) → result_and v w ≡ Ok tt → (v ≡ Ok tt) × (w ≡ Ok tt)
and-clear (Ok u) w e = (refl, e)
and-clear (Err r) w e = cc

-- an accepted reservoir stands at a station's row
reservoir-row : (st rs : List ℕ) (v : ℕ) → reservoir_ok st rs v ≡ true → (reservoir_record rs v).row < rows_of st
unfolding reservoir_ok reservoir_plain
reservoir-row st rs v e = lt_of (both_of (both_of (both_of (both_of (both_of e).0).0).0).0).0

-- what acceptance says of each body
pub stations-clear : (st : List ℕ) → stations_verdict st ≡ Ok tt → (i : ℕ) → i < rows_of st → station_ok st i ≡ true
unfolding stations_verdict
stations-clear st e = no-fault _ _ (fault-clear Station _ e)

pub reservoirs-clear : (st rs : List ℕ) → reservoirs_verdict st rs ≡ Ok tt → (v : ℕ) → v < reservoir_count rs → reservoir_ok st rs v ≡ true
unfolding reservoirs_verdict
reservoirs-clear st rs e = no-fault _ _ (fault-clear Reservoir _ e)

pub patterns-clear : (ps : List ℕ) → patterns_verdict ps ≡ Ok tt → (p : ℕ) → p < pattern_count ps → pattern_ok ps p ≡ true
unfolding patterns_verdict
patterns-clear ps e = no-fault _ _ (fault-clear Pattern _ e)

pub rights-clear : (st rs ps s : List ℕ) → rights_verdict st rs ps s ≡ Ok tt → (i : ℕ) → i < right_count s → right_ok st rs (pattern_count ps) s i ≡ true
unfolding rights_verdict
rights-clear st rs ps s e = no-fault _ _ (fault-clear Right _ e)

pub rows-good : (st rs : List ℕ) → reservoirs_verdict st rs ≡ Ok tt → GoodRows st rs
rows-good st rs e = record { row_in = λ v h. reservoir-row st rs v (reservoirs-clear st rs e v h) }

-- ---- the whole file

pub check-refuses : (f : List ℕ) → layout_ok f ≡ false → Err Layout ≡ check_of f
unfolding check_of
check-refuses f e = rw e

pub check-goes-on : (f : List ℕ) → layout_ok f ≡ true → check_of f ≡ bodies_verdict (section_of f 0) (section_of f 1) (section_of f 2) (section_of f 3)
unfolding check_of
check-goes-on f e = rw e

-- ---- the place of a refusal is the number of a record, so it is small

abbrev pub PlaceMost : ℕ → Verdict → Type 0
PlaceMost m (Ok u) = Unit {0}
PlaceMost m (Err r) = place_of r ≤ m

fault-place : (r : ℕ → Refusal) (n m : ℕ) (ok : ℕ → Bool) → ((i : ℕ) → place_of (r i) ≡ i) → n ≤ m → PlaceMost m (fault_verdict r (first_fault n ok))
unfolding first_fault fault_verdict
fault-place r n m ok at h = go (first_at n 0 bad) refl
  where
    bad : ℕ → Bool
    bad i = not (ok i)

    go : (o : Option ℕ) → first_at n 0 bad ≡ o → PlaceMost m (fault_verdict r o)
    go None e = tt
    go (Some i) e = omega (arith, at i, first-within bad n 0 i e)

and-place : (m : ℕ) (v w : Verdict) → PlaceMost m v → PlaceMost m w → PlaceMost m (result_and v w)
and-place m (Ok u) w a b = b
and-place m (Err r) w a b = a

module _ (st rs ps s : List ℕ) (m : ℕ) where
  bodies-place : rows_of st ≤ m → reservoir_count rs ≤ m → pattern_count ps ≤ m → right_count s ≤ m → PlaceMost m (bodies_verdict st rs ps s)
  unfolding bodies_verdict stations_verdict reservoirs_verdict patterns_verdict rights_verdict
  bodies-place a b c d =
      and-place m _ _ (fault-place Station (rows_of st) m (station_ok st) (λ i. refl) a)
      (and-place m _ _ (fault-place Reservoir (reservoir_count rs) m (reservoir_ok st rs) (λ i. refl) b)
      (and-place m _ _ (fault-place Pattern (pattern_count ps) m (pattern_ok ps) (λ i. refl) c)
      (fault-place Right (right_count s) m (right_ok st rs (pattern_count ps) s) (λ i. refl) d)))

pub place-most : (f : List ℕ) → PlaceMost 256 (check_of f)
place-most f = go (layout_ok f) refl
  where
    go : (b : Bool) → layout_ok f ≡ b → PlaceMost 256 (check_of f)
    go true e =
        let l = laid f e in
        rw (check-goes-on f e)
        (bodies-place (section_of f 0) (section_of f 1) (section_of f 2) (section_of f 3) 256
        (omega (arith, l.stations, rows-counted f e))
        (omega (arith, l.reservoirs, reservoirs-counted f e))
        (omega (arith, l.patterns, patterns-counted f e))
        (omega (arith, l.rights, rights-counted f e)))
    go false e = rw (← check-refuses f e) (omega arith)
