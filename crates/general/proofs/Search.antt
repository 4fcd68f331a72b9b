-- Laws of membership and of the first number that passes a test. Assumes nothing.
use Rattle.std.specs.Prelude.{Option, None, Some, is_some, MatchOption}
use mathlib.Core.Path.{◌≡◌, refl, sym, ap, ◌∙◌}
use mathlib.Core.Logic.{◌≢◌}
use mathlib.Core.Bool.{Bool, true, false, cond, not, ◌||◌}
use mathlib.Core.List.{List, [], ◌∷◌}
use native.Mathlib.Numerals.{add-one}
use denote.Ref.{Bor}
use denote.Param.Members.{Mut}
use Rattle.std.specs.declared.ops.Range.{Range}
use Rattle.std.specs.Fn.{CalledAt}
use Rattle.std.specs.Iterator.{YieldsThen}
use Rattle.std.specs.List.{FoldsTo, find, range_with_len}
use Rattle.std.proofs.iter.Yields.{nat_range_steps}
use Rattle.std.proofs.lemmas.Iterator.{YieldsList-from_range}
use Rattle.std.proofs.lemmas.Iterator.Adapters.{option_map_id}
use Rattle.std.proofs.lemmas.Iterator.Search.{find_from_yields_List}
use Prim.Native.Nat.{ℕ, zero, suc, ◌+◌, ◌-◌, ◌≤◌, ◌<◌}
use native.Mathlib.Decide.{dec_lt}
use native.Mathlib.Omega.{arith}
use lib.Dec.{eqb}
use Rattle.general.specs.Tests.{has, first_at, first_fault, all_to, ◌and◌}
use Rattle.general.proofs.Tests.{absurd-bool, tests_same, eqb_same, eqb-other, by_eqb, both_of, and-of, and-true, and-three}

-- ---- membership

or_right : (a b : Bool) → b ≡ true → (a || b) ≡ true
or_right true b e = refl
or_right false b e = e

pub has-none : (i : ℕ) → has i [] ≡ false
unfolding has
has-none i = refl

pub has-head : (i x : ℕ) (xs : List ℕ) → i ≡ x → has i (x ∷ xs) ≡ true
unfolding has
has-head i x xs e = rw e (rw (eqb_same x))

pub has-tail : (i x : ℕ) (xs : List ℕ) → has i xs ≡ true → has i (x ∷ xs) ≡ true
unfolding has
has-tail i x xs h = or_right (eqb i x) (has i xs) h

pub has_other : (i x : ℕ) (xs : List ℕ) → i ≢ x → has i (x ∷ xs) ≡ has i xs
unfolding has
has_other i x xs h = rw (eqb-other i x h)

pub has-single : (i x : ℕ) → i ≢ x → has i (x ∷ []) ≡ false
has-single i x h = has_other i x [] h ∙ has-none i

-- a member put in front adds none
pub has-once : (i x : ℕ) (xs : List ℕ) → has x xs ≡ true → has i (x ∷ xs) ≡ true → has i xs ≡ true
has-once i x xs m h = by_eqb i x (λ _. has i xs ≡ true) (λ e. rw e m) (λ e. sym (has_other i x xs e) ∙ h)

-- ---- the first that passes

module _ (t : ℕ → Bool) where
  pub first-here : (n i : ℕ) → t i ≡ true → first_at (suc n) i t ≡ Some i
  unfolding first_at
  first-here n i e = rw (e, first_at)

  pub first-later : (n i : ℕ) → t i ≡ false → first_at (suc n) i t ≡ first_at n (suc i) t
  unfolding first_at
  first-later n i e = rw (e, first_at)

  pub first-over : (i : ℕ) → first_at 0 i t ≡ None
  unfolding first_at
  first-over i = refl

  -- the first lies in its range
  pub first-within : (n i q : ℕ) → first_at n i t ≡ Some q → (i ≤ q) × (q < i + n)
  first-within zero i q e = let f : None ≡ Some q = sym (first-over i) ∙ e in let z : ◌≡◌ {A = ℕ} 0 1 = cc in omega arith
  first-within (suc n) i q e = go (t i) refl (first-within n (suc i) q)
    where
      go : (b : Bool) → t i ≡ b → (first_at n (suc i) t ≡ Some q → (suc i ≤ q) × (q < suc i + n)) → (i ≤ q) × (q < i + suc n)
      go true f ih = let g : Some i ≡ Some q = sym (first-here n i f) ∙ e in let z : i ≡ q = cc in omega arith
      go false f ih = omega (arith, ih (sym (first-later n i f) ∙ e))

  -- where none passes, each fails
  pub first-none : (n i : ℕ) → first_at n i t ≡ None → (j : ℕ) → i ≤ j → j < i + n → t j ≡ false
  first-none zero i e j l h = absurd (omega arith)
  first-none (suc n) i e j l h = go (t i) refl (first-none n (suc i))
    where
      go : (b : Bool) → t i ≡ b → (first_at n (suc i) t ≡ None → (k : ℕ) → suc i ≤ k → k < suc i + n → t k ≡ false) → t j ≡ false
      go true f ih = let g : Some i ≡ None = sym (first-here n i f) ∙ e in absurd (let z : ◌≡◌ {A = ℕ} 0 1 = cc in omega arith)
      go false f ih = by_eqb i j (λ _. t j ≡ false) (λ g. ap t (sym g) ∙ f) (λ g. ih (sym (first-later n i f) ∙ e) j (omega arith) (omega arith))

  -- what a search turns up is the first: it passes, and none before it does
  first-found : (n i : ℕ) (r : Option ℕ)
      → MatchOption r ((k : ℕ) → i ≤ k → k < i + n → t k ≡ false) (λ q. (i ≤ q) × (q < i + n) × (t q ≡ true) × ((k : ℕ) → i ≤ k → k < q → t k ≡ false))
      → r ≡ first_at n i t
  first-found zero i None h = sym (first-over i)
  first-found zero i (Some q) h = absurd (omega arith)
  first-found (suc n) i None h = first-found n (suc i) None (λ k l u. h k (omega arith) (omega arith)) ∙ sym (first-later n i (h i (omega arith) (omega arith)))
  first-found (suc n) i (Some q) h = by_eqb i q (λ _. Some q ≡ first_at (suc n) i t)
      (λ g. sym (first-here n i (ap t g ∙ h.2) ∙ ap Some g))
      (λ g. first-found n (suc i) (Some q) (omega arith, omega arith, h.2, λ k l u. h.3 k (omega arith) u) ∙ sym (first-later n i (h.3 i (omega arith) (omega arith))))

  -- the same from 0 on
  pub found-below : (n : ℕ) (r : Option ℕ)
      → MatchOption r ((k : ℕ) → 0 ≤ k → k < n → t k ≡ false) (λ q. (0 ≤ q) × (q < n) × (t q ≡ true) × ((k : ℕ) → 0 ≤ k → k < q → t k ≡ false))
      → r ≡ first_at n 0 t
  found-below n None h = first-found n 0 None (λ k l u. h k l (omega arith))
  found-below n (Some q) h = first-found n 0 (Some q) (h.0, omega arith, h.2, h.3)

not-false-of : {b : Bool} → not b ≡ false → b ≡ true
not-false-of {b = true} e = refl
not-false-of {b = false} e = absurd-bool refl e

-- where none is at fault, each keeps the rule
pub no-fault : (n : ℕ) (ok : ℕ → Bool) → first_fault n ok ≡ None → (j : ℕ) → j < n → ok j ≡ true
unfolding first_fault
no-fault n ok e j h = not-false-of (first-none (λ i. not (ok i)) n 0 e j (omega arith) (omega arith))

-- what a search for the first at fault turns up
pub fault-found : (n : ℕ) (ok : ℕ → Bool) (r : Option ℕ)
    → MatchOption r ((k : ℕ) → 0 ≤ k → k < n → ok k ≡ true) (λ q. (0 ≤ q) × (q < n) × (ok q ≡ false) × ((k : ℕ) → 0 ≤ k → k < q → ok k ≡ true))
    → r ≡ first_fault n ok
unfolding first_fault
fault-found n ok None h = found-below (λ i. not (ok i)) n None (λ k l u. ap not (h k l u))
fault-found n ok (Some q) h = found-below (λ i. not (ok i)) n (Some q) (h.0, h.1, ap not h.2, λ k l u. ap not (h.3 k l u))

pub some_of : {A : Type 0} (o : Option A) → is_some o ≡ true → (q : A) × (o ≡ Some q)
some_of None e = absurd-bool e refl
some_of (Some q) e = (q, refl)

-- ---- all below n

pub all-make : (n : ℕ) (t : ℕ → Bool) → ((i : ℕ) → i < n → t i ≡ true) → all_to n t ≡ true
unfolding all_to
all-make zero t h = refl
all-make (suc n) t h = and-of (all-make n t (λ i l. h i (omega arith))) (h n (omega arith))

pub all-at : (n : ℕ) (t : ℕ → Bool) → all_to n t ≡ true → (i : ℕ) → i < n → t i ≡ true
unfolding all_to
all-at zero t e i h = absurd (omega arith)
all-at (suc n) t e i h = by_eqb i n (λ _. t i ≡ true) (λ g. ap t g ∙ (both_of e).1) (λ g. all-at n t (both_of e).0 i (omega arith))

-- ---- a test of all numbers in two parts, and by another test that agrees

pub all-parts : (n m : ℕ) (t : ℕ → Bool) → all_to (n + m) t ≡ (all_to n t and all_to m (λ j. t (n + j)))
unfolding all_to
all-parts n zero t = let e : n + 0 ≡ n = omega arith in ap (λ (k : ℕ). all_to k t) e ∙ sym (and-true (all_to n t))
all-parts n (suc m) t =
    let e : n + suc m ≡ suc (n + m) = omega arith in
    ap (λ (k : ℕ). all_to k t) e ∙ ap (λ (x : Bool). x and t (n + m)) (all-parts n m t) ∙ and-three (all_to n t) (all_to m (λ j. t (n + j))) (t (n + m))

-- the first m and the last m, where these are all of n, some of them twice
pub all-twice : (m n : ℕ) (t : ℕ → Bool) → m ≤ n → n ≤ m + m → (all_to m t and all_to m (λ j. t (n - m + j))) ≡ all_to n t
all-twice m n t h l = tests_same (all_to m t and all_to m (λ j. t (n - m + j))) (all_to n t)
    (λ e. all-make n t (λ i o. one i o (dec_lt i m) (both_of e).0 (both_of e).1))
    (λ e. and-of (all-make m t (λ i o. all-at n t e i (omega arith))) (all-make m _ (λ j o. all-at n t e (n - m + j) (omega arith))))
  where
    one : (i : ℕ) → i < n → Dec (i < m) → all_to m t ≡ true → all_to m (λ j. t (n - m + j)) ≡ true → t i ≡ true
    one i o (yes k) first last = all-at m t first i k
    one i o (no k) first last =
        let place : n - m + (i - (n - m)) ≡ i = omega arith in
        ap t (sym place) ∙ all-at m (λ j. t (n - m + j)) last (i - (n - m)) (omega arith)

pub all_same : (n : ℕ) (s t : ℕ → Bool) → ((i : ℕ) → i < n → s i ≡ t i) → all_to n s ≡ all_to n t
unfolding all_to
all_same zero s t h = refl
all_same (suc n) s t h = λ z. all_same n s t (λ i l. h i (omega arith)) z and h n (omega arith) z

-- ---- the first of a range

-- by another test that agrees
pub first-same : (s t : ℕ → Bool) (n i : ℕ) → ((j : ℕ) → i ≤ j → j < i + n → s j ≡ t j) → first_at n i s ≡ first_at n i t
unfolding first_at
first-same s t zero i h = refl
first-same s t (suc n) i h = λ z. elim (h i (omega arith) (omega arith) z) [ true ↦ Some i | false ↦ first-same s t n (suc i) (λ j l m. h j (omega arith) (omega arith)) z ]

-- the library's first of a list, where the list is a range
pub found-first : (t : ℕ → Bool) (n i : ℕ) → find t (range_with_len i n) ≡ first_at n i t
unfolding first_at
found-first t zero i = refl
found-first t (suc n) i = elim (t i) as (λ b. cond b (Some i) (find t (range_with_len (i + 1) n)) ≡ elim b [ true ↦ Some i | false ↦ first_at n (suc i) t ]) [ true ↦ refl | false ↦ found-first t n (i + 1) ∙ ap (λ (j : ℕ). first_at n j t) (add-one i) ]

-- what the library's search of a range turns up
module _ {F : Type 0} {g : Mut F (Bor ℕ × Unit {0}) Bool} (s u : Range ℕ) (f : F) (r : Option ℕ)
    (d : (xs : List ℕ) × (j : F) × YieldsThen nat_range_steps s xs r u × FoldsTo (λ p x q. CalledAt g p x false q) f xs j × MatchOption r (Unit {0}) (λ x. (h : F) × CalledAt g j x true h)) where
  pub find-first : (t : ℕ → Bool) (i j : ℕ) → s ≡ record { start = i; end = j } → ((x : ℕ) (b : Bool) (q : F) → CalledAt g f x b q → (q ≡ f) × (b ≡ t x)) → r ≡ first_at (j - i) i t
  find-first t i j e k = sym (option_map_id r) ∙ find_from_yields_List t u f r d (YieldsList-from_range i j (j - i) e refl) k ∙ found-first t (j - i) i
