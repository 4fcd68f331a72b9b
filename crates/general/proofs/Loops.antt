-- One turn of a loop that counts up, for each general definition. Assumes nothing.
use Rattle.std.specs.Prelude.{None, Some}
use mathlib.Core.Path.{◌≡◌, refl, sym, ap, ◌∙◌}
use mathlib.Core.Bool.{Bool, true, false}
use Prim.Native.Nat.{ℕ, suc, ◌+◌, ◌-◌, ◌*◌, ◌≤◌, ◌<◌}
use native.Mathlib.Nat.{mul-le-mul, mul-suc}
use native.Mathlib.Numerals.{add-one}
use native.Mathlib.Omega.{arith}
use Rattle.general.specs.Sums.{sum_to}
use Rattle.general.specs.Tests.{◌and◌, first_at, all_to}
use Rattle.general.proofs.Tests.{absurd-bool}
use Rattle.general.proofs.Search.{first-here, first-later, first-over}

-- ---- a search among i, i + 1, .., n − 1

module _ (t : ℕ → Bool) (n i : ℕ) where
  -- what is left of the range, one number taken
  left : i < n → n - i ≡ suc (n - (i + 1))
  left h = omega arith

  pub search-here : i < n → t i ≡ true → first_at (n - i) i t ≡ Some i
  search-here h e = rw (left h) (first-here t (n - (i + 1)) i e)

  pub search-on : i < n → t i ≡ false → first_at (n - i) i t ≡ first_at (n - (i + 1)) (i + 1) t
  search-on h e = rw (left h) (first-later t (n - (i + 1)) i e ∙ ap (λ (k : ℕ). first_at (n - (i + 1)) k t) (sym (add-one i)))

  pub search-over : n ≤ i → first_at (n - i) i t ≡ None
  search-over h = let e : n - i ≡ 0 = omega arith in rw e (first-over t i)

-- ---- a conjunction with a side that fails, and with a first side that holds

pub and_no : {a : Bool} (b : Bool) → a ≡ false → (a and b) ≡ false
unfolding ◌and◌
and_no {a = true} b p = absurd-bool refl p
and_no {a = false} b p = refl

pub and-not : (a : Bool) {b : Bool} → b ≡ false → (a and b) ≡ false
unfolding ◌and◌
and-not true p = p
and-not false p = refl

pub and-rest : {a : Bool} (b : Bool) → a ≡ true → (a and b) ≡ b
unfolding ◌and◌
and-rest {a = true} b p = refl
and-rest {a = false} b p = absurd-bool p refl

-- ---- a test of all numbers below n

module _ (t : ℕ → Bool) where
  pub all_none : true ≡ all_to 0 t
  unfolding all_to
  all_none = refl

  pub all_more : (i : ℕ) (a b : Bool) → a ≡ all_to i t → b ≡ (a and t i) → b ≡ all_to (i + 1) t
  unfolding all_to
  all_more i a b e h = rw (add-one i) (h ∙ ap (λ (x : Bool). x and t i) e)

-- ---- a sum over the numbers below n

module _ (f : ℕ → ℕ) where
  pub total-none : 0 ≡ sum_to 0 f
  unfolding sum_to
  total-none = refl

  pub total-more : (i s : ℕ) → s ≡ sum_to i f → s + f i ≡ sum_to (i + 1) f
  unfolding sum_to
  total-more i s e = rw (add-one i, e)

-- ---- steps of one length

-- each of n steps lies within them
pub step-within : (step n k : ℕ) → k < n → step * k + step ≤ step * n
step-within step n k h =
    let e : step * suc k ≡ step * k + step = mul-suc step k in
    let m : step * suc k ≤ step * n = mul-le-mul {n₁ = step} {m₁ = suc k} {n₂ = step} {m₂ = n} (omega arith) h in
    omega arith
