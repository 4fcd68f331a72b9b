-- From a test to the fact and back. Assumes nothing.
use mathlib.Core.Path.{◌≡◌, refl, sym, subst}
use mathlib.Core.Logic.{◌≢◌}
use mathlib.Core.Bool.{Bool, true, false, not, cond, ◌&&◌}
use Prim.Native.Nat.{ℕ, ◌+◌, ◌≤◌, ◌<◌}
use native.Mathlib.Omega.{arith}
use lib.Dec.{T, leb, ltb, eqb, eqb→eq, eqb_refl, leb→le, le→leb, ltb→lt, lt→ltb, nltb→le}
use lib.Arith.{le→nltb}
use Rattle.general.specs.Sums.{only}
use Rattle.general.specs.Tests.{◌and◌, between}

pub absurd-bool {ℓ} : {X : Type ℓ} {b : Bool} → b ≡ true → b ≡ false → X
absurd-bool p q = absurd (let z : ◌≡◌ {A = ℕ} 0 1 = cc in omega arith)

-- two tests that pass together
pub tests_same : (a b : Bool) → (a ≡ true → b ≡ true) → (b ≡ true → a ≡ true) → a ≡ b
tests_same true b f g = sym (f refl)
tests_same false true f g = g refl
tests_same false false f g = refl

pub true_of : {b : Bool} → T b → b ≡ true
true_of {b = true} t = refl
true_of {b = false} t = absurd t

pub false_of : {b : Bool} → T (not b) → b ≡ false
false_of {b = true} t = absurd t
false_of {b = false} t = refl

pub T_of : {b : Bool} → b ≡ true → T b
T_of e = subst T (sym e) tt

pub not-T-of : {b : Bool} → b ≡ false → T (not b)
not-T-of e = subst (λ (b : Bool). T (not b)) (sym e) tt

pub eqb_same : (n : ℕ) → eqb n n ≡ true
eqb_same n = true_of (eqb_refl n)

-- by cases on an equality test, with what it says
pub by_eqb {ℓ} : (m n : ℕ) (P : Bool → Type ℓ) → (m ≡ n → P true) → (m ≢ n → P false) → P (eqb m n)
by_eqb m n P f g = go (eqb m n) (λ t. eqb→eq m n t) (λ e. subst (λ (k : ℕ). T (eqb m k)) e (eqb_refl m))
  where
    go : (b : Bool) → (T b → m ≡ n) → (m ≡ n → T b) → P b
    go true h k = f (h tt)
    go false h k = g k

pub eqb-other : (m n : ℕ) → m ≢ n → eqb m n ≡ false
eqb-other m n h = by_eqb m n (λ b. b ≡ false) (λ e. absurd (h e)) (λ _. refl)

pub eq_of : {m n : ℕ} → eqb m n ≡ true → m ≡ n
eq_of {m} {n} e = eqb→eq m n (T_of e)

pub le_of : {m n : ℕ} → leb m n ≡ true → m ≤ n
le_of {m} {n} e = leb→le m n (T_of e)

pub lt_of : {m n : ℕ} → ltb m n ≡ true → m < n
lt_of {m} {n} e = ltb→lt m n (T_of e)

pub not-lt-of : {m n : ℕ} → ltb m n ≡ false → n ≤ m
not-lt-of {m} {n} e = nltb→le m n (not-T-of e)

pub leb_yes : (m n : ℕ) → m ≤ n → leb m n ≡ true
leb_yes m n h = true_of (le→leb m n h)

pub leb_no : (m n : ℕ) → n < m → leb m n ≡ false
leb_no m n h = go (leb m n) refl
  where
    go : (b : Bool) → leb m n ≡ b → b ≡ false
    go true e = absurd (omega (arith, h, le_of {m = m} {n = n} e))
    go false e = refl

pub ltb_yes : (m n : ℕ) → m < n → ltb m n ≡ true
ltb_yes m n h = true_of (lt→ltb m n h)

pub ltb_no : (m n : ℕ) → n ≤ m → ltb m n ≡ false
ltb_no m n h = false_of (le→nltb m n h)

-- a conjunction, taken apart and put together
pub both_of : {a b : Bool} → (a and b) ≡ true → (a ≡ true) × (b ≡ true)
unfolding ◌and◌
both_of {a = true} {b} e = (refl, e)
both_of {a = false} {b} e = absurd-bool e refl

pub and-of : {a b : Bool} → a ≡ true → b ≡ true → (a and b) ≡ true
unfolding ◌and◌
and-of {a = true} {b} p q = q
and-of {a = false} {b} p q = absurd-bool p refl

pub between-of : {a x c : ℕ} → between a x c ≡ true → (a ≤ x) × (x ≤ c)
unfolding between
between-of e = let f = both_of e in (le_of f.0, le_of f.1)

pub only-le : (t : Bool) (x : ℕ) → only t x ≤ x
only-le true x = omega arith
only-le false x = omega arith

-- what may become 0 is no larger for it
pub cleared-le : (t : Bool) (x : ℕ) → cond t 0 x ≤ x
cleared-le true x = omega arith
cleared-le false x = omega arith

pub only_yes : (t : Bool) (x : ℕ) → t ≡ true → only t x ≡ x
only_yes true x e = refl
only_yes false x e = absurd-bool e refl

pub only_same : (t : Bool) (x y : ℕ) → (t ≡ true → x ≡ y) → only t x ≡ only t y
only_same true x y h = h refl
only_same false x y h = refl

pub and-true : (a : Bool) → (a and true) ≡ a
unfolding ◌and◌
and-true true = refl
and-true false = refl

pub and-three : (a b c : Bool) → ((a and b) and c) ≡ (a and (b and c))
unfolding ◌and◌
and-three true b c = refl
and-three false b c = refl

pub only_none : (t : Bool) → only t 0 ≡ 0
only_none true = refl
only_none false = refl

pub only_sum : (s : Bool) (x y : ℕ) → only s (x + y) ≡ only s x + only s y
only_sum true x y = refl
only_sum false x y = refl

-- tests joined by `&`
pub and-is : (a b : Bool) → (a and b) ≡ (a && b)
unfolding ◌and◌
and-is a b = refl

pub ruleset joins = (and-is)
