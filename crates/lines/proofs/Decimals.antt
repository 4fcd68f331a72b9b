-- The decimal text of a number: one digit, two digits, and two digits more. Assumes nothing.
use mathlib.Core.List.{List, [], ◌∷◌, ◌++◌, append_assoc}
use mathlib.Core.Path.{◌≡◌, sym, ap, ◌∙◌}
use Prim.Native.Nat.{ℕ, zero, suc, ◌+◌, ◌/◌, ◌%◌, ◌^◌, ◌≤◌, ◌<◌}
use native.Mathlib.Decide.{dec_lt}
use native.Mathlib.Nat.{pow-suc}
use native.Mathlib.Omega.{arith}
use borrow.Author.Tests.{lt-ltb, le-ltb}
use lib.ListN.{length, length-append}
use Rattle.listing.specs.Listing.{digit, decimal_in, decimal_text}

in_one : (k n : ℕ) → n < 10 → decimal_in (suc k) n ≡ digit n ∷ []
unfolding decimal_in
in_one k n h = rw (lt-ltb n 10 h, decimal_in)

in-more : (k n : ℕ) → 10 ≤ n → decimal_in (suc k) n ≡ decimal_in k (n / 10) ++ (digit (n % 10) ∷ [])
unfolding decimal_in
in-more k n h = rw (le-ltb n 10 h, decimal_in)

-- any count above the number is enough
enough : (k m n : ℕ) → n < k → n < m → decimal_in k n ≡ decimal_in m n
enough zero m n h g = absurd (omega arith)
enough (suc k) zero n h g = absurd (omega arith)
enough (suc k) (suc m) n h g = pick (dec_lt n 10) (λ l. enough k m (n / 10) (omega arith) (omega arith))
  where
    pick : Dec (n < 10) → (10 ≤ n → decimal_in k (n / 10) ≡ decimal_in m (n / 10)) → decimal_in (suc k) n ≡ decimal_in (suc m) n
    pick (yes l) ih = in_one k n l ∙ sym (in_one m n l)
    pick (no l) ih = in-more k n (omega arith) ∙ ap (λ (t : List ℕ). t ++ (digit (n % 10) ∷ [])) (ih (omega arith)) ∙ sym (in-more m n (omega arith))

pub one-digit : (n : ℕ) → n < 10 → decimal_text n ≡ digit n ∷ []
unfolding decimal_text
one-digit n h = in_one n n h

pub one_more : (n : ℕ) → 10 ≤ n → decimal_text n ≡ decimal_text (n / 10) ++ (digit (n % 10) ∷ [])
unfolding decimal_text
one_more n h = in-more n n h ∙ ap (λ (t : List ℕ). t ++ (digit (n % 10) ∷ [])) (enough n (suc (n / 10)) (n / 10) (omega arith) (omega arith))

pub two_digits : (n : ℕ) → 10 ≤ n → n < 100 → decimal_text n ≡ digit (n / 10) ∷ digit (n % 10) ∷ []
two_digits n h g = one_more n h ∙ ap (λ (t : List ℕ). t ++ (digit (n % 10) ∷ [])) (one-digit (n / 10) (omega arith))

pub two-more : (n : ℕ) → 100 ≤ n → decimal_text n ≡ decimal_text (n / 100) ++ (digit (n % 100 / 10) ∷ digit (n % 100 % 10) ∷ [])
two-more n h =
    let e : n / 10 / 10 ≡ n / 100 = omega arith in
    let f : n / 10 % 10 ≡ n % 100 / 10 = omega arith in
    let g : n % 10 ≡ n % 100 % 10 = omega arith in
    one_more n (omega arith)
    ∙ ap (λ (t : List ℕ). t ++ (digit (n % 10) ∷ [])) (one_more (n / 10) (omega arith))
    ∙ append_assoc (decimal_text (n / 10 / 10)) (digit (n / 10 % 10) ∷ []) (digit (n % 10) ∷ [])
    ∙ ap (λ (m : ℕ). decimal_text m ++ (digit (n / 10 % 10) ∷ digit (n % 10) ∷ [])) e
    ∙ ap (λ (d : ℕ). decimal_text (n / 100) ++ (digit d ∷ digit (n % 10) ∷ [])) f
    ∙ ap (λ (d : ℕ). decimal_text (n / 100) ++ (digit (n % 100 / 10) ∷ digit d ∷ [])) g

-- ---- how long a text is

pub one-long : (n : ℕ) → n < 10 → length (decimal_text n) ≡ 1
one-long n h = ap length (one-digit n h)

pub two-long : (n : ℕ) → 10 ≤ n → n < 100 → length (decimal_text n) ≡ 2
two-long n h g = ap length (two_digits n h g)

pub more-long : (n : ℕ) → 100 ≤ n → length (decimal_text n) ≡ length (decimal_text (n / 100)) + 2
more-long n h = ap length (two-more n h) ∙ length-append (decimal_text (n / 100)) (digit (n % 100 / 10) ∷ digit (n % 100 % 10) ∷ [])

pub four-long : (n : ℕ) → 10000 ≤ n → length (decimal_text n) ≡ length (decimal_text (n / 10000)) + 4
four-long n h =
    let e : n / 100 / 100 ≡ n / 10000 = omega arith in
    omega (arith, more-long n (omega arith), more-long (n / 100) (omega arith), ap (λ (m : ℕ). length (decimal_text m)) e)

-- a number below ten to the power of k has at most k digits
short : (k n : ℕ) → n < 10 ^ suc k → length (decimal_text n) ≤ suc k
short zero n h = omega (arith, one-long n h)
short (suc k) n h = pick (dec_lt n 10) (short k (n / 10) (omega (arith, pow-suc 10 (suc k))))
  where
    pick : Dec (n < 10) → length (decimal_text (n / 10)) ≤ suc k → length (decimal_text n) ≤ suc (suc k)
    pick (yes l) ih = omega (arith, one-long n l)
    pick (no l) ih = omega (arith, ap length (one_more n (omega arith)) ∙ length-append (decimal_text (n / 10)) (digit (n % 10) ∷ []))

-- no number of 64 bits has more than 20 digits
pub at-most-twenty : (n : ℕ) → n < 18446744073709551616 → length (decimal_text n) ≤ 20
at-most-twenty n h = short 19 n (omega arith)
