-- Tests on numbers and lists, and the first number that passes or fails one.
use Rattle.std.specs.Prelude.{Bool, true, false, not, ◌||◌, List, [], ◌∷◌, ℕ, zero, suc, ◌+◌, ◌-◌, ◌/◌, ◌%◌, ◌^◌, leb, eqb, Option, None, Some}
use Rattle.general.specs.Sums.{sum_to, only}

infixl 35 ◌and◌
-- a conjunction that stays shut, so that a proof can take it apart without naming its sides
unfoldable pub ◌and◌ : Bool → Bool → Bool
true and b = b
false and b = false

-- a ≤ x ≤ c
unfoldable pub between : ℕ → ℕ → ℕ → Bool
between a x c = leb a x and leb x c

-- whether bit i of a word is set
unfoldable pub bit : ℕ → ℕ → Bool
bit w i = eqb (w / 2 ^ i % 2) 1

-- the word with bit i made 1 or 0
unfoldable pub with_bit : ℕ → ℕ → Bool → ℕ
with_bit w i on = w - only (bit w i) (2 ^ i) + only on (2 ^ i)

-- how many of its first n bits are set
unfoldable pub bits_set : ℕ → ℕ → ℕ
bits_set n w = sum_to n (λ k. only (bit w k) 1)

-- whether the list holds the number
unfoldable pub has : ℕ → List ℕ → Bool
has i [] = false
has i (x ∷ xs) = eqb i x || has i xs

-- the first of the numbers i, i + 1, .., n of them, that passes the test
unfoldable pub first_at : ℕ → ℕ → (ℕ → Bool) → Option ℕ
first_at zero i t = None
first_at (suc n) i t = elim (t i) [ true ↦ Some i | false ↦ first_at n (suc i) t ]

-- the first number below n that fails the test: the first at fault
unfoldable pub first_fault : ℕ → (ℕ → Bool) → Option ℕ
first_fault n ok = first_at n 0 (λ i. not (ok i))

-- whether all numbers below n pass
unfoldable pub all_to : ℕ → (ℕ → Bool) → Bool
all_to zero t = true
all_to (suc n) t = all_to n t and t n
