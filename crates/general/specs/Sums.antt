-- Sums over a list, over a count, and of what passes a test.
use Rattle.std.specs.Prelude.{Bool, true, false, List, [], ◌∷◌, ℕ, zero, suc, ◌+◌, get_or, ℤ, pos, ◌+ℤ◌}

-- f x, summed over the list
unfoldable pub sum_over : {A : Type 0} → (A → ℕ) → List A → ℕ
sum_over f [] = 0
sum_over f (x ∷ xs) = f x + sum_over f xs

unfoldable pub sum_over_ℤ : {A : Type 0} → (A → ℤ) → List A → ℤ
sum_over_ℤ f [] = pos 0
sum_over_ℤ f (x ∷ xs) = f x +ℤ sum_over_ℤ f xs

abbrev pub sum : List ℕ → ℕ
sum l = sum_over (λ x. x) l

-- f 0 + .. + f (n − 1)
unfoldable pub sum_to : ℕ → (ℕ → ℕ) → ℕ
sum_to zero f = 0
sum_to (suc n) f = sum_to n f + f n

-- the first k numbers of a list, summed
abbrev pub up_to : List ℕ → ℕ → ℕ
up_to l k = sum_to k (λ i. get_or l i 0)

unfoldable pub sum_to_ℤ : ℕ → (ℕ → ℤ) → ℤ
sum_to_ℤ zero f = pos 0
sum_to_ℤ (suc n) f = sum_to_ℤ n f +ℤ f n

-- x where the test passes, else 0
abbrev pub only : Bool → ℕ → ℕ
only true x = x
only false x = 0
