-- Laws of sums. Assumes nothing.
use mathlib.Core.Path.{◌≡◌, refl, sym, ◌∙◌, ap}
use mathlib.Core.Logic.{◌≢◌}
use mathlib.Core.Bool.{Bool, true, false}
use mathlib.Core.List.{List, [], ◌∷◌, ◌++◌, map}
use Prim.Native.Nat.{ℕ, zero, suc, ◌+◌, ◌*◌, ◌≤◌, ◌<◌}
use native.Mathlib.Numerals.{add-one}
use native.Mathlib.Nat.{mul-zero, mul-suc, le_of_suc-le-suc, not-suc-le-zero}
use native.Mathlib.Omega.{arith}
use lib.Dec.{eqb}
use lib.ListN.{length, get_or, set, take, drop, length-drop}
use lib.Seq.{get_or-drop}
use Rattle.std.specs.List as std
use Rattle.std.proofs.lemmas.List.FromFn.{sum_by-map-range_with_len_more}
use Rattle.std.proofs.lemmas.List.Sums.{sum_by_more}
use lib.IntN.{ℤ, pos}
use Rattle.general.specs.Sums.{sum_over, sum_over_ℤ, sum, sum_to, up_to, sum_to_ℤ, only}
use Rattle.general.proofs.Signed.{up, dn, add-law}
use Rattle.general.proofs.Tests.{eqb_same, eqb-other, by_eqb}

-- ---- over a list

pub sum-append : {A : Type 0} (f : A → ℕ) (l : List A) (x : A) → sum_over f (l ++ (x ∷ [])) ≡ sum_over f l + f x
unfolding sum_over
sum-append f [] x = omega arith
sum-append f (y ∷ l) x = omega (arith, sum-append f l x)

-- the signed sum, by its ups and downs
pub sum_ℤ-append : {A : Type 0} (f : A → ℤ) (l : List A) (x : A)
    → up (sum_over_ℤ f (l ++ (x ∷ []))) + dn (sum_over_ℤ f l) + dn (f x) ≡ dn (sum_over_ℤ f (l ++ (x ∷ []))) + up (sum_over_ℤ f l) + up (f x)
unfolding sum_over_ℤ
sum_ℤ-append f [] x = omega (arith, add-law (f x) (pos 0))
sum_ℤ-append f (y ∷ l) x = omega (arith, sum_ℤ-append f l x, add-law (f y) (sum_over_ℤ f (l ++ (x ∷ []))), add-law (f y) (sum_over_ℤ f l))

pub sum-map : {A : Type 0} (f : A → ℕ) (l : List A) → sum (map f l) ≡ sum_over f l
unfolding sum_over
sum-map f [] = refl
sum-map f (x ∷ l) = omega (arith, sum-map f l)

pub sum-set : (l : List ℕ) (i v : ℕ) → i < length l → sum (set l i v) + get_or l i 0 ≡ sum l + v
unfolding sum_over
sum-set [] i v h = absurd (not-suc-le-zero h)
sum-set (x ∷ xs) zero v h = omega arith
sum-set (x ∷ xs) (suc i) v h = omega (arith, sum-set xs i v (le_of_suc-le-suc h))

pub at-le-sum : (l : List ℕ) (i : ℕ) → get_or l i 0 ≤ sum l
unfolding sum_over
at-le-sum [] i = omega arith
at-le-sum (x ∷ xs) zero = omega arith
at-le-sum (x ∷ xs) (suc i) = omega (arith, at-le-sum xs i)

-- ---- over a count

pub sum_to-same : (n : ℕ) (f g : ℕ → ℕ) → ((i : ℕ) → i < n → f i ≡ g i) → sum_to n f ≡ sum_to n g
unfolding sum_to
sum_to-same zero f g h = refl
sum_to-same (suc n) f g h = omega (arith, sum_to-same n f g (λ i k. h i (omega arith)), h n (omega arith))

pub sum_to-add : (n : ℕ) (f g : ℕ → ℕ) → sum_to n (λ i. f i + g i) ≡ sum_to n f + sum_to n g
unfolding sum_to
sum_to-add zero f g = refl
sum_to-add (suc n) f g = omega (arith, sum_to-add n f g)

pub sum_to-zero : (n : ℕ) → sum_to n (λ i. 0) ≡ 0
unfolding sum_to
sum_to-zero zero = refl
sum_to-zero (suc n) = omega (arith, sum_to-zero n)

pub sum_to-only : (n : ℕ) (t : Bool) (f : ℕ → ℕ) → sum_to n (λ i. only t (f i)) ≡ only t (sum_to n f)
sum_to-only n true f = refl
sum_to-only n false f = sum_to-zero n

pub sum_to-front : (n : ℕ) (f : ℕ → ℕ) → sum_to (suc n) f ≡ f 0 + sum_to n (λ i. f (suc i))
unfolding sum_to
sum_to-front zero f = omega arith
sum_to-front (suc n) f = omega (arith, sum_to-front n f)

pub sum_to-list : (l : List ℕ) → sum_to (length l) (λ i. get_or l i 0) ≡ sum l
unfolding sum_over sum_to
sum_to-list [] = refl
sum_to-list (x ∷ xs) = sum_to-front (length xs) (λ i. get_or (x ∷ xs) i 0) ∙ omega (arith, sum_to-list xs)

-- the first k numbers of a list
-- a list of which one part is read, place by place
pub sum_to-over : {A B : Type 0} (g : A → B) (d : B) (f : B → ℕ) (l : List A) → sum_to (length l) (λ i. f (get_or (map g l) i d)) ≡ sum_over (λ x. f (g x)) l
unfolding sum_to sum_over
sum_to-over g d f [] = refl
sum_to-over g d f (x ∷ l) = sum_to-front (length l) (λ i. f (get_or (map g (x ∷ l)) i d)) ∙ ap (λ (s : ℕ). f (g x) + s) (sum_to-over g d f l)

pub up_to-le : (l : List ℕ) (k : ℕ) → up_to l k ≤ sum l
unfolding sum_to sum_over
up_to-le [] k = omega (arith, none k)
  where
    none : (k : ℕ) → up_to [] k ≡ 0
    none zero = refl
    none (suc k) = omega (arith, none k)
up_to-le (x ∷ xs) zero = omega arith
up_to-le (x ∷ xs) (suc k) = omega (arith, up_to-le xs k, sum_to-front k (λ i. get_or (x ∷ xs) i 0))

-- a sum over more is no less
pub sum_to-rises : (f : ℕ → ℕ) (j k : ℕ) → j ≤ k → sum_to j f ≤ sum_to k f
unfolding sum_to
sum_to-rises f j zero h = let e : j ≡ 0 = omega arith in rw e (omega arith)
sum_to-rises f j (suc k) h = by_eqb j (suc k) (λ _. sum_to j f ≤ sum_to (suc k) f) (λ e. rw e (omega arith)) (λ e. omega (arith, sum_to-rises f j k (omega arith)))

-- one place only
sum_to-none : (n r x : ℕ) → n ≤ r → sum_to n (λ i. only (eqb r i) x) ≡ 0
unfolding sum_to
sum_to-none zero r x h = refl
sum_to-none (suc n) r x h = rw (eqb-other r n (omega arith)) (omega (arith, sum_to-none n r x (omega arith)))

pub sum_to-one : (n r x : ℕ) → r < n → sum_to n (λ i. only (eqb r i) x) ≡ x
unfolding sum_to
sum_to-one zero r x h = absurd (not-suc-le-zero h)
sum_to-one (suc n) r x h = by_eqb r n (λ b. sum_to n (λ i. only (eqb r i) x) + only b x ≡ x)
    (λ e. omega (arith, sum_to-none n r x (omega arith)))
    (λ ne. omega (arith, sum_to-one n r x (omega arith)))

-- of f s at a + s = z: none where no s fits, and f k where k does
pub sum_to-miss : (n a z : ℕ) (f : ℕ → ℕ) → ((s : ℕ) → s < n → a + s ≢ z) → sum_to n (λ s. only (eqb (a + s) z) (f s)) ≡ 0
sum_to-miss n a z f h = sum_to-same n _ (λ s. 0) (λ s k. rw (eqb-other (a + s) z (h s k))) ∙ sum_to-zero n

pub sum_to-pick : (n a z k : ℕ) (f : ℕ → ℕ) → k < n → a + k ≡ z → sum_to n (λ s. only (eqb (a + s) z) (f s)) ≡ f k
unfolding sum_to
sum_to-pick zero a z k f h e = absurd (not-suc-le-zero h)
sum_to-pick (suc n) a z k f h e = by_eqb k n (λ _. sum_to n (λ s. only (eqb (a + s) z) (f s)) + only (eqb (a + n) z) (f n) ≡ f k)
    (λ g. rw (sum_to-miss n a z f (λ s l. omega arith), ← g, e, eqb_same z) (omega arith))
    (λ g. rw (sum_to-pick n a z k f (omega arith) e, eqb-other (a + n) z (omega arith)) (omega arith))

-- a sum of sums
pub sum_to-add₂ : (n m : ℕ) (f g : ℕ → ℕ → ℕ)
    → sum_to n (λ i. sum_to m (λ j. f i j + g i j)) ≡ sum_to n (λ i. sum_to m (f i)) + sum_to n (λ i. sum_to m (g i))
sum_to-add₂ n m f g = sum_to-same n _ (λ i. sum_to m (f i) + sum_to m (g i)) (λ i _. sum_to-add m (f i) (g i)) ∙ sum_to-add n (λ i. sum_to m (f i)) (λ i. sum_to m (g i))

pub sum_to-zero₂ : (n m : ℕ) → sum_to n (λ i. sum_to m (λ j. 0)) ≡ 0
sum_to-zero₂ n m = sum_to-same n _ (λ i. 0) (λ i _. sum_to-zero m) ∙ sum_to-zero n

-- the signed sum of natural numbers
pub sum_to_ℤ-pos : (n : ℕ) (f : ℕ → ℤ) (g : ℕ → ℕ) → ((i : ℕ) → f i ≡ pos (g i)) → sum_to_ℤ n f ≡ pos (sum_to n g)
unfolding sum_to_ℤ sum_to
sum_to_ℤ-pos zero f g h = refl
sum_to_ℤ-pos (suc n) f g h = rw (sum_to_ℤ-pos n f g h, h n)

-- a number of a sum is no more than the sum
pub at-most-sum : (n : ℕ) (g : ℕ → ℕ) (j : ℕ) → j < n → g j ≤ sum_to n g
unfolding sum_to
at-most-sum zero g j h = absurd (omega arith)
at-most-sum (suc n) g j h = by_eqb j n (λ _. g j ≤ sum_to n g + g n) (λ e. omega (arith, ap g e)) (λ e. omega (arith, at-most-sum n g j (omega (arith, e, h))))

-- ---- in parts

pub sum_to-parts : (n m : ℕ) (f : ℕ → ℕ) → sum_to (n + m) f ≡ sum_to n f + sum_to m (λ k. f (n + k))
unfolding sum_to
sum_to-parts n zero f = let e : n + 0 ≡ n = omega arith in rw e (omega arith)
sum_to-parts n (suc m) f = let e : n + suc m ≡ suc (n + m) = omega arith in rw e (omega (arith, sum_to-parts n m f))

-- n rows of m numbers each, one row after the other
pub sum_to-rows : (m n : ℕ) (f : ℕ → ℕ) → sum_to (m * n) f ≡ sum_to n (λ w. sum_to m (λ k. f (m * w + k)))
unfolding sum_to
sum_to-rows m zero f = let e : m * 0 ≡ 0 = mul-zero m in rw e
sum_to-rows m (suc n) f = rw (mul-suc m n) (sum_to-parts (m * n) m f ∙ ap (λ (s : ℕ). s + sum_to m (λ k. f (m * n + k))) (sum_to-rows m n f))

pub sum_to-most : (n most : ℕ) (f : ℕ → ℕ) → ((k : ℕ) → k < n → f k ≤ most) → sum_to n f ≤ most * n
unfolding sum_to
sum_to-most zero most f h = omega arith
sum_to-most (suc n) most f h = omega (arith, sum_to-most n most f (λ k l. h k (omega arith)), h n (omega arith), mul-suc most n)

-- the library's sum of n numbers of a list, from a place on
pub sum-part : (l : List ℕ) (at n : ℕ) → at + n ≤ length l → std.sum (take n (drop at l)) ≡ sum_to n (λ k. get_or l (at + k) 0)
unfolding sum_to
sum-part l at zero h = refl
sum-part l at (suc n) h = rw (← add-one n, sum_by_more (λ x. x) (drop at l) n 0 (omega (arith, length-drop at l)), sum-part l at n (omega arith), get_or-drop at l n 0)

-- the library's sum of what a function makes of a range
pub sum-range : (f : ℕ → ℕ) (n : ℕ) → std.sum (map f (std.range_with_len 0 n)) ≡ sum_to n f
unfolding sum_to
sum-range f zero = refl
sum-range f (suc n) =
    ap (λ k. std.sum (map f (std.range_with_len 0 k))) (sym (add-one n))
    ∙ sum_by-map-range_with_len_more (λ x. x) f 0 n n (omega arith)
    ∙ ap (λ (x : ℕ). x + f n) (sum-range f n)
