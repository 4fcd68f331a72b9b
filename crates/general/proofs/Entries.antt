-- What holds of every entry of a table. Assumes nothing.
use mathlib.Core.Path.{◌≡◌, refl, ap, ◌∙◌}
use mathlib.Core.List.{[], ◌∷◌, ◌++◌, map, map-append}
use Prim.Native.Nat.{ℕ, zero, suc, ◌≤◌, ◌<◌}
use native.Mathlib.Decide.{dec_lt}
use native.Mathlib.Omega.{arith}
use lib.ListN.{get_or}
use Rattle.general.specs.Tables.{tab, All}
use Rattle.general.proofs.Lists.{all_append}
use Rattle.general.proofs.Tables.{tab-at, tab-past}

pub all-tab : {A : Type 0} (P : A → Type 0) (n : ℕ) (f : ℕ → A) → ((i : ℕ) → i < n → P (f i)) → All P (tab n f)
unfolding tab
all-tab P zero f h = tt
all-tab P (suc n) f h = all_append P (tab n f) (f n) (all-tab P n f (λ i l. h i (omega arith))) (h n (omega arith))

-- a bound on the entries bounds what stands at any place
pub tab-most : (n : ℕ) (f : ℕ → ℕ) (most : ℕ) → ((i : ℕ) → i < n → f i ≤ most) → (j : ℕ) → get_or (tab n f) j 0 ≤ most
tab-most n f most h j = pick (dec_lt j n)
  where
    pick : Dec (j < n) → get_or (tab n f) j 0 ≤ most
    pick (yes l) = omega (arith, tab-at f n j 0 l, h j l)
    pick (no l) = omega (arith, tab-past f n j 0 (omega arith))

pub tab-none : {A : Type 0} (f : ℕ → A) → tab 0 f ≡ []
unfolding tab
tab-none f = refl

pub map-tab : {A B : Type 0} (g : A → B) (n : ℕ) (f : ℕ → A) → map g (tab n f) ≡ tab n (λ i. g (f i))
unfolding tab
map-tab g zero f = refl
map-tab g (suc n) f = map-append g (tab n f) (f n ∷ []) ∙ ap (λ l. l ++ (g (f n) ∷ [])) (map-tab g n f)
