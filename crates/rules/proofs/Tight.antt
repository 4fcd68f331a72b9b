-- The tight spot that holds a right back: the first row of its path that passes a test. Assumes nothing.
use mathlib.Core.Path.{◌≡◌, refl, sym, ap, ◌∙◌}
use mathlib.Core.Bool.{Bool, true, false, cond, ◌||◌}
use mathlib.Core.List.{List, [], ◌∷◌}
use Prim.Native.Nat.{ℕ, ◌<◌}
use lib.ListN.{get_or}
use lib.Signed.{le_z, ≤ℤ_refl}
use Rattle.general.specs.Tests.{has}
use Rattle.general.proofs.Search.{has-none, has-head, has-tail, has_other}
use Rattle.general.proofs.Tests.{absurd-bool, true_of, by_eqb}
use Rattle.rules.specs.Basin.{Right, Basin, rows}
use Rattle.rules.specs.Path.{until_row}
use Rattle.rules.specs.River.{Level, available_at, lowest}
use Rattle.rules.specs.Turn.{State, path_of, any_on, called, first_on, is_short_at, first_short, is_lowest, first_lowest}
use Rattle.rules.specs.Theorems.{IsFirst}
use Rattle.rules.proofs.Path.{until_stop, until-on, path-head}

-- ---- the first that passes

module _ (t : ℕ → Bool) where
  pub first-here : (x : ℕ) (p : List ℕ) → t x ≡ true → first_on t (x ∷ p) ≡ x
  unfolding first_on
  first-here x p e = rw e

  pub first-later : (x : ℕ) (p : List ℕ) → t x ≡ false → first_on t (x ∷ p) ≡ first_on t p
  unfolding first_on
  first-later x p e = rw e

  -- a row that stands twice is asked twice
  pub first-twice : (x : ℕ) (p : List ℕ) → first_on t (x ∷ x ∷ p) ≡ first_on t (x ∷ p)
  unfolding first_on
  first-twice x p = go (t x)
    where
      go : (b : Bool) → cond b x (cond b x (first_on t p)) ≡ cond b x (first_on t p)
      go true = refl
      go false = refl

  -- where one passes there is a first
  first-is : (p : List ℕ) (q : ℕ) → has q p ≡ true → t q ≡ true → IsFirst t p (first_on t p)
  first-is [] q h e = absurd-bool h (has-none q)
  first-is (x ∷ p) q h e = go (t x) refl (first-is p q)
    where
      above : (z : ℕ) → t x ≡ false → ((k : ℕ) → has k (until_row z p) ≡ true → t k ≡ false) → (k : ℕ) → has k (until_row z (x ∷ p)) ≡ true → t k ≡ false
      above z f ih k l = by_eqb x z (λ _. t k ≡ false)
          (λ g. absurd-bool l (ap (has k) (until_stop z x p g) ∙ has-none k))
          (λ g. let m : has k (x ∷ until_row z p) ≡ true = sym (ap (has k) (until-on z x p g)) ∙ l in
          by_eqb k x (λ _. t k ≡ false) (λ i. ap t i ∙ f) (λ i. ih k (sym (has_other k x (until_row z p) i) ∙ m)))

      go : (b : Bool) → t x ≡ b → (has q p ≡ true → t q ≡ true → IsFirst t p (first_on t p)) → IsFirst t (x ∷ p) (first_on t (x ∷ p))
      go true f ih = rw (first-here x p f) (record { on = has-head x x p refl; passes = f; none_above = λ k l. absurd-bool l (ap (has k) (until_stop x x p refl) ∙ has-none k) })
      go false f ih =
          let w : IsFirst t p (first_on t p) = by_eqb q x (λ _. IsFirst t p (first_on t p)) (λ g. absurd-bool e (ap t g ∙ f)) (λ g. ih (sym (has_other q x p g) ∙ h) e) in
          rw (first-later x p f) (record { on = has-tail (first_on t p) x p w.on; passes = w.passes; none_above = above (first_on t p) f w.none_above })

-- tests that agree on the path have the same first
pub first-same : (t u : ℕ → Bool) (p : List ℕ) → ((k : ℕ) → has k p ≡ true → t k ≡ u k) → first_on t p ≡ first_on u p
unfolding first_on
first-same t u [] h = refl
first-same t u (x ∷ p) h = rw (h x (has-head x x p refl), first-same t u p (λ k l. h k (has-tail k x p l)))

-- ---- called out: a short row is on the path

any-is : (f : List Bool) (p : List ℕ) → any_on f p ≡ true → (q : ℕ) × (has q p ≡ true) × (get_or f q false ≡ true)
unfolding any_on
any-is f [] e = absurd-bool e refl
any-is f (x ∷ p) e = go (get_or f x false) refl (any-is f p) e
  where
    go : (b : Bool) → get_or f x false ≡ b → (any_on f p ≡ true → (q : ℕ) × (has q p ≡ true) × (get_or f q false ≡ true)) → (b || any_on f p) ≡ true → (q : ℕ) × (has q (x ∷ p) ≡ true) × (get_or f q false ≡ true)
    go true g ih h = (x, has-head x x p refl, g)
    go false g ih h = let w = ih h in (w.0, has-tail w.0 x p w.1, w.2)

pub called-first : (b : Basin) (r : Right) (s : State) → called b r s ≡ true → IsFirst (is_short_at s) (path_of b r) (first_short s (path_of b r))
unfolding called
called-first b r s e = let w = any-is s.short (path_of b r) e in first-is (is_short_at s) (path_of b r) w.0 w.1 w.2

-- ---- river low: the lowest available flow of a path is that of one of its rows

lowest-is : (l : List Level) (r : ℕ) (p : List ℕ) → (q : ℕ) × (has q (r ∷ p) ≡ true) × (lowest l (r ∷ p) ≡ available_at l q)
unfolding lowest
lowest-is l r [] = (r, has-head r r [] refl, refl)
lowest-is l r (x ∷ p) = go (le_z (available_at l r) (lowest l (x ∷ p))) (lowest-is l x p)
  where
    go : (b : Bool) → (q : ℕ) × (has q (x ∷ p) ≡ true) × (lowest l (x ∷ p) ≡ available_at l q)
        → (q : ℕ) × (has q (r ∷ x ∷ p) ≡ true) × (cond b (available_at l r) (lowest l (x ∷ p)) ≡ available_at l q)
    go true h = (r, has-head r r (x ∷ p) refl, refl)
    go false h = (h.0, has-tail h.0 r (x ∷ p) h.1, h.2)

low-here : (s : State) (r : ℕ) (p : List ℕ) → IsFirst (is_lowest s (r ∷ p)) (r ∷ p) (first_lowest s (r ∷ p))
low-here s r p = let h = lowest-is s.levels r p in first-is (is_lowest s (r ∷ p)) (r ∷ p) h.0 h.1 (rw h.2 (true_of (≤ℤ_refl (available_at s.levels h.0)).le))

pub low_first : (b : Basin) (r : Right) → r.row < rows b → (s : State) → IsFirst (is_lowest s (path_of b r)) (path_of b r) (first_lowest s (path_of b r))
low_first b r h s = let p = path-head b.stations r.row h in rw p.1 (low-here s r.row p.0)
