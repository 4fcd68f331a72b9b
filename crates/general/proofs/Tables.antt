-- Laws of tables. Assumes nothing.
use mathlib.Core.Path.{◌≡◌, refl, sym, ap, ◌∙◌}
use mathlib.Core.Logic.{◌≢◌}
use mathlib.Core.List.{List, [], ◌∷◌, ◌++◌}
use Prim.Native.Nat.{ℕ, zero, suc, ◌≤◌, ◌<◌}
use native.Mathlib.Numerals.{add-one}
use native.Mathlib.Decide.{dec_lt}
use native.Mathlib.Omega.{arith}
use lib.ListN.{length, get_or, set, length-set, length-append, get_or-append, get_or-eq_default}
use lib.Seq.{get_or_at, get_or-set_same, get_or-set_other, ext_get_or}
use Rattle.general.specs.Sums.{sum_over, sum, sum_to}
use Rattle.general.specs.Tables.{tab}
use Rattle.general.proofs.Sums.{sum-append}
use Rattle.general.proofs.Tests.{by_eqb}

module _ {A : Type 0} (f : ℕ → A) where
  pub tab-length : (n : ℕ) → length (tab n f) ≡ n
  unfolding tab
  tab-length zero = refl
  tab-length (suc n) = length-append (tab n f) (f n ∷ []) ∙ rw (tab-length n) (add-one n)

  pub tab-at : (n j : ℕ) (d : A) → j < n → get_or (tab n f) j d ≡ f j
  unfolding tab
  tab-at zero j d h = absurd (omega arith)
  tab-at (suc n) j d h = pick (dec_lt j n) (tab-at n j d)
    where
      pick : Dec (j < n) → (j < n → get_or (tab n f) j d ≡ f j) → get_or (tab n f ++ (f n ∷ [])) j d ≡ f j
      pick (yes k) ih = get_or-append (tab n f) (f n ∷ []) d j (rw (tab-length n) k) ∙ ih k
      pick (no k) ih = let e : j ≡ n = omega arith in rw e (get_or_at (tab n f) (f n) [] d n (tab-length n))

  -- past its end a table gives the default
  pub tab-past : (n j : ℕ) (d : A) → n ≤ j → get_or (tab n f) j d ≡ d
  tab-past n j d h = get_or-eq_default (tab n f) d {n = j} (rw (tab-length n) h)

module _ {A : Type 0} where
  pub tab-same : (n : ℕ) (f g : ℕ → A) → ((j : ℕ) → j < n → f j ≡ g j) → tab n f ≡ tab n g
  unfolding tab
  tab-same zero f g h = refl
  tab-same (suc n) f g h = λ z. tab-same n f g (λ j l. h j (omega arith)) z ++ (h n (omega arith) z ∷ [])

  -- a list is the table of its elements
  pub tab-of : (l : List A) (d : A) (n : ℕ) (f : ℕ → A) → length l ≡ n → ((i : ℕ) → i < n → f i ≡ get_or l i d) → tab n f ≡ l
  tab-of l d n f e h = ext_get_or d (tab n f) l (tab-length f n ∙ sym e) (λ i k. let j : i < n = rw (tab-length f n) at k in tab-at f n i d j ∙ h i j)

-- what a loop has written, place by place
pub tab-filled : {A : Type 0} (f : ℕ → A) (l : List A) (n : ℕ) (d : A) → length l ≡ n → ((k : ℕ) → k < n → get_or l k d ≡ f k) → l ≡ tab n f
tab-filled f l n d e h = sym (tab-of l d n f e (λ k o. sym (h k o)))

-- after a store at one place
pub tab-set : {A : Type 0} (n : ℕ) (f g : ℕ → A) (i : ℕ) (x d : A) → i < n → g i ≡ x → ((k : ℕ) → k < n → k ≢ i → g k ≡ f k) → tab n g ≡ set (tab n f) i x
tab-set n f g i x d h e o =
    ext_get_or d (tab n g) (set (tab n f) i x) (tab-length g n ∙ sym (length-set (tab n f) i x ∙ tab-length f n))
    (λ k l. let m : k < n = rw (tab-length g n) at l in
    by_eqb k i (λ _. get_or (tab n g) k d ≡ get_or (set (tab n f) i x) k d)
    (λ z. rw z (tab-at g n i d h ∙ e ∙ sym (get_or-set_same (tab n f) i x d (rw (tab-length f n) h))))
    (λ z. tab-at g n k d m ∙ o k m z ∙ sym (get_or-set_other (tab n f) i k x d z ∙ tab-at f n k d m)))

pub sum-tab : (n : ℕ) (f : ℕ → ℕ) → sum (tab n f) ≡ sum_to n f
unfolding tab sum_to sum_over
sum-tab zero f = refl
sum-tab (suc n) f = omega (arith, sum-append (λ x. x) (tab n f) (f n), sum-tab n f)

pub tab-cons : {A : Type 0} (n : ℕ) (f : ℕ → A) → tab (suc n) f ≡ f 0 ∷ tab n (λ k. f (suc k))
tab-cons n f = ext_get_or (f 0) (tab (suc n) f) (f 0 ∷ tab n (λ k. f (suc k))) (tab-length f (suc n) ∙ ap suc (sym (tab-length (λ k. f (suc k)) n))) each
  where
    each : (i : ℕ) → i < length (tab (suc n) f) → get_or (tab (suc n) f) i (f 0) ≡ get_or (f 0 ∷ tab n (λ k. f (suc k))) i (f 0)
    each zero h = tab-at f (suc n) 0 (f 0) (omega arith)
    each (suc i) h = let o : suc i < suc n = omega (arith, h, tab-length f (suc n)) in tab-at f (suc n) (suc i) (f 0) o ∙ sym (tab-at (λ k. f (suc k)) n i (f 0) (omega (arith, o)))
