-- Facts of get_or and set that the library lacks. Assumes nothing.
use mathlib.Core.Path.{◌≡◌, refl, sym, ap, subst}
use mathlib.Core.Bool.{Bool, true, false, cond}
use mathlib.Core.List.{List, [], ◌∷◌, ◌++◌, map}
use Prim.Native.Nat.{ℕ, zero, suc, ◌+◌, ◌-◌, ◌≤◌, ◌<◌}
use native.Mathlib.Omega.{arith}
use lib.Dec.{eqb}
use lib.ListN.{length, get_or, set, drop, replicate}
use lib.Seq.{get_or-set_same, get_or-set_other}
use Rattle.general.specs.Sums.{only}
use Rattle.general.specs.Tables.{All}
use Rattle.general.proofs.Tests.{by_eqb}

-- one place raised, and one lowered
pub set-raised : (l : List ℕ) (i d v : ℕ) → i < length l → get_or (set l i (get_or l i 0 + d)) v 0 ≡ get_or l v 0 + only (eqb i v) d
set-raised l i d v h = by_eqb i v (λ t. get_or (set l i (get_or l i 0 + d)) v 0 ≡ get_or l v 0 + only t d)
    (λ e. subst (λ (u : ℕ). get_or (set l i (get_or l i 0 + d)) u 0 ≡ get_or l u 0 + d) e (get_or-set_same l i (get_or l i 0 + d) 0 h))
    (λ e. omega (arith, get_or-set_other l i v (get_or l i 0 + d) 0 (λ f. e (sym f))))

pub set-lowered : (l : List ℕ) (i x v : ℕ) → i < length l → x ≤ get_or l i 0 → get_or (set l i (get_or l i 0 - x)) v 0 + only (eqb i v) x ≡ get_or l v 0
set-lowered l i x v h k = by_eqb i v (λ t. get_or (set l i (get_or l i 0 - x)) v 0 + only t x ≡ get_or l v 0)
    (λ e. subst (λ (u : ℕ). get_or (set l i (get_or l i 0 - x)) u 0 + x ≡ get_or l u 0) e (omega (arith, get_or-set_same l i (get_or l i 0 - x) 0 h)))
    (λ e. omega (arith, get_or-set_other l i v (get_or l i 0 - x) 0 (λ f. e (sym f))))

-- a bound for each place is kept by a store that keeps it
pub set-within : (f : ℕ → ℕ) (l : List ℕ) (i x : ℕ) → x ≤ f i → ((v : ℕ) → get_or l v 0 ≤ f v) → (v : ℕ) → get_or (set l i x) v 0 ≤ f v
set-within f [] i x h k v = k v
set-within f (y ∷ ys) zero x h k zero = h
set-within f (y ∷ ys) zero x h k (suc v) = k (suc v)
set-within f (y ∷ ys) (suc i) x h k zero = k 0
set-within f (y ∷ ys) (suc i) x h k (suc v) = set-within (λ j. f (suc j)) ys i x h (λ j. k (suc j)) v

pub get_d-zeros : (n i : ℕ) → ◌≡◌ {A = ℕ} (get_or (replicate n 0) i 0) 0
get_d-zeros zero i = refl
get_d-zeros (suc n) zero = refl
get_d-zeros (suc n) (suc i) = get_d-zeros n i

pub get_d-falses : (n i : ℕ) → ◌≡◌ {A = Bool} (get_or (replicate n false) i false) false
get_d-falses zero i = refl
get_d-falses (suc n) zero = refl
get_d-falses (suc n) (suc i) = get_d-falses n i

pub length-cond : {A : Type 0} (t : Bool) (x y : List A) (n : ℕ) → length x ≡ n → length y ≡ n → length (cond t x y) ≡ n
length-cond true x y n e f = e
length-cond false x y n e f = f

-- ---- a property of every element

pub all_append : {A : Type 0} (P : A → Type 0) (l : List A) (x : A) → All P l → P x → All P (l ++ (x ∷ []))
all_append P [] x h k = (k, tt)
all_append P (y ∷ l) x h k = (h.0, all_append P l x h.1 k)

pub all-at-place : {A : Type 0} (P : A → Type 0) (l : List A) (d : A) → All P l → (i : ℕ) → i < length l → P (get_or l i d)
all-at-place P [] d h i k = absurd (omega arith)
all-at-place P (x ∷ l) d h zero k = h.0
all-at-place P (x ∷ l) d h (suc i) k = all-at-place P l d h.1 i (omega arith)

-- a place of a list that a function maps, whatever the defaults
pub get_d-map-in : {A B : Type 0} (f : A → B) (l : List A) (i : ℕ) (d : B) (e : A) → i < length l → get_or (map f l) i d ≡ f (get_or l i e)
get_d-map-in f [] i d e h = absurd (omega arith)
get_d-map-in f (x ∷ l) zero d e h = refl
get_d-map-in f (x ∷ l) (suc i) d e h = get_d-map-in f l i d e (omega arith)

-- ---- by where a place stands

pub by_place : (m n : ℕ) (P : Type 0) → (m < n → P) → (n ≤ m → P) → P
by_place m zero P f g = g (omega arith)
by_place zero (suc n) P f g = f (omega arith)
by_place (suc m) (suc n) P f g = by_place m n P (λ h. f (omega (arith, h))) (λ h. g (omega (arith, h)))

-- ---- lists from a place on

pub drop_at : {A : Type 0} (l : List A) (k : ℕ) (d : A) → k < length l → drop k l ≡ get_or l k d ∷ drop (suc k) l
drop_at [] k d h = absurd (omega arith)
drop_at (x ∷ l) zero d h = refl
drop_at (x ∷ l) (suc k) d h = drop_at l k d (omega arith)

pub drop-next : {A : Type 0} (l : List A) (k : ℕ) (x : A) (r : List A) → drop k l ≡ x ∷ r → drop (suc k) l ≡ r
drop-next [] zero x r e = absurd (omega (arith, ap length e))
drop-next (y ∷ l) zero x r e = ap (drop 1) e
drop-next [] (suc k) x r e = absurd (omega (arith, ap length e))
drop-next (y ∷ l) (suc k) x r e = drop-next l k x r e

pub drop_head : {A : Type 0} (l : List A) (k : ℕ) (x d : A) (r : List A) → drop k l ≡ x ∷ r → get_or l k d ≡ x
drop_head [] zero x d r e = absurd (omega (arith, ap length e))
drop_head (y ∷ l) zero x d r e = ap (λ (z : List _). get_or z 0 d) e
drop_head [] (suc k) x d r e = absurd (omega (arith, ap length e))
drop_head (y ∷ l) (suc k) x d r e = drop_head l k x d r e

pub drop_all : {A : Type 0} (l : List A) (k : ℕ) → length l ≤ k → drop k l ≡ []
drop_all [] zero h = refl
drop_all [] (suc k) h = refl
drop_all (x ∷ l) zero h = absurd (omega arith)
drop_all (x ∷ l) (suc k) h = drop_all l k (omega arith)
