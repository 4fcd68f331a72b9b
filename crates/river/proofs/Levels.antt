-- Arrays and levels. Assumes nothing.
use mathlib.Core.Bool.{Bool, true, false, cond}
use mathlib.Core.List.{List, [], ◌∷◌}
use mathlib.Core.Logic.{◌≢◌}
use mathlib.Core.Path.{◌≡◌, refl, sym, ap, ◌∙◌}
use Prim.Native.Nat.{ℕ, ◌+◌, ◌-◌, ◌<◌, ◌≤◌}
use native.Mathlib.Omega.{arith}
use lib.ListN.{length, get_or, set}
use lib.Seq.{get_or-set_same, get_or-set_other, ext_get_or}
use lib.IntN.{ℤ, pos, ◌+ℤ◌, ◌-ℤ◌}
use Rattle.general.specs.Sums.{only}
use Rattle.general.specs.Tests.{has}
use Rattle.general.proofs.Search.{has-head, has-tail, has_other, has-none}
use Rattle.general.proofs.Signed.{up, dn, eq-make, lower-law, raise-law}
use Rattle.general.proofs.Tables.{tab-length, tab-at}
use Rattle.general.proofs.Tests.{absurd-bool, by_eqb}
use Rattle.rules.specs.River.{Level, dry, level_at, along, diverted, reserved, released, returned}
use Rattle.rules.proofs.River.{along-at, along-length}
use Rattle.river.specs.Arrays.{level, row_level, levels_of, Room}

pub levels-length : (n : ℕ) (f a : List ℕ) → length (levels_of n f a) ≡ n
unfolding levels_of
levels-length n f a = tab-length (row_level f a) n

pub levels-at : (n : ℕ) (f a : List ℕ) (w : ℕ) → w < n → level_at (levels_of n f a) w ≡ row_level f a w
unfolding levels_of
levels-at n f a w h = tab-at (row_level f a) n w dry h

-- ---- a change of levels, made and read row by row

abbrev pub changed_at : (Level → Level) → List ℕ → ℕ → Level → Level
changed_at g p w x = cond (has w p) (g x) x

module _ (n : ℕ) (g : Level → Level) (p f a f' a' : List ℕ) where
  pub change-made : ((w : ℕ) → w < n → row_level f' a' w ≡ changed_at g p w (row_level f a w)) → levels_of n f' a' ≡ along g p (levels_of n f a)
  change-made h =
      let e : length (levels_of n f' a') ≡ length (along g p (levels_of n f a)) = levels-length n f' a' ∙ sym (levels-length n f a) ∙ sym (along-length g p (levels_of n f a)) in
      ext_get_or dry (levels_of n f' a') (along g p (levels_of n f a)) e
      (λ w l. let l' : w < n = omega (arith, levels-length n f' a') in
      levels-at n f' a' w l' ∙ h w l' ∙ sym (along-at g p (levels_of n f a) w (omega (arith, levels-length n f a)) ∙ rw (levels-at n f a w l')))

  pub change-read : levels_of n f' a' ≡ along g p (levels_of n f a) → (w : ℕ) → w < n → row_level f' a' w ≡ changed_at g p w (row_level f a w)
  change-read e w h =
      sym (levels-at n f' a' w h) ∙ ap (λ (l : List Level). level_at l w) e ∙ along-at g p (levels_of n f a) w (omega (arith, levels-length n f a)) ∙ rw (levels-at n f a w h)

-- ---- one step of a walk: f₁, a₁ are the arrays once row i is done, f', a' those that the rest of the walk leaves

module _ (n i : ℕ) (g : Level → Level) (f a f₁ a₁ : List ℕ) (here : row_level f₁ a₁ i ≡ g (row_level f a i)) (other : (w : ℕ) → w ≢ i → row_level f₁ a₁ w ≡ row_level f a w) where
  pub walk-on : (p f' a' : List ℕ) → has i p ≡ false → levels_of n f' a' ≡ along g p (levels_of n f₁ a₁) → levels_of n f' a' ≡ along g (i ∷ p) (levels_of n f a)
  walk-on p f' a' ne e = change-made n g (i ∷ p) f a f' a' (λ w h. by_eqb w i (λ _. row_level f' a' w ≡ changed_at g (i ∷ p) w (row_level f a w))
      (λ z. change-read n g p f₁ a₁ f' a' e w h ∙ rw (z, ne, has-head i i p refl) here)
      (λ z. change-read n g p f₁ a₁ f' a' e w h ∙ rw (has_other w i p z, other w z)))

  pub walk-done : levels_of n f₁ a₁ ≡ along g (i ∷ []) (levels_of n f a)
  walk-done = change-made n g (i ∷ []) f a f₁ a₁ (λ w h. by_eqb w i (λ _. row_level f₁ a₁ w ≡ changed_at g (i ∷ []) w (row_level f a w))
      (λ z. rw (z, has-head i i [] refl) here)
      (λ z. rw (has_other w i [] z, has-none w) (other w z)))

pub change-nothing : (n : ℕ) (g : Level → Level) (f a : List ℕ) → levels_of n f a ≡ along g [] (levels_of n f a)
change-nothing n g f a = change-made n g [] f a f a (λ w h. rw (has-none w))

-- a change that changes no level
pub change-idle : (n : ℕ) (g : Level → Level) (p f a : List ℕ) → ((x : Level) → g x ≡ x) → levels_of n f a ≡ along g p (levels_of n f a)
change-idle n g p f a e = change-made n g p f a f a (λ w h. go (has w p) (row_level f a w))
  where
    go : (t : Bool) (x : Level) → x ≡ cond t (g x) x
    go true x = sym (e x)
    go false x = refl

-- ---- numbers with a sign

pub sub-pos : (x d : ℕ) → d ≤ x → pos (x - d) ≡ pos x -ℤ pos d
sub-pos x d h = eq-make (omega (arith, lower-law (pos x) d))

pub add-pos : (x d : ℕ) → pos (x + d) ≡ pos x +ℤ pos d
add-pos x d = eq-make (omega (arith, raise-law (pos x) d))

pub diverted-level : (x y d : ℕ) → d ≤ x → d ≤ y → level (x - d) (y - d) ≡ diverted d (level x y)
unfolding diverted
diverted-level x y d h k = rw (sub-pos x d h, sub-pos y d k)

pub returned-level : (x y d : ℕ) → level (x + d) (y + d) ≡ returned d (level x y)
unfolding returned
returned-level x y d = rw (add-pos x d, add-pos y d)

pub released-level : (x y d : ℕ) → level (x + d) y ≡ released d (level x y)
unfolding released
released-level x y d = rw (add-pos x d)

pub reserved-level : (x y d : ℕ) → d ≤ y → level x (y - d) ≡ reserved d (level x y)
unfolding reserved
reserved-level x y d k = rw (sub-pos y d k)

-- nothing diverted, reserved, returned or released changes nothing
less_zero : (z : ℤ) → z -ℤ pos 0 ≡ z
less_zero z = eq-make (omega (arith, lower-law z 0))

more-zero : (z : ℤ) → z +ℤ pos 0 ≡ z
more-zero z = eq-make (omega (arith, raise-law z 0))

pub diverted-zero : (x : Level) → diverted 0 x ≡ x
unfolding diverted
diverted-zero x = λ i. record { flow = less_zero x.flow i; available = less_zero x.available i }

pub reserved-zero : (x : Level) → reserved 0 x ≡ x
unfolding reserved
reserved-zero x = λ i. record { flow = x.flow; available = less_zero x.available i }

pub returned-zero : (x : Level) → returned 0 x ≡ x
unfolding returned
returned-zero x = λ i. record { flow = more-zero x.flow i; available = more-zero x.available i }

pub released-zero : (x : Level) → released 0 x ≡ x
unfolding released
released-zero x = λ i. record { flow = more-zero x.flow i; available = x.available }

-- ---- a store to one array

module _ (f a : List ℕ) (i x : ℕ) where
  pub flow-here : i < length f → row_level (set f i x) a i ≡ level x (get_or a i 0)
  flow-here h = rw (get_or-set_same f i x 0 h)

  pub flow-other : (w : ℕ) → w ≢ i → row_level (set f i x) a w ≡ row_level f a w
  flow-other w z = rw (get_or-set_other f i w x 0 z)

  pub available-here : i < length a → row_level f (set a i x) i ≡ level (get_or f i 0) x
  available-here h = rw (get_or-set_same a i x 0 h)

  pub available-other : (w : ℕ) → w ≢ i → row_level f (set a i x) w ≡ row_level f a w
  available-other w z = rw (get_or-set_other a i w x 0 z)

-- ---- what a store at a row leaves of the conditions on the rest of the path

module _ (d i x : ℕ) (p l : List ℕ) (ne : has i p ≡ false) where
  not-here : (k : ℕ) → has k p ≡ true → k ≢ i
  not-here k e z = absurd-bool e (rw z ne)

  pub room-on : Room d (i ∷ p) l → Room d p (set l i x)
  room-on h = record { fits = λ k e. rw (get_or-set_other l i k x 0 (not-here k e)) (h.fits k (has-tail k i p e)) }

-- ---- what a change says of the arrays, row by row

pos_inj : (x y : ℕ) → pos x ≡ pos y → x ≡ y
pos_inj x y e = ap up e

module _ (n d : ℕ) (p f a f' a' : List ℕ) where
  pub returned-read : levels_of n f' a' ≡ along (returned d) p (levels_of n f a) → (w : ℕ) → w < n
      → (get_or f' w 0 ≡ get_or f w 0 + only (has w p) d) × (get_or a' w 0 ≡ get_or a w 0 + only (has w p) d)
  unfolding returned
  returned-read e w h = go (has w p) (change-read n (returned d) p f a f' a' e w h)
    where
      go : (t : Bool) → row_level f' a' w ≡ cond t (returned d (row_level f a w)) (row_level f a w) → (get_or f' w 0 ≡ get_or f w 0 + only t d) × (get_or a' w 0 ≡ get_or a w 0 + only t d)
      go true q = (pos_inj _ _ (ap (λ (x : Level). x.flow) q ∙ sym (add-pos (get_or f w 0) d)), pos_inj _ _ (ap (λ (x : Level). x.available) q ∙ sym (add-pos (get_or a w 0) d)))
      go false q =
          let y : get_or f' w 0 ≡ get_or f w 0 = pos_inj _ _ (ap (λ (x : Level). x.flow) q) in
          let z : get_or a' w 0 ≡ get_or a w 0 = pos_inj _ _ (ap (λ (x : Level). x.available) q) in
          (omega arith, omega arith)

  pub released-read : levels_of n f' a' ≡ along (released d) p (levels_of n f a) → (w : ℕ) → w < n
      → (get_or f' w 0 ≡ get_or f w 0 + only (has w p) d) × (get_or a' w 0 ≡ get_or a w 0)
  unfolding released
  released-read e w h = go (has w p) (change-read n (released d) p f a f' a' e w h)
    where
      go : (t : Bool) → row_level f' a' w ≡ cond t (released d (row_level f a w)) (row_level f a w) → (get_or f' w 0 ≡ get_or f w 0 + only t d) × (get_or a' w 0 ≡ get_or a w 0)
      go true q = (pos_inj _ _ (ap (λ (x : Level). x.flow) q ∙ sym (add-pos (get_or f w 0) d)), pos_inj _ _ (ap (λ (x : Level). x.available) q))
      go false q =
          let y : get_or f' w 0 ≡ get_or f w 0 = pos_inj _ _ (ap (λ (x : Level). x.flow) q) in
          let z : get_or a' w 0 ≡ get_or a w 0 = pos_inj _ _ (ap (λ (x : Level). x.available) q) in
          (omega arith, omega arith)

  pub diverted-read : levels_of n f' a' ≡ along (diverted d) p (levels_of n f a) → (w : ℕ) → w < n
      → (get_or f' w 0 + only (has w p) d ≡ get_or f w 0) × (get_or a' w 0 + only (has w p) d ≡ get_or a w 0)
  unfolding diverted
  diverted-read e w h = go (has w p) (change-read n (diverted d) p f a f' a' e w h)
    where
      less : (x y : ℕ) → pos x ≡ pos y -ℤ pos d → x + d ≡ y
      less x y q = omega (arith, lower-law (pos y) d, ap up q, ap dn q)

      go : (t : Bool) → row_level f' a' w ≡ cond t (diverted d (row_level f a w)) (row_level f a w) → (get_or f' w 0 + only t d ≡ get_or f w 0) × (get_or a' w 0 + only t d ≡ get_or a w 0)
      go true q = (less _ _ (ap (λ (x : Level). x.flow) q), less _ _ (ap (λ (x : Level). x.available) q))
      go false q =
          let y : get_or f' w 0 ≡ get_or f w 0 = pos_inj _ _ (ap (λ (x : Level). x.flow) q) in
          let z : get_or a' w 0 ≡ get_or a w 0 = pos_inj _ _ (ap (λ (x : Level). x.available) q) in
          (omega arith, omega arith)
