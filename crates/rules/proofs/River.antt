-- Laws of the levels: a change along a path, the lowest available flow, and 0 ≤ available flow ≤ flow. Assumes nothing.
use mathlib.Core.Path.{◌≡◌, refl, sym, ◌∙◌}
use mathlib.Core.Bool.{Bool, true, false, cond}
use mathlib.Core.List.{List, [], ◌∷◌}
use Prim.Native.Nat.{ℕ, ◌≤◌, ◌<◌, min}
use native.Mathlib.Omega.{arith}
use native.Mathlib.Decide.{dec_lt}
use lib.ListN.{length, get_or-eq_default}
use lib.IntN.{ℤ, pos, negsuc}
use lib.Signed.{◌≤ℤ◌, le_z, le_z_yes, ≤ℤ_refl}
use Rattle.general.specs.Tests.{has}
use Rattle.general.proofs.Signed.{signed, eq-make, le_not, le-trans_ℤ, lower-law, raise-law}
use Rattle.general.proofs.Tests.{absurd-bool, by_eqb, T_of}
use Rattle.general.proofs.Search.{has-none, has_other}
use Rattle.general.proofs.Tables.{tab-length, tab-at}
use Rattle.rules.specs.River.{Level, dry, level_at, available_at, diverted, reserved, released, returned, along, lower, lowest, lesser, Sound}

-- ---- a change along a path

module _ (f : Level → Level) (p : List ℕ) (l : List Level) where
  pub along-length : length (along f p l) ≡ length l
  unfolding along
  along-length = tab-length _ (length l)

  pub along-at : (j : ℕ) → j < length l → level_at (along f p l) j ≡ cond (has j p) (f (level_at l j)) (level_at l j)
  unfolding along
  along-at j h = tab-at _ (length l) j dry h

  along-past : (j : ℕ) → length l ≤ j → level_at (along f p l) j ≡ dry
  along-past j h = get_or-eq_default (along f p l) dry {n = j} (rw along-length h)

  -- a property of levels is kept where the change keeps it at the rows of the path
  pub along-keeps : (P : Level → Type 0) → ((i : ℕ) → has i p ≡ true → P (level_at l i) → P (f (level_at l i))) → ((i : ℕ) → P (level_at l i)) → (i : ℕ) → P (level_at (along f p l) i)
  along-keeps P k h i = pick (dec_lt i (length l))
    where
      at : (b : Bool) → has i p ≡ b → P (cond b (f (level_at l i)) (level_at l i))
      at true e = k i e (h i)
      at false e = h i

      pick : Dec (i < length l) → P (level_at (along f p l) i)
      pick (yes q) = rw (along-at i q) (at (has i p) refl)
      pick (no q) = rw (along-past i (omega arith)) (rw (get_or-eq_default l dry {n = i} (omega arith)) at (h i))

-- ---- 0 ≤ available flow ≤ flow

abbrev pub AllSound : List Level → Type 0
AllSound l = (i : ℕ) → Sound (level_at l i)

diverted-sound : (d : ℕ) (x : Level) → pos d ≤ℤ x.available → Sound x → Sound (diverted d x)
unfolding diverted
diverted-sound d x h k = record {
  not_negative = omega (signed, lower-law x.available d);
  within_flow = omega (signed, lower-law x.available d, lower-law x.flow d);
}

reserved-sound : (d : ℕ) (x : Level) → pos d ≤ℤ x.available → Sound x → Sound (reserved d x)
unfolding reserved
reserved-sound d x h k = record { not_negative = omega (signed, lower-law x.available d); within_flow = omega (signed, lower-law x.available d) }

released-sound : (d : ℕ) (x : Level) → Sound x → Sound (released d x)
unfolding released
released-sound d x k = record { not_negative = k.not_negative; within_flow = omega (signed, raise-law x.flow d) }

returned-sound : (d : ℕ) (x : Level) → Sound x → Sound (returned d x)
unfolding returned
returned-sound d x k = record { not_negative = omega (signed, raise-law x.available d); within_flow = omega (signed, raise-law x.available d, raise-law x.flow d) }

module _ (d : ℕ) (p : List ℕ) (l : List Level) where
  pub diverted-along : ((i : ℕ) → has i p ≡ true → pos d ≤ℤ available_at l i) → AllSound l → AllSound (along (diverted d) p l)
  diverted-along h s = along-keeps (diverted d) p l Sound (λ i e. diverted-sound d (level_at l i) (h i e)) s

  pub reserved-along : ((i : ℕ) → has i p ≡ true → pos d ≤ℤ available_at l i) → AllSound l → AllSound (along (reserved d) p l)
  reserved-along h s = along-keeps (reserved d) p l Sound (λ i e. reserved-sound d (level_at l i) (h i e)) s

  pub released-along : AllSound l → AllSound (along (released d) p l)
  released-along s = along-keeps (released d) p l Sound (λ i e. released-sound d (level_at l i)) s

  pub returned-along : AllSound l → AllSound (along (returned d) p l)
  returned-along s = along-keeps (returned d) p l Sound (λ i e. returned-sound d (level_at l i)) s

-- ---- the lowest available flow

lower-le : (a b : ℤ) → (lower a b ≤ℤ a) × (lower a b ≤ℤ b)
lower-le a b = go (le_z a b) refl
  where
    go : (t : Bool) → le_z a b ≡ t → (cond t a b ≤ℤ a) × (cond t a b ≤ℤ b)
    go true e = (≤ℤ_refl a, le_z_yes (T_of e))
    go false e = (le_not a b e, ≤ℤ_refl b)

lower-least : (a b : ℤ) → pos 0 ≤ℤ a → pos 0 ≤ℤ b → pos 0 ≤ℤ lower a b
lower-least a b h k = go (le_z a b)
  where
    go : (t : Bool) → pos 0 ≤ℤ cond t a b
    go true = h
    go false = k

pub lowest-le : (l : List Level) (p : List ℕ) (i : ℕ) → has i p ≡ true → lowest l p ≤ℤ available_at l i
unfolding lowest
lowest-le l [] i e = absurd-bool e (has-none i)
lowest-le l (r ∷ []) i e = by_eqb i r (λ _. available_at l r ≤ℤ available_at l i) (λ f. rw f (≤ℤ_refl _)) (λ f. absurd-bool e (has_other i r [] f ∙ has-none i))
lowest-le l (r ∷ q ∷ p) i e = by_eqb i r (λ _. lower (available_at l r) (lowest l (q ∷ p)) ≤ℤ available_at l i)
    (λ f. rw f (lower-le (available_at l r) (lowest l (q ∷ p))).0)
    (λ f. le-trans_ℤ (lower-le (available_at l r) (lowest l (q ∷ p))).1 (lowest-le l (q ∷ p) i (sym (has_other i r (q ∷ p) f) ∙ e)))

pub lowest-least : (l : List Level) (p : List ℕ) → AllSound l → pos 0 ≤ℤ lowest l p
unfolding lowest
lowest-least l [] s = ≤ℤ_refl (pos 0)
lowest-least l (r ∷ []) s = (s r).not_negative
lowest-least l (r ∷ q ∷ p) s = lower-least (available_at l r) (lowest l (q ∷ p)) (s r).not_negative (lowest-least l (q ∷ p) s)

-- ---- the lesser of a demand and an available flow

pub lesser-le : (a : ℕ) (z : ℤ) → lesser a z ≤ a
unfolding lesser
lesser-le a (pos n) = omega arith
lesser-le a (negsuc n) = omega arith

pub lesser-fits : (a : ℕ) (z : ℤ) → pos 0 ≤ℤ z → pos (lesser a z) ≤ℤ z
unfolding lesser
lesser-fits a (pos n) h = omega signed
lesser-fits a (negsuc n) h = absurd h.le

-- where nothing is negative, nothing is cut off
pub lesser-signed : (a : ℕ) (z : ℤ) → pos 0 ≤ℤ z → pos (lesser a z) ≡ lower (pos a) z
unfolding lesser
lesser-signed a (pos n) h = go (le_z (pos a) (pos n)) refl
  where
    go : (t : Bool) → le_z (pos a) (pos n) ≡ t → pos (min a n) ≡ cond t (pos a) (pos n)
    go true e = let k : pos a ≤ℤ pos n = le_z_yes (T_of e) in eq-make (omega signed)
    go false e = let k : pos n ≤ℤ pos a = le_not (pos a) (pos n) e in eq-make (omega signed)
lesser-signed a (negsuc n) h = absurd h.le

-- what may be diverted fits at each row of the path
pub diversion-fits : (a : ℕ) (l : List Level) (p : List ℕ) → AllSound l → (i : ℕ) → has i p ≡ true → pos (lesser a (lowest l p)) ≤ℤ available_at l i
diversion-fits a l p s i e = le-trans_ℤ (lesser-fits a (lowest l p) (lowest-least l p s)) (lowest-le l p i e)
