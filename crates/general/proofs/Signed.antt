-- ℤ for omega: a signed number z is up z − dn z, and each operation is a linear equation between ups and downs. Assumes nothing.
use mathlib.Core.Path.{◌≡◌, refl, ap, subst}
use mathlib.Core.Bool.{Bool, true, false, not, cond}
use Prim.Native.Nat.{ℕ, zero, suc, ◌+◌, ◌-◌, ◌≤◌, ◌<◌}
use native.Mathlib.Omega.{arith}
use lib.Dec.{T, nleb→lt, ltb, leb→le, le→leb, ltb→lt, nltb→le}
use lib.IntN.{ℤ, pos, negsuc, neg_ℤ, ◌+ℤ◌, ◌-ℤ◌, sub_ℕ}
use lib.Signed.{◌≤ℤ◌, le_z}

abbrev pub up : ℤ → ℕ
up (pos n) = n
up (negsuc n) = 0

abbrev pub dn : ℤ → ℕ
dn (pos n) = 0
dn (negsuc n) = suc n

split : (c : Bool) (x y : ℤ) (P : ℤ → Type 0) → (T c → P x) → (T (not c) → P y) → P (cond c x y)
split true x y P f g = f tt
split false x y P f g = g tt

sub-law : (a b : ℕ) → up (sub_ℕ a b) + b ≡ dn (sub_ℕ a b) + a
sub-law a b = split (ltb a b) (negsuc (b - suc a)) (pos (a - b)) (λ z. up z + b ≡ dn z + a)
    (λ t. let h : a < b = ltb→lt a b t in omega arith)
    (λ t. let h : b ≤ a = nltb→le a b t in omega arith)

pub add-law : (a b : ℤ) → up (a +ℤ b) + dn a + dn b ≡ dn (a +ℤ b) + up a + up b
add-law (pos a) (pos b) = omega arith
add-law (pos a) (negsuc b) = omega (arith, sub-law a (suc b))
add-law (negsuc a) (pos b) = omega (arith, sub-law b (suc a))
add-law (negsuc a) (negsuc b) = omega arith

neg-up : (a : ℤ) → up (neg_ℤ a) ≡ dn a
neg-up (pos zero) = refl
neg-up (pos (suc n)) = refl
neg-up (negsuc n) = refl

neg-dn : (a : ℤ) → dn (neg_ℤ a) ≡ up a
neg-dn (pos zero) = refl
neg-dn (pos (suc n)) = refl
neg-dn (negsuc n) = refl

-- less a natural number, and more by one
pub lower-law : (z : ℤ) (d : ℕ) → up (z -ℤ pos d) + dn z + d ≡ dn (z -ℤ pos d) + up z
lower-law z d = omega (arith, add-law z (neg_ℤ (pos d)), neg-up (pos d), neg-dn (pos d))

pub raise-law : (z : ℤ) (d : ℕ) → up (z +ℤ pos d) + dn z ≡ dn (z +ℤ pos d) + up z + d
raise-law z d = omega (arith, add-law z (pos d))

pub le_read : {a b : ℤ} → a ≤ℤ b → up a + dn b ≤ up b + dn a
le_read {a = pos a} {b = pos b} h = omega (arith, leb→le a b h.le)
le_read {a = pos a} {b = negsuc b} h = absurd h.le
le_read {a = negsuc a} {b = pos b} h = omega arith
le_read {a = negsuc a} {b = negsuc b} h = omega (arith, leb→le b a h.le)

le_test : (a b : ℤ) → up a + dn b ≤ up b + dn a → T (le_z a b)
le_test (pos a) (pos b) h = le→leb a b (omega arith)
le_test (pos a) (negsuc b) h = omega arith
le_test (negsuc a) (pos b) h = tt
le_test (negsuc a) (negsuc b) h = le→leb b a (omega arith)

pub le-make : {a b : ℤ} → up a + dn b ≤ up b + dn a → a ≤ℤ b
le-make {a} {b} h = record { le = le_test a b h }

pub eq-make : {a b : ℤ} → up a + dn b ≡ up b + dn a → a ≡ b
eq-make {a = pos a} {b = pos b} h = ap pos (omega arith)
eq-make {a = pos a} {b = negsuc b} h = absurd (omega arith)
eq-make {a = negsuc a} {b = pos b} h = absurd (omega arith)
eq-make {a = negsuc a} {b = negsuc b} h = ap negsuc (omega arith)

pub le_not : (z y : ℤ) → le_z z y ≡ false → y ≤ℤ z
le_not (pos a) (pos b) e = le-make (omega (arith, nleb→lt a b (rw e tt)))
le_not (pos a) (negsuc b) e = record { le = tt }
le_not (negsuc a) (pos b) e = absurd (subst T e tt)
le_not (negsuc a) (negsuc b) e = le-make (omega (arith, nleb→lt b a (rw e tt)))

pub le-trans_ℤ : {a b c : ℤ} → a ≤ℤ b → b ≤ℤ c → a ≤ℤ c
le-trans_ℤ {a} {b} {c} h k = le-make (omega (arith, le_read h, le_read k))

-- with this list omega proves orders of ℤ
pub ruleset signed = (arith, le_read, le-make)
