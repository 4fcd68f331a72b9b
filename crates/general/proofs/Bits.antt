-- Bits of a word: what the lowest and the others are, what becomes of them when one is set or cleared, and how many are set. Assumes nothing.
use mathlib.Core.Path.{◌≡◌, refl, sym, ap, ◌∙◌}
use mathlib.Core.Logic.{◌≢◌}
use mathlib.Core.Bool.{Bool, true, false}
use Prim.Native.Nat.{ℕ, zero, suc, ◌+◌, ◌-◌, ◌/◌, ◌*◌, ◌%◌, ◌^◌, ◌≤◌, ◌<◌}
use native.Mathlib.Nat.{pow-suc, mul_comm, div-div-eq-div-mul, zero-div}
use native.Mathlib.Decide.{dec_lt}
use native.Mathlib.Omega.{arith}
use lib.Bits.{bit_and, bit_or, and_high, and_le_l, and_le_r, or_lt, or_add_and}
use lib.Count.{ones, ones_step}
use lib.Dec.{ltb, eqb}
use Rattle.general.specs.Sums.{sum_to, only}
use Rattle.general.specs.Tests.{◌and◌, bit, with_bit, bits_set}
use Rattle.general.proofs.Tests.{absurd-bool, by_eqb, eqb-other, ltb_yes, ltb_no, and-of}
use Rattle.general.proofs.Loops.{and_no, and-not}
use Rattle.general.proofs.Sums.{sum_to-same, sum_to-front}

-- ---- the lowest bit, and the others

pub bit-none : (i : ℕ) → bit 0 i ≡ false
unfolding bit
bit-none i = rw (zero-div (2 ^ i))

pub bit-zero : (w : ℕ) → bit w 0 ≡ eqb (w % 2) 1
unfolding bit
bit-zero w = let e : w / 1 ≡ w = omega arith in rw e

pub bit-suc : (w k : ℕ) → bit w (suc k) ≡ bit (w / 2) k
unfolding bit
bit-suc w k = let e : w / 2 ^ suc k ≡ w / 2 / 2 ^ k = rw (pow-suc 2 k, mul_comm (2 ^ k) 2) (sym (div-div-eq-div-mul w 2 (2 ^ k))) in rw e

odd-one : (w : ℕ) → w % 2 ≡ 1 → eqb (w % 2) 1 ≡ true
odd-one w e = rw e

not-odd : (w : ℕ) → bit w 0 ≡ false → w % 2 ≡ 0
not-odd w h = by_eqb (w % 2) 1 (λ _. w % 2 ≡ 0) (λ e. absurd-bool (odd-one w e) (sym (bit-zero w) ∙ h)) (λ e. omega arith)

is_odd : (w : ℕ) → bit w 0 ≡ true → w % 2 ≡ 1
is_odd w h = by_eqb (w % 2) 1 (λ _. w % 2 ≡ 1) (λ e. e) (λ e. absurd-bool h (bit-zero w ∙ eqb-other (w % 2) 1 e))

pub low_bit : (x : ℕ) → only (bit x 0) 1 ≡ x % 2
low_bit x = go (bit x 0) refl
  where
    go : (t : Bool) → bit x 0 ≡ t → only t 1 ≡ x % 2
    go true e = sym (is_odd x e)
    go false e = sym (not-odd x e)

-- ---- a bit that is not set is set

pub bit-set : (v w : ℕ) → bit w v ≡ false → bit (w + 2 ^ v) v ≡ true
bit-set zero w h = let n = not-odd w h in bit-zero (w + 1) ∙ odd-one (w + 1) (omega arith)
bit-set (suc v) w h =
    let e : (w + 2 ^ suc v) / 2 ≡ w / 2 + 2 ^ v = rw (pow-suc 2 v) (omega arith) in
    bit-suc (w + 2 ^ suc v) v ∙ rw e (bit-set v (w / 2) (sym (bit-suc w v) ∙ h))

pub bit-other : (v k w : ℕ) → bit w v ≡ false → k ≢ v → bit (w + 2 ^ v) k ≡ bit w k
bit-other zero zero w h n = absurd (n refl)
bit-other zero (suc k) w h n =
    let o = not-odd w h in
    let e : (w + 1) / 2 ≡ w / 2 = omega arith in
    bit-suc (w + 1) k ∙ rw e (sym (bit-suc w k))
bit-other (suc v) zero w h n =
    let e : (w + 2 ^ suc v) % 2 ≡ w % 2 = rw (pow-suc 2 v) (omega arith) in
    bit-zero (w + 2 ^ suc v) ∙ rw e (sym (bit-zero w))
bit-other (suc v) (suc k) w h n =
    let e : (w + 2 ^ suc v) / 2 ≡ w / 2 + 2 ^ v = rw (pow-suc 2 v) (omega arith) in
    bit-suc (w + 2 ^ suc v) k ∙ rw e (bit-other v k (w / 2) (sym (bit-suc w v) ∙ h) (λ z. n (ap suc z))) ∙ sym (bit-suc w k)

-- the word still has n bits
pub bit-fits : (v n w : ℕ) → v < n → bit w v ≡ false → w < 2 ^ n → w + 2 ^ v < 2 ^ n
bit-fits v zero w h e l = absurd (omega (arith, h))
bit-fits zero (suc n) w h e l = let o = not-odd w e in omega (arith, o, l, pow-suc 2 n)
bit-fits (suc v) (suc n) w h e l =
    let z = bit-fits v n (w / 2) (omega (arith, h)) (sym (bit-suc w v) ∙ e) (omega (arith, l, pow-suc 2 n)) in
    omega (arith, z, pow-suc 2 n, pow-suc 2 v)

-- ---- a bit that is set is cleared

bit-cleared : (v w : ℕ) → bit w v ≡ true → (2 ^ v ≤ w) × (bit (w - 2 ^ v) v ≡ false)
bit-cleared zero w h = let o = is_odd w h in (omega (arith, o), bit-zero (w - 1) ∙ eqb-other ((w - 1) % 2) 1 (λ e. omega (arith, o, e)))
bit-cleared (suc v) w h =
    let z = bit-cleared v (w / 2) (sym (bit-suc w v) ∙ h) in
    let l : 2 ^ suc v ≤ w = omega (arith, z.0, pow-suc 2 v) in
    let e : (w - 2 ^ suc v) / 2 ≡ w / 2 - 2 ^ v = rw (pow-suc 2 v) (omega (arith, z.0)) in
    (l, bit-suc (w - 2 ^ suc v) v ∙ rw e z.1)

-- ---- a bit made one or the other, whatever it was

-- the word without the bit
abbrev without : ℕ → ℕ → ℕ
without w i = w - only (bit w i) (2 ^ i)

module _ (w i : ℕ) where
  without-here : bit (without w i) i ≡ false
  without-here = go (bit w i) refl
    where
      go : (t : Bool) → bit w i ≡ t → bit (w - only t (2 ^ i)) i ≡ false
      go true e = (bit-cleared i w e).1
      go false e = ap (λ (x : ℕ). bit x i) (omega arith) ∙ e

  without_other : (k : ℕ) → k ≢ i → bit (without w i) k ≡ bit w k
  without_other k n = go (bit w i) refl
    where
      go : (t : Bool) → bit w i ≡ t → bit (w - only t (2 ^ i)) k ≡ bit w k
      go true e =
          let z = bit-cleared i w e in
          let back : w - 2 ^ i + 2 ^ i ≡ w = omega (arith, z.0) in
          sym (bit-other i k (w - 2 ^ i) z.1 n) ∙ ap (λ (x : ℕ). bit x k) back
      go false e = ap (λ (x : ℕ). bit x k) (omega arith)

  pub put-here : (on : Bool) → bit (with_bit w i on) i ≡ on
  unfolding with_bit
  put-here true = bit-set i (without w i) without-here
  put-here false = ap (λ (x : ℕ). bit x i) (omega arith) ∙ without-here

  pub put_other : (on : Bool) (k : ℕ) → k ≢ i → bit (with_bit w i on) k ≡ bit w k
  unfolding with_bit
  put_other true k n = bit-other i k (without w i) without-here n ∙ without_other k n
  put_other false k n = ap (λ (x : ℕ). bit x k) (omega arith) ∙ without_other k n

  pub put-fits : (on : Bool) (n : ℕ) → i < n → w < 2 ^ n → with_bit w i on < 2 ^ n
  unfolding with_bit
  put-fits true n h l = bit-fits i n (without w i) h without-here (omega (arith, l))
  put-fits false n h l = omega (arith, l)

-- ---- the language's words: one bit, and what a word has of it

pub and_bit : (w i : ℕ) → bit_and w (2 ^ i) ≡ only (bit w i) (2 ^ i)
unfolding bit
and_bit w i =
    let up : 1 + i ≡ suc i = omega arith in
    let one : 2 ^ (1 + i) - 2 ^ i ≡ 2 ^ i = rw (up, pow-suc 2 i) (omega arith) in
    ap (bit_and w) (sym one) ∙ and_high w 1 i ∙ by_eqb (w / 2 ^ i % 2) 1 (λ t. w / 2 ^ i % 2 * 2 ^ i ≡ only t (2 ^ i)) (λ e. rw e (omega arith)) (λ n. let z : w / 2 ^ i % 2 ≡ 0 = omega (arith, n) in rw z (omega arith))

-- numbers joined have k bits if each of them has
pub or-bits : (a b k : ℕ) → ltb (bit_or a b) (2 ^ k) ≡ (ltb a (2 ^ k) and ltb b (2 ^ k))
or-bits a b k = pick (dec_lt a (2 ^ k)) (dec_lt b (2 ^ k))
  where
    low : (a ≤ bit_or a b) × (b ≤ bit_or a b)
    low = (omega (arith, or_add_and a b, and_le_r a b), omega (arith, or_add_and a b, and_le_l a b))

    pick : Dec (a < 2 ^ k) → Dec (b < 2 ^ k) → ltb (bit_or a b) (2 ^ k) ≡ (ltb a (2 ^ k) and ltb b (2 ^ k))
    pick (yes h) (yes l) = ltb_yes (bit_or a b) (2 ^ k) (or_lt k a b h l) ∙ sym (and-of (ltb_yes a (2 ^ k) h) (ltb_yes b (2 ^ k) l))
    pick (no h) _ = ltb_no (bit_or a b) (2 ^ k) (omega (arith, h, low.0)) ∙ sym (and_no (ltb b (2 ^ k)) (ltb_no a (2 ^ k) (omega (arith, h))))
    pick (yes h) (no l) = ltb_no (bit_or a b) (2 ^ k) (omega (arith, l, low.1)) ∙ sym (and-not (ltb a (2 ^ k)) (ltb_no b (2 ^ k) (omega (arith, l))))

-- ---- how many bits are set: the language's count of a word of n bits

pub ones-are : (n w : ℕ) → w < 2 ^ n → ones w ≡ bits_set n w
unfolding bits_set sum_to ones
ones-are zero w h = let z : w ≡ 0 = omega (arith, h) in ap ones z
ones-are (suc n) w h =
    let ih : ones (w / 2) ≡ bits_set n (w / 2) = ones-are n (w / 2) (omega (arith, h, pow-suc 2 n)) in
    let rest : sum_to n (λ k. only (bit w (suc k)) 1) ≡ bits_set n (w / 2) = sum_to-same n _ _ (λ k _. ap (λ (t : Bool). only t 1) (bit-suc w k)) in
    ones_step w ∙ omega (arith, low_bit w, ih, rest, sum_to-front n (λ k. only (bit w k) 1))
