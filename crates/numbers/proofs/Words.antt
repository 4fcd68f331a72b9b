-- Numbers of eight bytes, written and read back. Assumes nothing.
use mathlib.Core.Path.{◌≡◌, refl, sym, ap, ◌∙◌}
use mathlib.Core.List.{List}
use Prim.Native.Nat.{ℕ, ◌+◌, ◌*◌, ◌/◌, ◌%◌, ◌<◌}
use native.Mathlib.Nat.{div-div-eq-div-mul}
use native.Mathlib.Omega.{arith}
use mir.Syntax.{w64}
use Rattle.general.proofs.Parts.{put_mid-over}
use lib.ListN.{length, get_or}
use Rattle.std.specs.Int.{to_le_bytes}
use Rattle.numbers.specs.Bytes.{le32_at, le64_at, bytes32, bytes64}

pub length-bytes64 : (x : ℕ) → length (bytes64 x) ≡ 8
unfolding bytes64 bytes32
length-bytes64 x = refl

-- byte by byte, each divided out of the whole number
pub eight-bytes : (x : ℕ) → to_le_bytes w64 x ≡ bytes64 x
unfolding bytes64 bytes32
eight-bytes x = simp div-div-eq-div-mul

-- what a part of a list is, over which a number is written
pub ruleset written = (put_mid-over, eight-bytes, length-bytes64)

-- of two lists with the same eight bytes it is the same number
pub word_same : (s s' : List ℕ) (p : ℕ) → ((i : ℕ) → i < 8 → get_or s' (p + i) 0 ≡ get_or s (p + i) 0) → le64_at s' p ≡ le64_at s p
unfolding le64_at le32_at
word_same s s' p f =
    let at : (q i : ℕ) → q ≡ p + i → i < 8 → get_or s' q 0 ≡ get_or s q 0 = λ q i e l. ap (λ (m : ℕ). get_or s' m 0) e ∙ f i l ∙ ap (λ (m : ℕ). get_or s m 0) (sym e) in
    rw (at p 0 (omega arith) (omega arith), f 1 (omega arith), f 2 (omega arith), f 3 (omega arith), f 4 (omega arith), at (p + 4 + 1) 5 (omega arith) (omega arith), at (p + 4 + 2) 6 (omega arith) (omega arith), at (p + 4 + 3) 7 (omega arith) (omega arith))

-- ---- what was written is read back

chain : (x a b c d : ℕ) → a ≡ x / 256 → b ≡ a / 256 → c ≡ b / 256 → d ≡ c / 256 → x % 256 + a % 256 * 256 + b % 256 * 65536 + c % 256 * 16777216 + d * 4294967296 ≡ x
chain x a b c d ea eb ec ed = omega arith

-- the lowest four bytes, with the rest
low : (x : ℕ) → x % 256 + x / 256 % 256 * 256 + x / 65536 % 256 * 65536 + x / 16777216 % 256 * 16777216 + x / 4294967296 * 4294967296 ≡ x
low x = chain x (x / 256) (x / 65536) (x / 16777216) (x / 4294967296) refl (sym (div-div-eq-div-mul x 256 256)) (sym (div-div-eq-div-mul x 65536 256)) (sym (div-div-eq-div-mul x 16777216 256))

half : (s : List ℕ) (i x : ℕ) → get_or s i 0 ≡ x % 256 → get_or s (i + 1) 0 ≡ x / 256 % 256 → get_or s (i + 2) 0 ≡ x / 65536 % 256 → get_or s (i + 3) 0 ≡ x / 16777216 % 256
    → le32_at s i + x / 4294967296 * 4294967296 ≡ x
unfolding le32_at
half s i x e₀ e₁ e₂ e₃ = rw (e₀, e₁, e₂, e₃) (low x)

both_halves : (x a b : ℕ) → x < 18446744073709551616 → a + x / 4294967296 * 4294967296 ≡ x → b + x / 4294967296 / 4294967296 * 4294967296 ≡ x / 4294967296 → a + b * 4294967296 ≡ x
both_halves x a b h ea eb = omega arith

-- the number whose eight bytes stand at a place
pub eight-read : (s : List ℕ) (i x : ℕ) → x < 18446744073709551616 → ((j : ℕ) → j < 8 → get_or s (i + j) 0 ≡ get_or (bytes64 x) j 0) → le64_at s i ≡ x
unfolding le64_at bytes64 bytes32
eight-read s i x h f =
    let at : (n j : ℕ) → n ≡ i + j → j < 8 → get_or s n 0 ≡ get_or (bytes64 x) j 0 = λ n j e l. ap (λ (m : ℕ). get_or s m 0) e ∙ f j l in
    let a = half s i x (at i 0 (omega arith) (omega arith)) (f 1 (omega arith)) (f 2 (omega arith)) (f 3 (omega arith)) in
    let b = half s (i + 4) (x / 4294967296) (f 4 (omega arith)) (at (i + 4 + 1) 5 (omega arith) (omega arith)) (at (i + 4 + 2) 6 (omega arith) (omega arith)) (at (i + 4 + 3) 7 (omega arith) (omega arith)) in
    both_halves x (le32_at s i) (le32_at s (i + 4)) h a b
