-- Numbers in a list of bytes, the least significant byte first (01, its first paragraph).
use Rattle.std.specs.Prelude.{Bool, List, [], ◌∷◌, ◌++◌, ℕ, ◌+◌, ◌*◌, ◌/◌, ◌%◌, leb, eqb, get_or}
use Rattle.general.specs.Sums.{sum_to}
use Rattle.general.specs.Tests.{◌and◌, all_to}

abbrev pub byte_at : List ℕ → ℕ → ℕ
byte_at s i = get_or s i 0

unfoldable pub le16_at : List ℕ → ℕ → ℕ
le16_at s i = byte_at s i + byte_at s (i + 1) * 256

unfoldable pub le32_at : List ℕ → ℕ → ℕ
le32_at s i = byte_at s i + byte_at s (i + 1) * 256 + byte_at s (i + 2) * 65536 + byte_at s (i + 3) * 16777216

unfoldable pub le64_at : List ℕ → ℕ → ℕ
le64_at s i = le32_at s i + le32_at s (i + 4) * 4294967296

-- the lowest four bytes of a number, and all eight of one of 64 bits
unfoldable pub bytes32 : ℕ → List ℕ
bytes32 x = (x % 256) ∷ (x / 256 % 256) ∷ (x / 65536 % 256) ∷ (x / 16777216 % 256) ∷ []

unfoldable pub bytes64 : ℕ → List ℕ
bytes64 x = bytes32 x ++ bytes32 (x / 4294967296)

-- padding, which has to be 0
unfoldable pub three_zeros : List ℕ → ℕ → Bool
three_zeros s i =
    eqb (byte_at s i) 0
    and eqb (byte_at s (i + 1)) 0
    and eqb (byte_at s (i + 2)) 0

-- n numbers of four bytes, each step bytes after the one before, are at most a limit
unfoldable pub all_at_most : List ℕ → ℕ → ℕ → ℕ → ℕ → Bool
all_at_most s i step n most = all_to n (λ k. leb (le32_at s (i + step * k)) most)

-- the sum of n bytes, each step bytes after the one before
unfoldable pub byte_sum : List ℕ → ℕ → ℕ → ℕ → ℕ
byte_sum s i step n = sum_to n (λ k. byte_at s (i + step * k))
