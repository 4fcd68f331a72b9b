-- The numbers of a board written as bytes, one after another, and read back. Assumes nothing.
use mathlib.Core.Path.{◌≡◌, refl, sym, ap, ◌∙◌}
use mathlib.Core.List.{List, [], ◌∷◌, ◌++◌, append_assoc, append-nil}
use Prim.Native.Nat.{ℕ, zero, suc, ◌+◌, ◌*◌, ◌≤◌, ◌<◌}
use native.Mathlib.Numerals.{add-one}
use native.Mathlib.Omega.{arith}
use lib.ListN.{length, get_or, take, length-append, get_or-append}
use lib.Seq.{length-take-le, take-suc, get_or-append-add}
use Rattle.general.specs.Parts.{over}
use Rattle.general.proofs.Parts.{over-over, over_none}
use Rattle.general.proofs.Tables.{tab-length, tab-at}
use Rattle.numbers.specs.Bytes.{le64_at, bytes64}
use Rattle.numbers.proofs.Words.{length-bytes64}
use Rattle.places.specs.Board.{board_length}
use Rattle.entries.specs.Entries.{board_start, board_at, bytes_of}

pub length-bytes : (l : List ℕ) → length (bytes_of l) ≡ 8 * length l
unfolding bytes_of
length-bytes [] = refl
length-bytes (x ∷ l) = omega (arith, length-append (bytes64 x) (bytes_of l), length-bytes64 x, length-bytes l)

bytes-append : (l : List ℕ) (x : ℕ) → bytes_of (l ++ (x ∷ [])) ≡ bytes_of l ++ bytes64 x
unfolding bytes_of
bytes-append [] x = append-nil (bytes64 x)
bytes-append (y ∷ l) x = ap (λ (r : List ℕ). bytes64 y ++ r) (bytes-append l x) ∙ sym (append_assoc (bytes64 y) (bytes_of l) (bytes64 x))

-- ---- written from the front, one number a turn

pub numbers-none : (s : List ℕ) (at : ℕ) (b : List ℕ) → at ≤ length s → s ≡ over s at (bytes_of (take 0 b))
unfolding bytes_of
numbers-none s at b h = over_none s at h

pub numbers_more : (s : List ℕ) (at : ℕ) (b : List ℕ) (k : ℕ) {x y : List ℕ} → at ≤ length s → k < length b → x ≡ over s at (bytes_of (take k b)) → y ≡ over x (at + 8 * k) (bytes64 (get_or b k 0))
    → y ≡ over s at (bytes_of (take (k + 1) b))
numbers_more s at b k {x} {y} h l ex ey =
    let e : 8 * k ≡ length (bytes_of (take k b)) = omega (arith, length-bytes (take k b), length-take-le k b (omega arith)) in
    ey
    ∙ ap (λ (z : List ℕ). over z (at + 8 * k) (bytes64 (get_or b k 0))) ex
    ∙ ap (λ (n : ℕ). over (over s at (bytes_of (take k b))) (at + n) (bytes64 (get_or b k 0))) e
    ∙ over-over s at (bytes_of (take k b)) (bytes64 (get_or b k 0)) h
    ∙ ap (over s at) (sym (bytes-append (take k b) (get_or b k 0)) ∙ ap bytes_of (sym (take-suc b k 0 l) ∙ ap (λ (n : ℕ). take n b) (sym (add-one k))))

-- ---- read back

-- byte 8k + j of a list's bytes is byte j of its number k
pub bytes-at : (l : List ℕ) (k j : ℕ) → k < length l → j < 8 → get_or (bytes_of l) (8 * k + j) 0 ≡ get_or (bytes64 (get_or l k 0)) j 0
unfolding bytes_of
bytes-at [] k j h i = absurd (omega arith)
bytes-at (x ∷ l) zero j h i = let e : 8 * 0 + j ≡ j = omega arith in ap (λ (n : ℕ). get_or (bytes64 x ++ bytes_of l) n 0) e ∙ get_or-append (bytes64 x) (bytes_of l) 0 j (omega (arith, length-bytes64 x))
bytes-at (x ∷ l) (suc k) j h i =
    let e : 8 * suc k + j ≡ length (bytes64 x) + (8 * k + j) = omega (arith, length-bytes64 x) in
    ap (λ (n : ℕ). get_or (bytes64 x ++ bytes_of l) n 0) e ∙ get_or-append-add (bytes64 x) (bytes_of l) (8 * k + j) 0 ∙ bytes-at l k j (omega arith) i

-- ---- the numbers of an entry's board

pub board-length : (s : List ℕ) (e : ℕ) → length (board_at s e) ≡ board_length
unfolding board_at
board-length s e = tab-length (λ k. le64_at s (board_start e + 8 * k)) board_length

pub board-place : (s : List ℕ) (e k : ℕ) → k < board_length → get_or (board_at s e) k 0 ≡ le64_at s (board_start e + 8 * k)
unfolding board_at
board-place s e k h = tab-at (λ k. le64_at s (board_start e + 8 * k)) board_length k 0 h
