-- A board is read as it was written. Assumes nothing.
use mathlib.Core.Path.{◌≡◌, refl, sym, ap, ◌∙◌}
use mathlib.Core.Bool.{Bool, true, false}
use mathlib.Core.List.{List, [], ◌∷◌}
use Prim.Native.Nat.{ℕ, zero, suc, ◌+◌, ◌*◌, ◌/◌, ◌%◌, ◌^◌, ◌≤◌, ◌<◌}
use native.Mathlib.Nat.{pow-suc, pow-succ'}
use native.Mathlib.Omega.{arith}
use lib.Dec.{ltb}
use lib.ListN.{length, get_or, set}
use Rattle.general.specs.Sums.{only}
use Rattle.general.specs.Tables.{tab}
use Rattle.general.proofs.Tests.{eqb-other, ltb_yes, lt_of, only_yes, only_same}
use Rattle.general.proofs.Tables.{tab-same, tab-of, tab-set, tab-cons}
use Rattle.general.proofs.Entries.{tab-none}
use Rattle.general.proofs.Bits.{bit-none, bit-zero, bit-suc, low_bit, put-here, put_other, put-fits}
use Rattle.rules.specs.Basin.{Basin, rows}
use Rattle.general.specs.Tests.{bit, with_bit}
use Rattle.rules.specs.Month.{Carried}
use Rattle.rules.specs.Accepted.{Accepted}
use Rattle.rules.proofs.Noting.{Noted}
use Rattle.places.specs.Board.{month_at, storage_at, marks_at, taken_at, due_at, word_at, board_length, Parts}
use Rattle.places.proofs.BoardPlaces.{by_length, month-by, storage-by, marks-by, taken-by, due-by, word-by, board-is}
use Rattle.boards.specs.Board.{board_parts, carried_of, word_of, board_of}

-- ---- the word of marks

bit-first : (t : Bool) (w : ℕ) → bit (only t 1 + 2 * w) 0 ≡ t
bit-first true w = let e : (1 + 2 * w) % 2 ≡ 1 = omega arith in bit-zero (1 + 2 * w) ∙ rw e
bit-first false w = bit-zero (0 + 2 * w) ∙ eqb-other ((0 + 2 * w) % 2) 1 (λ e. omega (arith, e))

half-word : (t : Bool) (w : ℕ) → (only t 1 + 2 * w) / 2 ≡ w
half-word true w = omega arith
half-word false w = omega arith

bit-next : (t : Bool) (w i : ℕ) → bit (only t 1 + 2 * w) (suc i) ≡ bit w i
bit-next t w i = bit-suc (only t 1 + 2 * w) i ∙ ap (λ (x : ℕ). bit x i) (half-word t w)

pub bit_word : (ms : List Bool) (i : ℕ) → bit (word_of ms) i ≡ get_or ms i false
unfolding word_of
bit_word [] i = bit-none i
bit_word (t ∷ ts) zero = bit-first t (word_of ts)
bit_word (t ∷ ts) (suc i) = bit-next t (word_of ts) i ∙ bit_word ts i

pub word_none : word_of [] ≡ 0
unfolding word_of
word_none = refl

pub word-less : (ms : List Bool) → word_of ms < 2 ^ length ms
unfolding word_of
word-less [] = omega arith
word-less (true ∷ ts) = omega (arith, word-less ts, pow-succ' 2 (length ts))
word-less (false ∷ ts) = omega (arith, word-less ts, pow-succ' 2 (length ts))

-- a word of n bits is that of its first n bits
pub word-bits : (n x : ℕ) → x < 2 ^ n → word_of (tab n (bit x)) ≡ x
unfolding word_of
word-bits zero x h = ap word_of (tab-none (bit x)) ∙ omega (arith, h)
word-bits (suc n) x h =
    let ih : word_of (tab n (bit (x / 2))) ≡ x / 2 = word-bits n (x / 2) (omega (arith, h, pow-suc 2 n)) in
    let same : tab n (λ k. bit x (suc k)) ≡ tab n (bit (x / 2)) = tab-same n _ _ (λ k _. bit-suc x k) in
    ap word_of (tab-cons n (bit x)) ∙ omega (arith, low_bit x, ap word_of same, ih)

-- one of its bits made 1 or 0
pub word-put : (n w k : ℕ) (t : Bool) → k < n → w < 2 ^ n → with_bit w k t ≡ word_of (set (tab n (bit w)) k t)
word-put n w k t h l =
    sym (word-bits n (with_bit w k t) (put-fits w k t n h l)) ∙ ap word_of (tab-set n (bit w) (bit (with_bit w k t)) k t false h (put-here w k t) (λ j _ e. put_other w k t j e))

-- ---- places

module _ (b : Basin) (c : Carried) (due : ℕ → ℕ → ℕ) where
  abbrev parts : Parts
  parts = board_parts b c due

  pub board-length : length (board_of b c due) ≡ board_length
  unfolding board_of
  board-length = by_length parts

  pub month-place : month_at (board_of b c due) ≡ c.m
  unfolding board_of board_parts
  month-place = month-by parts

  pub storage-place : (v : ℕ) → v < 8 → storage_at (board_of b c due) v ≡ get_or c.storages v 0
  unfolding board_of board_parts
  storage-place v h = storage-by parts v h

  pub marks-place : marks_at (board_of b c due) ≡ word_of c.marks
  unfolding board_of board_parts
  marks-place = marks-by parts

  pub taken-place : (i : ℕ) → i < 256 → taken_at (board_of b c due) i ≡ get_or c.taken i 0
  unfolding board_of board_parts
  taken-place i h = taken-by parts i h

  -- at any row, also one that the basin lacks
  pub due-place : (w k : ℕ) → w < 64 → k < 11 → due_at (board_of b c due) w (suc k) ≡ only (ltb w (rows b)) (due w (suc k))
  unfolding board_of board_parts
  due-place w k h l = due-by parts w k h l

  pub due-of-row : (w k : ℕ) → w < rows b → rows b ≤ 64 → k < 11 → due_at (board_of b c due) w (suc k) ≡ due w (suc k)
  due-of-row w k h n l = due-place w k (omega arith) l ∙ only_yes (ltb w (rows b)) (due w (suc k)) (ltb_yes w (rows b) h)

  pub word-place : (i : ℕ) → i < 256 → word_at (board_of b c due) i ≡ word_of (get_or c.shorts i [])
  unfolding board_of board_parts
  word-place i h = word-by parts i h

  -- a list that holds all of it is that board
  pub record Tells (l : List ℕ) : Type 0 where
    pub size : length l ≡ board_length
    pub month : month_at l ≡ c.m
    pub storages : (v : ℕ) → v < 8 → storage_at l v ≡ get_or c.storages v 0
    pub marks : marks_at l ≡ word_of c.marks
    pub taken : (i : ℕ) → i < 256 → taken_at l i ≡ get_or c.taken i 0
    pub dues : (w k : ℕ) → w < 64 → k < 11 → due_at l w (suc k) ≡ only (ltb w (rows b)) (due w (suc k))
    pub words : (i : ℕ) → i < 256 → word_at l i ≡ word_of (get_or c.shorts i [])

  pub board-told : (l : List ℕ) → Tells l → l ≡ board_of b c due
  unfolding board_of board_parts
  board-told l t = board-is l parts t.size (record { month = t.month; storage = t.storages; marks = t.marks; taken = t.taken; due = t.dues; word = t.words })

-- what is carried has a storage and a mark for each reservoir, and for each right a number taken and twelve months
pub record Counted (b : Basin) (c : Carried) : Type 0 where
  pub storages : length c.storages ≡ length b.reservoirs
  pub marks : length c.marks ≡ length b.reservoirs
  pub taken : length c.taken ≡ length b.rights
  pub shorts : Noted b c.shorts

pub read_back : (b : Basin) → Accepted b → (c : Carried) (due : ℕ → ℕ → ℕ) → Counted b c → carried_of b (board_of b c due) ≡ c
unfolding carried_of
read_back b acc c due n = λ z. record { m = month-place b c due z; storages = storages z; marks = marks z; taken = taken z; shorts = shorts z }
  where
    storages : tab (length b.reservoirs) (storage_at (board_of b c due)) ≡ c.storages
    storages = tab-of _ 0 _ _ n.storages (λ v h. storage-place b c due v (omega (arith, acc.few_reservoirs)))

    marks : tab (length b.reservoirs) (bit (marks_at (board_of b c due))) ≡ c.marks
    marks = tab-of _ false _ _ n.marks (λ v h. ap (λ (x : ℕ). bit x v) (marks-place b c due) ∙ bit_word c.marks v)

    taken : tab (length b.rights) (taken_at (board_of b c due)) ≡ c.taken
    taken = tab-of _ 0 _ _ n.taken (λ i h. taken-place b c due i (omega (arith, acc.few_rights)))

    year : (i : ℕ) → i < length b.rights → tab 12 (bit (word_at (board_of b c due) i)) ≡ get_or c.shorts i []
    year i h = tab-of _ false _ _ (n.shorts.months i h) (λ k l. ap (λ (x : ℕ). bit x k) (word-place b c due i (omega (arith, h, acc.few_rights))) ∙ bit_word (get_or c.shorts i []) k)

    shorts : tab (length b.rights) (λ i. tab 12 (bit (word_at (board_of b c due) i))) ≡ c.shorts
    shorts = tab-of _ [] _ _ n.shorts.count year

-- ---- only what is due at a row of the basin at k = 1 to 11 counts

pub board-same : (b : Basin) (c : Carried) (d e : ℕ → ℕ → ℕ) → ((w k : ℕ) → w < rows b → k < 11 → d w (suc k) ≡ e w (suc k)) → board_of b c d ≡ board_of b c e
board-same b c d e h = board-told b c e (board_of b c d) (record {
  size = board-length b c d;
  month = month-place b c d;
  storages = storage-place b c d;
  marks = marks-place b c d;
  taken = taken-place b c d;
  dues = λ w k l o. due-place b c d w k l o ∙ only_same (ltb w (rows b)) _ _ (λ q. h w k (lt_of q) o);
  words = word-place b c d;
})
