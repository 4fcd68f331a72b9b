-- Every place of a board is one of those named, none has two names, and a board is known by its parts. Assumes nothing.
use mathlib.Core.Path.{◌≡◌, sym, ap, ◌∙◌, subst}
use mathlib.Core.Bool.{true, false}
use mathlib.Core.List.{List}
use Prim.Native.Nat.{ℕ, suc, ◌+◌, ◌-◌, ◌/◌, ◌%◌, ◌≤◌, ◌<◌}
use native.Mathlib.Decide.{dec_lt}
use native.Mathlib.Omega.{arith}
use lib.ListN.{length, get_or}
use lib.Seq.{ext_get_or}
use Rattle.general.proofs.Tests.{eqb-other, ltb_yes, ltb_no}
use Rattle.general.proofs.Tables.{tab-length, tab-at}
use Rattle.places.specs.Board.{month_place, storage_place, marks_place, taken_place, dues_from, dues_of, due_place, last_due, word_place, board_length, month_at, storage_at, marks_at, taken_at, due_at, word_at, Parts, part_at, board_by}

-- ---- which place is which

-- what holds at each named place holds at every place of a board
pub by-places : (P : ℕ → Type 0) → P month_place → ((v : ℕ) → v < 8 → P (storage_place v)) → P marks_place → ((i : ℕ) → i < 256 → P (taken_place i))
    → ((w k : ℕ) → w < 64 → k < 11 → P (due_place w k)) → ((i : ℕ) → i < 256 → P (word_place i)) → (p : ℕ) → p < board_length → P p
by-places P month storage marks taken due word p h = pick (dec_lt p 1) (dec_lt p 9) (dec_lt p 10) (dec_lt p 266) (dec_lt p 970)
  where
    is : {q : ℕ} → q ≡ p → P q → P p
    is e x = subst P e x

    pick : Dec (p < 1) → Dec (p < 9) → Dec (p < 10) → Dec (p < 266) → Dec (p < 970) → P p
    pick (yes a) _ _ _ _ = is (omega arith) month
    pick (no a) (yes b) _ _ _ = is (omega arith) (storage (p - 1) (omega arith))
    pick (no a) (no b) (yes c) _ _ = is (omega arith) marks
    pick (no a) (no b) (no c) (yes d) _ = is (omega arith) (taken (p - 10) (omega arith))
    pick (no a) (no b) (no c) (no d) (yes e) = is (omega arith) (due ((p - 266) / 11) ((p - 266) % 11) (omega arith) (omega arith))
    pick (no a) (no b) (no c) (no d) (no e) = is (omega arith) (word (p - 970) (omega arith))

pub last-due : (w : ℕ) → last_due (due_place w 10) ≡ true
last-due w = let e : (due_place w 10 - dues_from) % 11 ≡ 10 = omega arith in rw e

pub before_last : (w p : ℕ) → dues_of w ≤ p → p < due_place w 10 → last_due p ≡ false
before_last w p h k = eqb-other ((p - dues_from) % 11) 10 (λ e. omega (arith, e))

-- the words stand where the dues of rows past the last would
pub word-as-due : (i : ℕ) → word_place i ≡ due_place (64 + i / 11) (i % 11)
word-as-due i = omega arith

-- what is read at a place that goes by two names
pub place_read : (l : List ℕ) {p q : ℕ} → p ≡ q → get_or l p 0 ≡ get_or l q 0
place_read l e = ap (λ (p : ℕ). get_or l p 0) e

-- ---- what a board made of its parts holds: so no two parts meet

module _ (x : Parts) where
  pub by_length : length (board_by x) ≡ board_length
  unfolding board_by
  by_length = tab-length (part_at x) board_length

  at : (p : ℕ) → p < board_length → get_or (board_by x) p 0 ≡ part_at x p
  unfolding board_by
  at p h = tab-at (part_at x) board_length p 0 h

  pub month-by : month_at (board_by x) ≡ x.month
  unfolding part_at
  month-by = at month_place (omega arith)

  pub storage-by : (v : ℕ) → v < 8 → storage_at (board_by x) v ≡ x.storage v
  unfolding part_at
  storage-by v h = at (storage_place v) (omega arith)
      ∙ rw (eqb-other (1 + v) 0 (omega arith), ltb_yes (1 + v) 9 (omega arith)) (ap (λ (j : ℕ). x.storage j) (omega arith))

  pub marks-by : marks_at (board_by x) ≡ x.marks
  unfolding part_at
  marks-by = at marks_place (omega arith)

  pub taken-by : (i : ℕ) → i < 256 → taken_at (board_by x) i ≡ x.taken i
  unfolding part_at
  taken-by i h = at (taken_place i) (omega arith)
      ∙ rw (eqb-other (10 + i) 0 (omega arith), ltb_no (10 + i) 9 (omega arith), eqb-other (10 + i) 9 (omega arith), ltb_yes (10 + i) 266 (omega arith))
      (ap (λ (j : ℕ). x.taken j) (omega arith))

  pub due-by : (w k : ℕ) → w < 64 → k < 11 → due_at (board_by x) w (suc k) ≡ x.due w (suc k)
  unfolding part_at
  due-by w k h l =
      let p : ℕ = due_place w k in
      let e : (p - 266) / 11 ≡ w = omega arith in
      let f : (p - 266) % 11 ≡ k = omega arith in
      at p (omega arith) ∙ rw (eqb-other p 0 (omega arith), ltb_no p 9 (omega arith), eqb-other p 9 (omega arith), ltb_no p 266 (omega arith), ltb_yes p 970 (omega arith), e, f)

  pub word-by : (i : ℕ) → i < 256 → word_at (board_by x) i ≡ x.word i
  unfolding part_at
  word-by i h =
      let p : ℕ = word_place i in
      at p (omega arith) ∙ rw (eqb-other p 0 (omega arith), ltb_no p 9 (omega arith), eqb-other p 9 (omega arith), ltb_no p 266 (omega arith), ltb_no p 970 (omega arith))
      (ap (λ (j : ℕ). x.word j) (omega arith))

-- ---- a board is known by its parts

-- what l holds are the parts x
pub record Holds (l : List ℕ) (x : Parts) : Type 0 where
  pub month : month_at l ≡ x.month
  pub storage : (v : ℕ) → v < 8 → storage_at l v ≡ x.storage v
  pub marks : marks_at l ≡ x.marks
  pub taken : (i : ℕ) → i < 256 → taken_at l i ≡ x.taken i
  pub due : (w k : ℕ) → w < 64 → k < 11 → due_at l w (suc k) ≡ x.due w (suc k)
  pub word : (i : ℕ) → i < 256 → word_at l i ≡ x.word i

pub board-is : (l : List ℕ) (x : Parts) → length l ≡ board_length → Holds l x → l ≡ board_by x
board-is l x size h = ext_get_or 0 l (board_by x) (size ∙ sym (by_length x)) (λ p k. by-places (λ p. get_or l p 0 ≡ get_or (board_by x) p 0)
    (h.month ∙ sym (month-by x))
    (λ v o. h.storage v o ∙ sym (storage-by x v o))
    (h.marks ∙ sym (marks-by x))
    (λ i o. h.taken i o ∙ sym (taken-by x i o))
    (λ w j o n. h.due w j o n ∙ sym (due-by x w j o n))
    (λ i o. h.word i o ∙ sym (word-by x i o))
    p (omega (arith, size, k)))

-- two boards of parts that agree are one
pub boards-same : (x y : Parts) → Holds (board_by x) y → board_by x ≡ board_by y
boards-same x y h = board-is (board_by x) y (by_length x) h
