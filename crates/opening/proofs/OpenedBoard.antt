-- The board as a month opens: October clears the year, and the dues come one month nearer. Assumes nothing.
use mathlib.Core.Bool.{Bool, true, false, cond}
use mathlib.Core.List.{List}
use mathlib.Core.Path.{◌≡◌, refl, sym, ap, ◌∙◌}
use Prim.Native.Nat.{ℕ, suc, ◌+◌, ◌-◌, ◌≤◌, ◌<◌}
use native.Mathlib.Decide.{dec_lt}
use native.Mathlib.Omega.{arith}
use lib.Dec.{ltb, eqb}
use lib.ListN.{length, get_or, set, take, drop, length-set}
use lib.Seq.{get_or-set_same, get_or-set_other}
use borrow.Rule.Slice.PartMut.{put_mid}
use Rattle.std.proofs.Common.{rules, replicate}
use Rattle.std.specs.List.{CopiedTo, SameBelow, SameFrom}
use Rattle.std.proofs.lemmas.List.{places, get_or-replicate}
use Rattle.general.specs.Tables.{tab}
use Rattle.general.proofs.Tables.{tab-length, tab-at, tab-of, tab-same}
use Rattle.general.proofs.Tests.{eqb-other, by_eqb, ltb_yes, ltb_no}
use Rattle.places.specs.Board.{month_place, storage_place, marks_place, taken_place, dues_from, dues_of, due_place, last_due, words_from, word_place, board_length, due_at}
use Rattle.places.proofs.BoardPlaces.{last-due, before_last, place_read, board-is}
use Rattle.opening.specs.Opening.{CanOpen, opened_parts, opened_board, zeroed_at, cleared_at, moved_at, ended_at}

-- ---- a loop over the board that has passed k places: they are f's, the others are bd's still

pub record Passed (f : ℕ → ℕ) (bd x : List ℕ) (k : ℕ) : Type 0 where
  pub long : length x ≡ board_length
  pub done : (j : ℕ) → j < k → get_or x j 0 ≡ f j
  pub rest : (j : ℕ) → k ≤ j → get_or x j 0 ≡ get_or bd j 0

module _ (f : ℕ → ℕ) (bd : List ℕ) where
  pub passed-from : (k : ℕ) → length bd ≡ board_length → ((j : ℕ) → j < k → get_or bd j 0 ≡ f j) → Passed f bd bd k
  passed-from k e h = record { long = e; done = h; rest = λ j l. refl }

  -- a store at q, where all places between are f's already
  pub passed_to : (x : List ℕ) (k q v : ℕ) → k ≤ q → q < board_length → v ≡ f q → ((j : ℕ) → k ≤ j → j < q → get_or bd j 0 ≡ f j) → Passed f bd x k → Passed f bd (set x q v) (q + 1)
  passed_to x k q v a b e h w = record {
    long = length-set x q v ∙ w.long;
    done = λ j m. by_eqb j q (λ _. get_or (set x q v) j 0 ≡ f j)
        (λ z. rw z (get_or-set_same x q v 0 (omega (arith, w.long)) ∙ e))
        (λ z. get_or-set_other x q j v 0 z ∙ before j (omega (arith, z, m)) (dec_lt j k));
    rest = λ j m. get_or-set_other x q j v 0 (λ z. omega (arith, z, m)) ∙ w.rest j (omega arith);
  }
    where
      before : (j : ℕ) → j < q → Dec (j < k) → get_or x j 0 ≡ f j
      before j l (yes m) = w.done j m
      before j l (no m) = w.rest j (omega arith) ∙ h j (omega arith) l

  pub passed-all : (x : List ℕ) (k : ℕ) → Passed f bd x k → ((j : ℕ) → k ≤ j → j < board_length → get_or bd j 0 ≡ f j) → x ≡ tab board_length f
  passed-all x k w h = sym (tab-of x 0 board_length f w.long (λ j l. sym (at j l (dec_lt j k))))
    where
      at : (j : ℕ) → j < board_length → Dec (j < k) → get_or x j 0 ≡ f j
      at j l (yes m) = w.done j m
      at j l (no m) = w.rest j (omega arith) ∙ h j (omega arith) l

-- ---- each step, place by place

module _ (bd : List ℕ) (from to p : ℕ) where
  pub zeroed-before : p < from → get_or bd p 0 ≡ zeroed_at bd from to p
  unfolding zeroed_at
  zeroed-before h = rw (ltb_yes p from h)

  pub zeroed-here : from ≤ p → p < to → 0 ≡ zeroed_at bd from to p
  unfolding zeroed_at
  zeroed-here h k = rw (ltb_no p from h, ltb_yes p to k)

  pub zeroed-after : from ≤ p → to ≤ p → get_or bd p 0 ≡ zeroed_at bd from to p
  unfolding zeroed_at
  zeroed-after h k = rw (ltb_no p from h, ltb_no p to k)

-- a run of zeros, as it is written
pub zeros : (bd ys : List ℕ) (from k : ℕ) → length bd ≡ board_length → from + k ≤ board_length → ys ≡ replicate (length (take k (drop from bd))) 0 → put_mid from k bd ys ≡ tab board_length (zeroed_at bd from (from + k))
zeros bd ys from k long fits e = sym (tab-of (put_mid from k bd ys) 0 board_length (zeroed_at bd from (from + k)) size (λ p h. sym (at p (dec_lt p from) (dec_lt p (from + k)))))
  where
    part-long : length (take k (drop from bd)) ≡ k
    part-long = search (rules, places)

    size : length (put_mid from k bd ys) ≡ board_length
    size = search (rules, places)

    middle : (p : ℕ) → from ≤ p → p < from + k → get_or (put_mid from k bd ys) p 0 ≡ 0
    middle p h m = let z : get_or ys (p - from) 0 ≡ 0 = rw (e, part-long) (get_or-replicate k (p - from) 0 0 (omega arith)) in search (rules, places)

    at : (p : ℕ) → Dec (p < from) → Dec (p < from + k) → get_or (put_mid from k bd ys) p 0 ≡ zeroed_at bd from (from + k) p
    at p (yes h) _ = let z : get_or (put_mid from k bd ys) p 0 ≡ get_or bd p 0 = search (rules, places) in z ∙ zeroed-before bd from (from + k) p h
    at p (no h) (yes m) = let z : get_or (put_mid from k bd ys) p 0 ≡ 0 = middle p (omega arith) m in z ∙ zeroed-here bd from (from + k) p (omega arith) m
    at p (no h) (no m) = let z : get_or (put_mid from k bd ys) p 0 ≡ get_or bd p 0 = search (rules, places) in z ∙ zeroed-after bd from (from + k) p (omega arith) (omega arith)

module _ (bd : List ℕ) (october : Bool) (p : ℕ) where
  cleared-before : p < marks_place → get_or bd p 0 ≡ cleared_at bd october p
  unfolding cleared_at
  cleared-before h = rw (ltb_yes p marks_place h)

  cleared-year : marks_place ≤ p → p < dues_from → cond october 0 (get_or bd p 0) ≡ cleared_at bd october p
  unfolding cleared_at
  cleared-year h k = rw (ltb_no p marks_place h, ltb_yes p dues_from k)

  cleared-due : dues_from ≤ p → p < words_from → get_or bd p 0 ≡ cleared_at bd october p
  unfolding cleared_at
  cleared-due h k = rw (ltb_no p marks_place (omega arith), ltb_no p dues_from h, ltb_yes p words_from k)

  cleared-word : words_from ≤ p → cond october 0 (get_or bd p 0) ≡ cleared_at bd october p
  unfolding cleared_at
  cleared-word h = rw (ltb_no p marks_place (omega arith), ltb_no p dues_from (omega arith), ltb_no p words_from h)

-- two runs of zeros
october-cleared : (bd a b : List ℕ) → a ≡ tab board_length (zeroed_at bd marks_place dues_from) → b ≡ tab board_length (zeroed_at a words_from board_length) → b ≡ tab board_length (cleared_at bd true)
october-cleared bd a b ea eb = eb ∙ tab-same board_length _ _ (λ p h. pick p h (dec_lt p marks_place) (dec_lt p dues_from) (dec_lt p words_from))
  where
    first : (p : ℕ) → p < board_length → get_or a p 0 ≡ zeroed_at bd marks_place dues_from p
    first p h = ap (λ (l : List ℕ). get_or l p 0) ea ∙ tab-at _ board_length p 0 h

    pick : (p : ℕ) → p < board_length → Dec (p < marks_place) → Dec (p < dues_from) → Dec (p < words_from) → zeroed_at a words_from board_length p ≡ cleared_at bd true p
    pick p h (yes x) _ _ = sym (zeroed-before a words_from board_length p (omega arith)) ∙ first p h ∙ sym (zeroed-before bd marks_place dues_from p x) ∙ cleared-before bd true p x
    pick p h (no x) (yes y) _ = sym (zeroed-before a words_from board_length p (omega arith)) ∙ first p h ∙ sym (zeroed-here bd marks_place dues_from p (omega arith) y) ∙ cleared-year bd true p (omega arith) y
    pick p h (no x) (no y) (yes z) = sym (zeroed-before a words_from board_length p z) ∙ first p h ∙ sym (zeroed-after bd marks_place dues_from p (omega arith) (omega arith)) ∙ cleared-due bd true p (omega arith) z
    pick p h (no x) (no y) (no z) = sym (zeroed-here a words_from board_length p (omega arith) h) ∙ cleared-word bd true p (omega arith)

pub cleared-october : (bd a b : List ℕ) (october : Bool) → october ≡ true → a ≡ tab board_length (zeroed_at bd marks_place dues_from) → b ≡ tab board_length (zeroed_at a words_from board_length) → b ≡ tab board_length (cleared_at bd october)
cleared-october bd a b october e ea eb = rw e (october-cleared bd a b ea eb)

-- no place changes but in October
pub cleared-none : (bd : List ℕ) → length bd ≡ board_length → bd ≡ tab board_length (cleared_at bd false)
unfolding cleared_at
cleared-none bd e = sym (tab-of bd 0 board_length (cleared_at bd false) e (λ p h. same (ltb p marks_place) (ltb p dues_from) (ltb p words_from) (get_or bd p 0)))
  where
    same : (s t u : Bool) (x : ℕ) → cond s x (cond t x (cond u x x)) ≡ x
    same true t u x = refl
    same false true u x = refl
    same false false true x = refl
    same false false false x = refl

module _ (bd : List ℕ) (n p : ℕ) where
  pub moved_before : p < dues_from → get_or bd p 0 ≡ moved_at bd n p
  unfolding moved_at
  moved_before h = rw (ltb_yes p dues_from h)

  pub moved_here : dues_from ≤ p → p + 1 < dues_of n → get_or bd (p + 1) 0 ≡ moved_at bd n p
  unfolding moved_at
  moved_here h k = rw (ltb_no p dues_from h, ltb_yes (p + 1) (dues_of n) k)

  pub moved-after : dues_from ≤ p → dues_of n ≤ p + 1 → get_or bd p 0 ≡ moved_at bd n p
  unfolding moved_at
  moved-after h k = rw (ltb_no p dues_from h, ltb_no (p + 1) (dues_of n) k)

  pub ended-before : p < dues_from → get_or bd p 0 ≡ ended_at bd n p
  unfolding ended_at
  ended-before h = rw (ltb_yes p dues_from h)

  pub ended_here : dues_from ≤ p → p < dues_of n → last_due p ≡ true → 0 ≡ ended_at bd n p
  unfolding ended_at
  ended_here h k e = rw (ltb_no p dues_from h, ltb_yes p (dues_of n) k, e)

  pub ended-else : dues_from ≤ p → p < dues_of n → last_due p ≡ false → get_or bd p 0 ≡ ended_at bd n p
  unfolding ended_at
  ended-else h k e = rw (ltb_no p dues_from h, ltb_yes p (dues_of n) k, e)

  pub ended-after : dues_from ≤ p → dues_of n ≤ p → get_or bd p 0 ≡ ended_at bd n p
  unfolding ended_at
  ended-after h k = rw (ltb_no p dues_from h, ltb_no p (dues_of n) k)

-- the dues of n rows moved as one block
module _ (bd x : List ℕ) (n : ℕ) (long : length x ≡ board_length) where
  moved-all : ((p : ℕ) → Dec (p < dues_from) → Dec (p + 1 < dues_of n) → get_or x p 0 ≡ moved_at bd n p) → x ≡ tab board_length (moved_at bd n)
  moved-all at = sym (tab-of x 0 board_length (moved_at bd n) long (λ p h. sym (at p (dec_lt p dues_from) (dec_lt (p + 1) (dues_of n)))))

  pub moved-block : (to : ℕ) → to ≡ dues_of n → 0 < n → CopiedTo bd x 267 dues_from (to - 267) × SameBelow bd x dues_from × SameFrom bd x (dues_from + (to - 267)) → x ≡ tab board_length (moved_at bd n)
  moved-block to e some w = moved-all at
    where
      at : (p : ℕ) → Dec (p < dues_from) → Dec (p + 1 < dues_of n) → get_or x p 0 ≡ moved_at bd n p
      at p (yes h) _ = w.1 p 0 h ∙ moved_before bd n p h
      at p (no h) (yes m) =
          let z : 267 + (p - dues_from) ≡ p + 1 = omega arith in
          w.0 p 0 (omega arith) (omega (arith, e)) ∙ ap (λ (j : ℕ). get_or bd j 0) z ∙ moved_here bd n p (omega arith) m
      at p (no h) (no m) = w.2 p 0 (omega (arith, e)) ∙ moved-after bd n p (omega arith) (omega arith)

-- without a row there is no due to move
pub moved-none : (bd : List ℕ) (n : ℕ) → length bd ≡ board_length → n ≡ 0 → bd ≡ tab board_length (moved_at bd n)
moved-none bd n long e = moved-all bd bd n long at
  where
    at : (p : ℕ) → Dec (p < dues_from) → Dec (p + 1 < dues_of n) → get_or bd p 0 ≡ moved_at bd n p
    at p (yes h) _ = moved_before bd n p h
    at p (no h) _ = moved-after bd n p (omega arith) (omega (arith, e))

-- ---- the three steps open the board

module _ (n : ℕ) (bd a b c : List ℕ) (can : CanOpen n bd) (october : Bool) (ea : a ≡ tab board_length (cleared_at bd october)) (eb : b ≡ tab board_length (moved_at a n)) (ec : c ≡ tab board_length (ended_at b n)) where
  first : (p : ℕ) → p < board_length → get_or a p 0 ≡ cleared_at bd october p
  first p h = ap (λ (l : List ℕ). get_or l p 0) ea ∙ tab-at (cleared_at bd october) board_length p 0 h

  second : (p : ℕ) → p < board_length → get_or b p 0 ≡ moved_at a n p
  second p h = ap (λ (l : List ℕ). get_or l p 0) eb ∙ tab-at (moved_at a n) board_length p 0 h

  third : (p : ℕ) → p < board_length → get_or c p 0 ≡ ended_at b n p
  third p h = ap (λ (l : List ℕ). get_or l p 0) ec ∙ tab-at (ended_at b n) board_length p 0 h

  -- before the dues only the first step tells
  front : (p : ℕ) → p < dues_from → get_or c p 0 ≡ cleared_at bd october p
  front p h = third p (omega arith) ∙ sym (ended-before b n p h) ∙ second p (omega arith) ∙ sym (moved_before a n p h) ∙ first p (omega arith)

  early : (p : ℕ) → p < marks_place → get_or c p 0 ≡ get_or bd p 0
  early p h = front p (omega arith) ∙ sym (cleared-before bd october p h)

  year : (p : ℕ) → marks_place ≤ p → p < dues_from → get_or c p 0 ≡ cond october 0 (get_or bd p 0)
  year p h k = front p k ∙ sym (cleared-year bd october p h k)

  -- a due of the n rows that is not its row's last
  moved : (w k : ℕ) → w < n → k < 10 → get_or c (due_place w k) 0 ≡ get_or bd (due_place w (suc k)) 0
  moved w k h l =
      let p : ℕ = due_place w k in
      third p (omega (arith, can.few))
      ∙ sym (ended-else b n p (omega arith) (omega arith) (before_last w p (omega arith) (omega arith)))
      ∙ second p (omega (arith, can.few))
      ∙ sym (moved_here a n p (omega arith) (omega arith))
      ∙ first (p + 1) (omega (arith, can.few))
      ∙ sym (cleared-due bd october (p + 1) (omega arith) (omega (arith, can.few)))
      ∙ place_read bd (omega arith)

  ended : (w : ℕ) → w < n → get_or c (due_place w 10) 0 ≡ 0
  ended w h = let p : ℕ = due_place w 10 in third p (omega (arith, can.few)) ∙ sym (ended_here b n p (omega arith) (omega arith) (last-due w))

  -- past them only the first step tells: nothing is due, before and after, and the words are cleared in October
  past : (p : ℕ) → dues_of n ≤ p → p < board_length → get_or c p 0 ≡ cleared_at bd october p
  past p h l = third p l ∙ sym (ended-after b n p (omega arith) h) ∙ second p l ∙ sym (moved-after a n p (omega arith) (omega arith)) ∙ first p l

  none : (w k : ℕ) → n ≤ w → w < 64 → k < 11 → get_or c (due_place w k) 0 ≡ 0
  none w k h l m = let p : ℕ = due_place w k in past p (omega arith) (omega arith) ∙ sym (cleared-due bd october p (omega arith) (omega arith)) ∙ can.empty p (omega arith) (omega arith)

  due : (w k : ℕ) → w < 64 → k < 11 → due_at c w (suc k) ≡ cond (eqb (suc k) 11) 0 (due_at bd w (suc (suc k)))
  due w k h l = pick (dec_lt w n) (dec_lt k 10)
    where
      pick : Dec (w < n) → Dec (k < 10) → due_at c w (suc k) ≡ cond (eqb (suc k) 11) 0 (due_at bd w (suc (suc k)))
      pick (yes o) (yes m) = rw (eqb-other (suc k) 11 (omega (arith, m))) (moved w k o m)
      pick (yes o) (no m) = let e : k ≡ 10 = omega arith in rw e (ended w o)
      pick (no o) (yes m) = rw (eqb-other (suc k) 11 (omega (arith, m))) (none w k (omega arith) h l ∙ sym (can.empty (due_place w (suc k)) (omega arith) (omega arith)))
      pick (no o) (no m) = let e : k ≡ 10 = omega arith in rw e (none w 10 (omega arith) h (omega arith))

  pub opened-is : c ≡ opened_board bd october
  unfolding opened_board opened_parts
  opened-is = board-is c (opened_parts bd october) (ap length ec ∙ tab-length (ended_at b n) board_length) (record {
    month = early month_place (omega arith);
    storage = λ v h. early (storage_place v) (omega arith);
    marks = year marks_place (omega arith) (omega arith);
    taken = λ i h. year (taken_place i) (omega arith) (omega arith);
    due = due;
    word = λ i h. past (word_place i) (omega (arith, can.few)) (omega arith) ∙ sym (cleared-word bd october (word_place i) (omega arith));
  })
