-- Shares by their running sums of percents, one turn of the split, and its end. Assumes nothing.
use mathlib.Core.List.{List, [], ◌∷◌}
use mathlib.Core.Path.{◌≡◌, refl, sym, ap, ◌∙◌}
use Prim.Native.Nat.{ℕ, zero, suc, ◌+◌, ◌-◌, ◌*◌, ◌/◌, ◌≤◌, ◌<◌}
use native.Mathlib.Nat.{mul-le-mul_left}
use native.Mathlib.Omega.{arith}
use native.Mathlib.Decide.{dec_lt}
use borrow.Rule.Slice.PartMut.{put_mid}
use lib.ListN.{length, get_or, set, length-set, take, drop}
use lib.Seq.{get_or-set_same, get_or-set_other, get_or-take, get_or-drop}
use Rattle.general.specs.Sums.{sum, sum_to, up_to}
use Rattle.general.proofs.Parts.{over-length, over-in, over-before, over-after, put_mid-over}
use Rattle.general.proofs.Sums.{sum_to-front, sum_to-list, at-le-sum, up_to-le, sum_to-rises}
use Rattle.general.proofs.Tables.{tab-at}
use Rattle.general.proofs.Tests.{by_eqb}
use Rattle.records.specs.Table.{sums_of}
use Rattle.rules.specs.Returns.{shares_from, shares, deep_loss}
use Rattle.rules.proofs.Splits.{shares-deep, deep-le}
use Rattle.returns.specs.declared.split.SplitPart.{SplitPart}
use Rattle.returns.specs.Dues.{Sums, Lagged, SplitUp}

from_at : (a c : ℕ) (ps : List ℕ) (k : ℕ) → k < length ps → get_or (shares_from a c ps) k 0 ≡ a * (c + up_to ps (suc k)) / 100 - a * (c + up_to ps k) / 100
unfolding shares_from sum_to
from_at a c [] k h = absurd (omega arith)
from_at a c (p ∷ ps) zero h =
    let e : c + p ≡ c + up_to (p ∷ ps) 1 = omega arith in
    let f : c ≡ c + up_to (p ∷ ps) 0 = omega arith in
    ap (λ (x : ℕ). a * x / 100 - a * c / 100) e ∙ ap (λ (x : ℕ). a * (c + up_to (p ∷ ps) 1) / 100 - a * x / 100) f
from_at a c (p ∷ ps) (suc k) h =
    let e : c + p + up_to ps (suc k) ≡ c + up_to (p ∷ ps) (suc (suc k)) = omega (arith, sum_to-front (suc k) (λ j. get_or (p ∷ ps) j 0)) in
    let f : c + p + up_to ps k ≡ c + up_to (p ∷ ps) (suc k) = omega (arith, sum_to-front k (λ j. get_or (p ∷ ps) j 0)) in
    from_at a (c + p) ps k (omega arith) ∙ ap (λ (x : ℕ). a * x / 100 - a * (c + p + up_to ps k) / 100) e ∙ ap (λ (x : ℕ). a * (c + up_to (p ∷ ps) (suc (suc k))) / 100 - a * x / 100) f

-- a share is the difference of two floors
pub share-at : (a : ℕ) (ps : List ℕ) (k : ℕ) → k < length ps → get_or (shares a ps) k 0 ≡ a * up_to ps (suc k) / 100 - a * up_to ps k / 100
unfolding shares
share-at a ps k h = from_at a 0 ps k h ∙ rw (zero-plus (up_to ps (suc k)), zero-plus (up_to ps k))
  where
    zero-plus : (x : ℕ) → 0 + x ≡ x
    zero-plus x = omega arith

-- no share is above the amount
pub share-le : (a : ℕ) (ps : List ℕ) (k : ℕ) → sum ps ≤ 100 → get_or (shares a ps) k 0 ≤ a
share-le a ps k h = omega (arith, at-le-sum (shares a ps) k, shares-deep a ps h)

-- ---- running sums

module _ (pattern sums : List ℕ) (s : Sums pattern sums) where
  sum-at : (k : ℕ) → k < 12 → get_or sums k 0 ≡ up_to pattern (suc k)
  unfolding sums_of
  sum-at k h = ap (λ (l : List ℕ). get_or l k 0) s.running ∙ tab-at (λ j. up_to pattern (suc j)) 12 k 0 h

  pub sums_most : (k : ℕ) → k < 12 → get_or sums k 0 ≤ 100
  sums_most k h = omega (arith, sum-at k h, up_to-le pattern (suc k), s.good.sum_most)

  sums-rise : (j k : ℕ) → j ≤ k → k < 12 → get_or sums j 0 ≤ get_or sums k 0
  sums-rise j k m h = omega (arith, sum-at j (omega arith), sum-at k h, sum_to-rises (λ i. get_or pattern i 0) (suc j) (suc k) (omega arith))

  -- the last of them is the sum of the pattern
  last_sum : get_or sums 11 0 ≡ sum pattern
  last_sum = sum-at 11 (omega arith) ∙ ap (λ (n : ℕ). up_to pattern n) (sym s.good.twelve) ∙ sum_to-list pattern

  module _ (a : ℕ) where
    -- the share of month 0, and those of the months after it
    first-share : get_or (shares a pattern) 0 0 ≡ a * get_or sums 0 0 / 100
    unfolding sum_to
    first-share = share-at a pattern 0 (omega (arith, s.good.twelve)) ∙ rw (sum-at 0 (omega arith)) (omega arith)

    next-share : (k : ℕ) → k < 11 → get_or (shares a pattern) (suc k) 0 ≡ a * get_or sums (suc k) 0 / 100 - a * get_or sums k 0 / 100
    next-share k h = share-at a pattern (suc k) (omega (arith, s.good.twelve)) ∙ rw (sum-at (suc k) (omega arith), sum-at k (omega arith))

    -- what has returned by a month: never less than before, never more than the amount
    pub floors_rise : (k : ℕ) → k < 11 → a * get_or sums k 0 / 100 ≤ a * get_or sums (k + 1) 0 / 100
    floors_rise k h = omega (arith, mul-le-mul_left a (sums-rise k (k + 1) (omega arith) (omega arith)))

    pub floor_le : (k : ℕ) → k < 12 → a * get_or sums k 0 / 100 ≤ a
    floor_le k h = omega (arith, mul-le-mul_left a (sums_most k h))

    -- where the sums no longer rise there are no more shares
    no-share : (k j : ℕ) → k ≤ j → j < 11 → get_or sums k 0 ≡ get_or sums 11 0 → get_or (shares a pattern) (suc j) 0 ≡ 0
    no-share k j m h e =
        let f : get_or sums (suc j) 0 ≡ get_or sums j 0 = omega (arith, sums-rise k j m (omega arith), sums-rise j (suc j) (omega arith) (omega arith), sums-rise (suc j) 11 (omega arith) (omega arith)) in
        next-share j h ∙ rw f (omega arith)

    -- what the sum of all leaves goes deep
    deep-left : (k : ℕ) → get_or sums k 0 ≡ get_or sums 11 0 → a - a * get_or sums k 0 / 100 ≡ deep_loss a pattern
    unfolding deep_loss
    deep-left k e = rw (e ∙ last_sum)

-- ---- one turn of the loop

module _ (pattern : List ℕ) (a at : ℕ) (l : List ℕ) where
  -- a place has grown by at most the amount
  pub lagged-le : (k : ℕ) (l' : List ℕ) → sum pattern ≤ 100 → Lagged pattern a at k l l' → (j : ℕ) → get_or l' j 0 ≤ get_or l j 0 + a
  lagged-le k l' e w j = low (dec_lt j at)
    where
      high : Dec (j < at + k) → at ≤ j → get_or l' j 0 ≤ get_or l j 0 + a
      high (yes h) m =
          let i : at + (j - at) ≡ j = omega arith in
          let f : get_or l' (at + (j - at)) 0 ≡ get_or l (at + (j - at)) 0 + get_or (shares a pattern) (suc (j - at)) 0 = w.each (j - at) (omega arith) in
          omega (arith, rw i at f, share-le a pattern (suc (j - at)) e)
      high (no h) m = omega (arith, w.over j (omega arith))

      low : Dec (j < at) → get_or l' j 0 ≤ get_or l j 0 + a
      low (yes h) = omega (arith, w.under j h)
      low (no h) = high (dec_lt j (at + k)) (omega arith)

  module _ (sums : List ℕ) (s : Sums pattern sums) (k : ℕ) (l' : List ℕ) (w : Lagged pattern a at k l l') where
    pub lagged-more : (i before next : ℕ) → i ≡ at + k → k < 11 → i < length l' → before ≡ a * get_or sums k 0 / 100 → next ≡ a * get_or sums (k + 1) 0 / 100
        → Lagged pattern a at (k + 1) l (set l' i (get_or l' i 0 + (next - before)))
    lagged-more i before next ei n m eb en =
        let v : ℕ = get_or l' i 0 + (next - before) in
        let f : k + 1 ≡ suc k = omega arith in
        let d : next - before ≡ get_or (shares a pattern) (suc k) 0 = rw (eb, en, f) (sym (next-share pattern sums s a k n)) in
        record {
          size = length-set l' i v ∙ w.size;
          each = λ j h. by_eqb j k (λ _. get_or (set l' i v) (at + j) 0 ≡ get_or l (at + j) 0 + get_or (shares a pattern) (suc j) 0)
              (λ e. rw (e, ← ei) (get_or-set_same l' i v 0 m ∙ omega (arith, d, ap (λ (y : ℕ). get_or l y 0) ei, ap (λ (y : ℕ). get_or l' y 0) ei, w.over (at + k) (omega arith))))
              (λ e. get_or-set_other l' i (at + j) v 0 (λ z. e (omega arith)) ∙ w.each j (omega arith));
          under = λ j h. get_or-set_other l' i j v 0 (λ z. omega arith) ∙ w.under j h;
          over = λ j h. get_or-set_other l' i j v 0 (λ z. omega arith) ∙ w.over j (omega arith);
        }

    -- ---- its end: the sums no longer rise

    module _ (m : k ≤ 11) (same : get_or sums k 0 ≡ get_or sums 11 0) where
      lagged-rest : Lagged pattern a at 11 l l'
      lagged-rest = record { size = w.size; each = λ j h. pick j h (dec_lt j k); under = w.under; over = λ j h. w.over j (omega arith) }
        where
          pick : (j : ℕ) → j < 11 → Dec (j < k) → get_or l' (at + j) 0 ≡ get_or l (at + j) 0 + get_or (shares a pattern) (suc j) 0
          pick j h (yes y) = w.each j y
          pick j h (no z) = omega (arith, w.over (at + j) (omega arith), no-share pattern sums s a k j (omega arith) h same)

      pub split_done : (x : SplitPart) (before : ℕ) → x.at_once ≡ a * get_or sums 0 0 / 100 → before ≡ a * get_or sums k 0 / 100 → x.deep ≡ a - before → SplitUp pattern a at l l' x
      split_done x before eo eb ed = record {
        at_once = eo ∙ sym (first-share pattern sums s a);
        deep = ed ∙ ap (λ (y : ℕ). a - y) eb ∙ deep-left pattern sums s a k same;
        later = lagged-rest;
      }

-- neither of what is told is above the amount
pub split-le : (pattern : List ℕ) (a at : ℕ) (l l' : List ℕ) (x : SplitPart) → sum pattern ≤ 100 → SplitUp pattern a at l l' x → (x.at_once ≤ a) × (x.deep ≤ a)
split-le pattern a at l l' x h w = (omega (arith, w.at_once, share-le a pattern 0 h), omega (arith, w.deep, deep-le a pattern))

-- ---- the dues of a row, as a part of the board

module _ (pattern : List ℕ) (a at k : ℕ) (bd dues : List ℕ) (fit : at + 11 ≤ length bd) (part : k ≡ 11) (long : length dues ≡ 11) where
  pub split-placed : {x : SplitPart} → SplitUp pattern a 0 (take k (drop at bd)) dues x → SplitUp pattern a at bd (put_mid at k bd dues) x
  split-placed {x} w = rw (put_mid-over bd at k dues (omega arith)) (record {
    at_once = w.at_once;
    deep = w.deep;
    later = record {
      size = over-length bd at dues (omega arith);
      each = λ j h.
          let i : 0 + j ≡ j = omega arith in
          over-in bd at dues j (omega arith) (omega arith)
          ∙ sym (ap (λ (x : ℕ). get_or dues x 0) i)
          ∙ w.later.each j h
          ∙ ap (λ (y : ℕ). y + get_or (shares a pattern) (suc j) 0) (ap (λ (x : ℕ). get_or (take k (drop at bd)) x 0) i ∙ get_or-take k (drop at bd) j 0 (omega arith) ∙ get_or-drop at bd j 0);
      under = λ j h. over-before bd at dues j (omega arith) h;
      over = λ j h. over-after bd at dues j (omega arith) (omega arith);
    };
  })

-- nothing is split into nothing
pub split-nothing : (pattern : List ℕ) (a at : ℕ) (l : List ℕ) (x : SplitPart) → sum pattern ≤ 100 → a ≡ 0 → x.at_once ≡ 0 → x.deep ≡ 0 → SplitUp pattern a at l l x
split-nothing pattern a at l x h e eo ed = record {
  at_once = omega (arith, eo, e, share-le a pattern 0 h);
  deep = omega (arith, ed, e, deep-le a pattern);
  later = record { size = refl; each = λ j i. omega (arith, e, share-le a pattern (suc j) h); under = λ j i. refl; over = λ j i. refl };
}
