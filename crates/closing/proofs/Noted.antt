-- The short words, right after right. Assumes nothing.
use mathlib.Core.List.{List}
use mathlib.Core.Path.{◌≡◌, refl, ap, ◌∙◌}
use Prim.Native.Nat.{ℕ, ◌+◌, ◌≤◌, ◌<◌}
use native.Mathlib.Omega.{arith}
use lib.ListN.{length, get_or, set, take, drop}
use lib.Seq.{get_or-set_same, get_or-set_other, get_or-take, get_or-drop}
use borrow.Rule.Slice.PartMut.{put_mid}
use Rattle.general.proofs.Tests.{by_eqb}
use Rattle.general.proofs.Parts.{over-length, over-in, over-before, over-after, put_mid-over}
use Rattle.general.specs.Tests.{with_bit}
use Rattle.places.specs.Board.{words_from}
use Rattle.closing.specs.Noting.{has_reason, WordsNoted}

-- the first k of a list of words have been noted, and no other
pub record Noted (m k : ℕ) (rp words words' : List ℕ) : Type 0 where
  pub passed : (i : ℕ) → i < k → get_or words' i 0 ≡ with_bit (get_or words i 0) m (has_reason rp i)
  pub others : (i : ℕ) → k ≤ i → get_or words' i 0 ≡ get_or words i 0

module _ (m : ℕ) (rp words : List ℕ) where
  pub noted-none : Noted m 0 rp words words
  noted-none = record { passed = λ i h. absurd (omega (arith, h)); others = λ i h. refl }

  -- the word of right k, as it was read and written
  pub noted-at : (k w : ℕ) (x : List ℕ) → k < length x → Noted m k rp words x → w ≡ with_bit (get_or x k 0) m (has_reason rp k) → Noted m (k + 1) rp words (set x k w)
  noted-at k w x on l e = record {
    passed = λ i h. by_eqb i k (λ _. get_or (set x k w) i 0 ≡ with_bit (get_or words i 0) m (has_reason rp i))
        (λ z. rw z (get_or-set_same x k w 0 on ∙ e ∙ ap (λ (y : ℕ). with_bit y m (has_reason rp k)) (l.others k (omega arith))))
        (λ z. get_or-set_other x k i w 0 (λ y. z (omega arith)) ∙ l.passed i (omega arith));
    others = λ i h. get_or-set_other x k i w 0 (λ y. omega arith) ∙ l.others i (omega arith);
  }

-- the board with the noted words written over its part of them, of k words
module _ (m n k : ℕ) (rp bd words : List ℕ) (long : n ≡ length words) (part : k ≡ length words) (fits : words_from + n ≤ length bd) where
  pub noted-over : Noted m n rp (take k (drop words_from bd)) words → WordsNoted m n rp bd (put_mid words_from k bd words)
  noted-over l = rw (put_mid-over bd words_from k words part) (record {
    noted = λ i h.
        over-in bd words_from words i (omega arith) (omega arith)
        ∙ l.passed i h
        ∙ ap (λ (y : ℕ). with_bit y m (has_reason rp i)) (get_or-take k (drop words_from bd) i 0 (omega arith) ∙ get_or-drop words_from bd i 0);
    front = λ p h. over-before bd words_from words p (omega arith) h;
    beyond = λ p h. over-after bd words_from words p (omega arith) (omega arith);
    size = over-length bd words_from words (omega arith);
  })
