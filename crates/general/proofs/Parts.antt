-- Laws of a list with a part written over. Assumes nothing.
use mathlib.Core.Path.{◌≡◌, sym, ap, ◌∙◌}
use mathlib.Core.List.{List, [], ◌++◌, append_assoc}
use Prim.Native.Nat.{ℕ, ◌+◌, ◌-◌, ◌≤◌, ◌<◌}
use native.Mathlib.Omega.{arith}
use borrow.Rule.Slice.PartMut.{put_mid}
use lib.ListN.{length, get_or, take, drop, length-append, length-drop, get_or-append}
use lib.Seq.{length-take-le, get_or-append-add, get_or-take, get_or-drop, drop-drop, take_at, drop_at, sets-eq}
use Rattle.general.specs.Parts.{over}

module _ (s : List ℕ) (at : ℕ) (v : List ℕ) where
  -- the part up to the end of what is written
  head : at ≤ length s → length (take at s ++ v) ≡ at + length v
  head h = length-append (take at s) v ∙ ap (λ (n : ℕ). n + length v) (length-take-le at s h)

  pub over-length : at + length v ≤ length s → length (over s at v) ≡ length s
  unfolding over
  over-length h = omega (arith, length-append (take at s ++ v) (drop (at + length v) s), length-drop (at + length v) s, head (omega arith))

  -- what stands in the part, before it and after it
  pub over-in : (j : ℕ) → at ≤ length s → j < length v → get_or (over s at v) (at + j) 0 ≡ get_or v j 0
  unfolding over
  over-in j h k =
      let e = head h in
      get_or-append (take at s ++ v) (drop (at + length v) s) 0 (at + j) (omega arith)
      ∙ ap (λ (n : ℕ). get_or (take at s ++ v) (n + j) 0) (sym (length-take-le at s h))
      ∙ get_or-append-add (take at s) v j 0

  pub over-before : (i : ℕ) → at ≤ length s → i < at → get_or (over s at v) i 0 ≡ get_or s i 0
  unfolding over
  over-before i h k =
      let e = head h in
      let f = length-take-le at s h in
      get_or-append (take at s ++ v) (drop (at + length v) s) 0 i (omega arith)
      ∙ get_or-append (take at s) v 0 i (omega arith)
      ∙ get_or-take at s i 0 k

  pub over-after : (i : ℕ) → at ≤ length s → at + length v ≤ i → get_or (over s at v) i 0 ≡ get_or s i 0
  unfolding over
  over-after i h k =
      let e = head h in
      let p : length (take at s ++ v) + (i - (at + length v)) ≡ i = omega arith in
      let q : at + length v + (i - (at + length v)) ≡ i = omega arith in
      ap (λ (n : ℕ). get_or (take at s ++ v ++ drop (at + length v) s) n 0) (sym p)
      ∙ get_or-append-add (take at s ++ v) (drop (at + length v) s) (i - (at + length v)) 0
      ∙ get_or-drop (at + length v) s (i - (at + length v)) 0
      ∙ ap (λ (n : ℕ). get_or s n 0) q

  -- what is written next to it
  pub over-over : (w : List ℕ) → at ≤ length s → over (over s at v) (at + length v) w ≡ over s at (v ++ w)
  unfolding over
  over-over w h =
      let p = take at s ++ v in
      let r = drop (at + length v) s in
      let e = head h in
      let n : at + length (v ++ w) ≡ at + length v + length w = omega (arith, length-append v w) in
      let t : take (at + length v) (p ++ r) ≡ p = take_at p r (at + length v) e in
      let d : drop (at + length v + length w) (p ++ r) ≡ drop (at + length v + length w) s =
      sym (drop-drop (length w) (at + length v) (p ++ r)) ∙ ap (drop (length w)) (drop_at p r (at + length v) e) ∙ drop-drop (length w) (at + length v) s in
      (λ z. t z ++ w ++ d z) ∙ (λ z. append_assoc (take at s) v w z ++ drop (sym n z) s)

pub over_none : (s : List ℕ) (at : ℕ) → at ≤ length s → s ≡ over s at []
unfolding over
over_none s at h = sets-eq [] s at (omega arith)

-- what a part of a slice leaves that is written through, the other elements being as they were
pub put_mid-over : (s : List ℕ) (at k : ℕ) (v : List ℕ) → k ≡ length v → put_mid at k s v ≡ over s at v
unfolding over
put_mid-over s at k v e = sym (append_assoc (take at s) v (drop k (drop at s))) ∙ ap (λ (r : List ℕ). take at s ++ v ++ r) (drop-drop k at s ∙ ap (λ (n : ℕ). drop (at + n) s) e)
