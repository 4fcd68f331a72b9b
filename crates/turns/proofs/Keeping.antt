-- What a turn leaves alone: the places of no reservoir and no right; marks of reservoirs that exist. Assumes nothing.
use mathlib.Core.Bool.{Bool, true, false, ◌&&◌}
use mathlib.Core.List.{List}
use mathlib.Core.Path.{◌≡◌, refl, ◌∙◌}
use Prim.Native.Nat.{ℕ, ◌+◌, ◌-◌, ◌^◌, ◌≤◌, ◌<◌}
use native.Mathlib.Omega.{arith}
use lib.Dec.{ltb, eqb}
use lib.ListN.{length, get_or, set, length-set}
use lib.Seq.{get_or-set_same, get_or-set_other}
use Rattle.general.proofs.Bits.{bit-fits}
use Rattle.general.proofs.Tests.{lt_of}
use Rattle.places.specs.Board.{storage_place, marks_place, taken_place, dues_from, board_length, storage_at, marks_at, taken_at}
use Rattle.rules.specs.Basin.{Basin}
use Rattle.records.specs.declared.rights.Kind.{Kind}
use Rattle.records.specs.declared.rights.Kind.TheVariants.{Direct, Project, Instream, Storage}
use Rattle.general.specs.Tests.{bit}
use Rattle.grants.specs.Stages.{marked_board, board_stored, board_drawn}
use Rattle.turns.specs.State.{Kept}
use Rattle.grants.proofs.RightKinds.{nine}
use Rattle.turns.proofs.Places.{poured-other}

-- ---- step by step

pub kept-none : (b : Basin) (bd : List ℕ) → Kept b bd bd
kept-none b bd = record { no-reservoir = λ v h l. refl; no-right = λ i h l. refl; marks = λ h. h }

pub kept_on : (b : Basin) (x y z : List ℕ) → Kept b x y → Kept b y z → Kept b x z
kept_on b x y z p q = record {
  no-reservoir = λ v h l. q.no-reservoir v h l ∙ p.no-reservoir v h l;
  no-right = λ i h l. q.no-right i h l ∙ p.no-right i h l;
  marks = λ h. q.marks (p.marks h);
}

pub kept_same : (b : Basin) (x y : List ℕ) → ((j : ℕ) → j < dues_from → get_or y j 0 ≡ get_or x j 0) → Kept b x y
kept_same b x y e = record {
  no-reservoir = λ v h l. e (storage_place v) (omega (arith, l));
  no-right = λ i h l. e (taken_place i) (omega (arith, l));
  marks = λ h. omega (arith, h, e 9 (omega arith));
}

first-true : (s t : Bool) → (s && t) ≡ true → s ≡ true
first-true true t e = refl
first-true false t e = e

module _ (b : Basin) (bd : List ℕ) (v : ℕ) (few : length b.reservoirs ≤ 8) where
  module _ (i d : ℕ) (hv : v < length b.reservoirs) (size : length bd ≡ board_length) (most : i < 256) where
    abbrev both : List ℕ
    both = set (set bd (storage_place v) (storage_at bd v + d)) (taken_place i) (taken_at bd i + d)

    both-size : length both ≡ board_length
    both-size = length-set (set bd (storage_place v) _) (taken_place i) _ ∙ length-set bd (storage_place v) _ ∙ size

    both-nine : marks_at both ≡ marks_at bd
    both-nine = nine v i d bd (omega (arith, hv, few))

    word-marked : (t : Bool) → (t ≡ true → bit (marks_at bd) v ≡ false) → marks_at bd < 2 ^ length b.reservoirs → marks_at (marked_board t both v) < 2 ^ length b.reservoirs
    word-marked true e l = omega (arith, get_or-set_same both marks_place (marks_at both + 2 ^ v) 0 (omega (arith, both-size)), both-nine, bit-fits v (length b.reservoirs) (marks_at bd) hv (e refl) l)
    word-marked false e l = omega (arith, both-nine, l)

  pub kept-stored : (k : Kind) (capacity i d : ℕ) → (k ≡ Storage → v < length b.reservoirs) → i < length b.rights → i < 256 → length bd ≡ board_length → (k ≡ Storage → 0 < d → bit (marks_at bd) v ≡ false) → Kept b bd (board_stored k capacity v i d bd)
  unfolding board_stored
  kept-stored Direct capacity i d hv hi most size free = kept-none b bd
  kept-stored Project capacity i d hv hi most size free = kept-none b bd
  kept-stored Instream capacity i d hv hi most size free = kept-none b bd
  kept-stored Storage capacity i d hv hi most size free =
      let in-v : v < length b.reservoirs = hv refl in
      let full : Bool = ltb 0 d && eqb (storage_at bd v + d) capacity in
      record {
        no-reservoir = λ u h l. poured-other bd capacity v i d (omega (arith, in-v, few)) most (storage_place u) (λ e. omega (arith, e, h, in-v)) (λ e. omega (arith, e, l)) (λ e. omega (arith, e, l));
        no-right = λ u h l. poured-other bd capacity v i d (omega (arith, in-v, few)) most (taken_place u) (λ e. omega (arith, e, in-v, few)) (λ e. omega (arith, e)) (λ e. omega (arith, e, h, hi));
        marks = λ h. word-marked i d in-v size most full (λ e. free refl (lt_of {m = 0} {n = d} (first-true (ltb 0 d) (eqb (storage_at bd v + d) capacity) e))) h;
      }

  pub kept-drawn : (k : Kind) (x : ℕ) → (k ≡ Project → v < length b.reservoirs) → Kept b bd (board_drawn k x v bd)
  unfolding board_drawn
  kept-drawn Direct x hv = kept-none b bd
  kept-drawn Project x hv =
      let in-v : v < length b.reservoirs = hv refl in
      let y : ℕ = storage_at bd v - x in
      record {
        no-reservoir = λ u h l. get_or-set_other bd (storage_place v) (storage_place u) y 0 (λ e. omega (arith, e, h, in-v));
        no-right = λ u h l. get_or-set_other bd (storage_place v) (taken_place u) y 0 (λ e. omega (arith, e, in-v, few));
        marks = λ h. omega (arith, h, get_or-set_other bd (storage_place v) marks_place y 0 (λ e. omega (arith, e, in-v, few)));
      }
  kept-drawn Instream x hv = kept-none b bd
  kept-drawn Storage x hv = kept-none b bd
