-- Laws of the file's layout. Assumes nothing.
use mathlib.Core.Path.{◌≡◌, ap, ◌∙◌}
use mathlib.Core.Bool.{true}
use mathlib.Core.List.{List}
use Prim.Native.Nat.{ℕ, ◌-◌, ◌≤◌}
use native.Mathlib.Nat.{add-sub_cancel_left}
use native.Mathlib.Omega.{arith}
use borrow.Author.Tests.{le-leb}
use lib.ListN.{length, take, drop, length-drop}
use lib.Seq.{length-take-le}
use Rattle.general.specs.Tests.{◌and◌}
use Rattle.general.proofs.Tests.{both_of, between-of, eq_of, le_of}
use Rattle.sections.specs.File.{offset_of, count_of, size_of, end_of, counts_ok, packed, layout_ok, section_of}

pub section-part : (f : List ℕ) → 32 ≤ length f → (w : ℕ) → end_of f w ≤ length f → section_of f w ≡ take (end_of f w - offset_of f w) (drop (offset_of f w) f)
unfolding section_of ◌and◌
section-part f h w k = rw (le-leb 32 (length f) h, le-leb (end_of f w) (length f) k, add-sub_cancel_left)

-- ---- what an accepted layout says

pub record Laid (f : List ℕ) : Type 0 where
  pub long : 32 ≤ length f
  pub stations : (1 ≤ count_of f 0) × (count_of f 0 ≤ 64)
  pub reservoirs : count_of f 1 ≤ 8
  pub patterns : count_of f 2 ≤ 16
  pub rights : count_of f 3 ≤ 256
  pub packs : packed f ≡ true

pub laid : (f : List ℕ) → layout_ok f ≡ true → Laid f
unfolding layout_ok counts_ok
laid f e =
    let a = both_of e in
    let b = both_of a.0 in
    let c₃ = both_of b.1 in
    let c₂ = both_of c₃.0 in
    let c₁ = both_of c₂.0 in
    record { long = le_of b.0; stations = between-of c₁.0; reservoirs = le_of c₁.1; patterns = le_of c₂.1; rights = le_of c₃.1; packs = a.1 }

-- each body ends within the file
pub ends-within : (f : List ℕ) → packed f ≡ true → (end_of f 0 ≤ length f) × (end_of f 1 ≤ length f) × (end_of f 2 ≤ length f) × (end_of f 3 ≤ length f)
unfolding packed
ends-within f e =
    let a₄ = both_of e in
    let a₃ = both_of a₄.0 in
    let a₂ = both_of a₃.0 in
    let a₁ = both_of a₂.0 in
    let l : length f ≡ end_of f 3 = eq_of a₄.1 in
    let o₃ : offset_of f 3 ≡ end_of f 2 = eq_of a₃.1 in
    let o₂ : offset_of f 2 ≡ end_of f 1 = eq_of a₂.1 in
    let o₁ : offset_of f 1 ≡ end_of f 0 = eq_of a₁.1 in
    (omega arith, omega arith, omega arith, omega arith)

-- a body that the file holds has the size that the table gives
pub section-length : (f : List ℕ) (w : ℕ) → 32 ≤ length f → end_of f w ≤ length f → length (section_of f w) ≡ size_of f w
section-length f w h k =
    let e : length (drop (offset_of f w) f) ≡ length f - offset_of f w = length-drop (offset_of f w) f in
    ap length (section-part f h w k) ∙ length-take-le (end_of f w - offset_of f w) (drop (offset_of f w) f) (omega arith) ∙ add-sub_cancel_left _ _
