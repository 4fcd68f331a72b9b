-- Laws of the book's layout, and of a year's place in its table. Assumes nothing.
use Rattle.std.specs.Prelude.{Option, Some, MatchOption, ⊤}
use Rattle.std.specs.declared.ops.Range.{Range}
use Rattle.std.specs.Iterator.{YieldsThen}
use Rattle.std.specs.List.{FoldsTo}
use Rattle.std.specs.Fn.{CalledAt}
use Rattle.std.proofs.iter.Yields.{nat_range_steps}
use Rattle.std.proofs.lemmas.Iterator.{first_from_Range}
use denote.Ref.{Bor}
use denote.Param.Members.{Mut}
use mathlib.Core.Path.{◌≡◌, refl, ap, ◌∙◌}
use mathlib.Core.Bool.{Bool, true, false}
use mathlib.Core.List.{List}
use Prim.Native.Nat.{ℕ, ◌+◌, ◌-◌, ◌*◌, ◌≤◌, ◌<◌}
use native.Mathlib.Nat.{mul-le-mul}
use native.Mathlib.Omega.{arith}
use lib.Dec.{eqb}
use lib.ListN.{length, take, drop, length-drop}
use lib.Seq.{length-take-le}
use Rattle.general.specs.Tests.{first_at}
use Rattle.general.proofs.Tests.{both_of, eq_of, le_of}
use Rattle.general.proofs.Search.{all-at, found-below, first-within}
use Rattle.general.proofs.Loops.{step-within}
use Rattle.book.specs.Book.{most_years, year_count, entry_at, year_at, offset_at, body_size, packed_at, entry_ok, book_ok, listed_at, body_of, Kept, Sized}

-- ---- sizes

-- twenty bodies of 64 stations are small
pub bodies-most : (n i : ℕ) {s : ℕ} → s ≡ body_size n → n ≤ 64 → i ≤ most_years → s * i ≤ 3072 * 20
bodies-most n i {s} e h l = mul-le-mul {n₁ = s} {m₁ = i} {n₂ = 3072} {m₂ = 20} (omega arith) l

pub packed-is : (n : ℕ) (k : List ℕ) (i : ℕ) → packed_at n k i ≡ entry_at (year_count k) + body_size n * i
unfolding packed_at
packed-is n k i = refl

-- ---- the layout

-- each entry of a table lies in the book
pub entry_within : (n : ℕ) (k : List ℕ) (i : ℕ) → Sized n k → i < year_count k → entry_at i + 8 ≤ length k
unfolding packed_at
entry_within n k i h l = let w : length k ≡ entry_at (year_count k) + body_size n * year_count k = h.whole in omega arith

module _ (n : ℕ) (k : List ℕ) where
  -- ---- what a good book says

  pub record Laid : Type 0 where
    pub small : year_count k ≤ most_years
    pub whole : length k ≡ packed_at n k (year_count k)
    pub each : (i : ℕ) → i < year_count k → offset_at k i ≡ packed_at n k i

  pub laid : Kept n k → Laid
  unfolding book_ok entry_ok
  laid h =
      let a = both_of h.good in
      let b = both_of a.0 in
      record { small = le_of (both_of b.0).1; whole = eq_of b.1; each = λ i l. eq_of (both_of (all-at (year_count k) (entry_ok n k) a.1 i l)).1 }

  pub record Within (i : ℕ) : Type 0 where
    pub body : offset_at k i + body_size n ≤ length k
    pub near : offset_at k i ≤ 100000

  pub within : Kept n k → (i : ℕ) → i < year_count k → Within i
  within h i l =
      let d = laid h in
      let e : length k ≡ entry_at (year_count k) + body_size n * year_count k = d.whole ∙ packed-is n k (year_count k) in
      let o : offset_at k i ≡ entry_at (year_count k) + body_size n * i = d.each i l ∙ packed-is n k i in
      let s : body_size n * i + body_size n ≤ body_size n * year_count k = step-within (body_size n) (year_count k) i l in
      let m : body_size n * year_count k ≤ 61440 = bodies-most n (year_count k) refl h.few d.small in
      let q : year_count k ≤ most_years = d.small in
      record { body = omega arith; near = omega arith }

  pub part-is : {s l : ℕ} (i : ℕ) → s ≡ offset_at k i → l ≡ body_size n → take (s + l - s) (drop s k) ≡ body_of n k i
  unfolding body_of
  part-is {s} {l} i es el =
      let d : s + l - s ≡ body_size n = omega arith in
      λ z. take (d z) (drop (es z) k)

  pub body-length : Kept n k → (i : ℕ) → i < year_count k → length (body_of n k i) ≡ body_size n
  unfolding body_of
  body-length h i l = length-take-le (body_size n) (drop (offset_at k i) k) (omega (arith, (within h i l).body, length-drop (offset_at k i) k))

  pub listed-within : (y i : ℕ) → listed_at k y ≡ Some i → i < year_count k
  unfolding listed_at
  listed-within y i e = omega (arith, first-within (λ j. eqb (year_at k j) y) (year_count k) 0 i e)

-- a year's place as the library's search over the table finds it
pub listed : (k : List ℕ) (y : ℕ) (u : Range ℕ) (o : Option ℕ) {c : ℕ} {F : Type 0} {g : Mut F (Bor ℕ × Unit {0}) Bool} {f : F} → c ≡ year_count k
    → (xs : List ℕ) × (j : F) × YieldsThen nat_range_steps (record { start = 0; end = c }) xs o u × FoldsTo (λ p x q. CalledAt g p x false q) f xs j × MatchOption o ⊤ (λ x. (h : F) × CalledAt g j x true h)
    → ((x : ℕ) (q : F) → CalledAt g f x true q → eqb (year_at k x) y ≡ true) → ((x : ℕ) (q : F) → CalledAt g f x false q → (q ≡ f) × (eqb (year_at k x) y ≡ false))
    → o ≡ listed_at k y
unfolding listed_at
listed k y u o {c} {F} {g} {f} e d here other =
    let t : ℕ → Bool = λ j. eqb (year_at k j) y in
    found-below t c o (first_from_Range _ u f o (λ j. t j ≡ true) (λ j. t j ≡ false) d here other) ∙ ap (λ (n : ℕ). first_at n 0 t) e
