-- A list that a loop fills from the front, one element a turn. Assumes nothing.
use mathlib.Core.Path.{◌≡◌, ap, ◌∙◌}
use mathlib.Core.List.{List, ◌++◌, append_assoc}
use Prim.Native.Nat.{ℕ, suc, ◌+◌, ◌-◌, ◌≤◌, ◌<◌}
use native.Mathlib.Numerals.{add-one}
use native.Mathlib.Omega.{arith}
use lib.ListN.{length, get_or, take, drop, set, replicate, length-replicate}
use Rattle.std.proofs.lemmas.List.{drop-replicate}
use lib.Seq.{set_at, length-take-le}
use Rattle.general.specs.Tables.{tab}
use Rattle.general.proofs.Tables.{tab-length, tab-filled}

-- k of n places filled by the rule f, the others still z
abbrev pub filled : {A : Type 0} → (ℕ → A) → A → ℕ → ℕ → List A
filled f z n k = tab k f ++ replicate (n - k) z

module _ {A : Type 0} (f : ℕ → A) (z : A) where
  pub fill_none : (n : ℕ) → replicate n z ≡ filled f z n 0
  unfolding tab
  fill_none n = let e : n - 0 ≡ n = omega arith in rw e

  pub fill_more : (n k : ℕ) (l : List A) (v : A) → k < n → v ≡ f k → l ≡ filled f z n k → set l k v ≡ filled f z n (k + 1)
  unfolding tab
  fill_more n k l v h ev el =
      let e : n - k ≡ suc (n - (k + 1)) = omega arith in
      rw (el, ev, add-one k, e, set_at (tab k f) z (replicate (n - (k + 1)) z) (f k) k (tab-length f k), append_assoc, add-one k)

  -- a loop over the first k places of a list of n
  pub fill_front : (d : A) (n k : ℕ) (l t : List A) → k ≤ n → t ≡ replicate n z → length l ≡ length (take k t) → ((j : ℕ) → j < k → get_or l j d ≡ f j) → l ++ drop k t ≡ filled f z n k
  fill_front d n k l t g r e h =
      let m : length l ≡ k = e ∙ ap (λ x. length (take k x)) r ∙ length-take-le k (replicate n z) (omega (arith, length-replicate n z)) in
      rw r (λ i. tab-filled f l k d m h i ++ drop-replicate k n z i)
