use mathlib.Core.Bool.{Bool, true, false}
use mathlib.Core.List.{List, ◌∷◌}
use mathlib.Core.Logic.{◌⊎◌, inl, inr}
use mathlib.Core.Path.{◌≡◌, refl, sym, ap, ◌∙◌}
use Prim.Native.Nat.{ℕ, suc, ◌+◌, ◌-◌, ◌/◌, ◌^◌, ◌≤◌, ◌<◌}
use native.Mathlib.Omega.{arith}
use borrow.Author.Rules.{rules}
use lib.Bits.{bit_or}
use lib.Dec.{ltb}
use lib.ListN.{length, get_or, take, drop, length-drop}
use lib.Seq.{length-take-le}
use Rattle.std.proofs.lemmas.List.{places}
use lib.Pow.{pow_pos}
use Rattle.general.proofs.Bits.{or-bits}
use Rattle.general.proofs.Loops.{all_none, all_more}
use Rattle.general.proofs.Search.{all-twice}
use Rattle.general.proofs.Tests.{ltb_yes, and-of}
use Rattle.general.specs.Tests.{◌and◌, all_to}
use Rattle.boards.specs.Bodies.{have_bits}
use Rattle.boards.proofs.possible.joined.Invariants.{Joins, Passing}
use Rattle.boards.proofs.possible.joined.Goals as goal

join-none : (board : List ℕ) (from middle : ℕ) → Joins board from middle 0 0
unfolding have_bits
join-none board from middle k = ltb_yes 0 (2 ^ k) (pow_pos k) ∙ sym (and-of (sym (all_none _)) (sym (all_none _)))

in_pairs : (a b x y : Bool) → (((a and b) and x) and y) ≡ ((a and x) and (b and y))
unfolding ◌and◌
in_pairs true true x y = refl
in_pairs true false true y = refl
in_pairs true false false y = refl
in_pairs false b x y = refl

join_more : (board : List ℕ) (from middle j all : ℕ) → Joins board from middle j all → Joins board from middle (j + 1) (bit_or (bit_or all (get_or board (from + j) 0)) (get_or board (middle + j) 0))
unfolding have_bits
join_more board from middle j all e k =
    let x : ℕ = get_or board (from + j) 0 in
    let y : ℕ = get_or board (middle + j) 0 in
    let t : ℕ → Bool = λ i. ltb (get_or board (from + i) 0) (2 ^ k) in
    let u : ℕ → Bool = λ i. ltb (get_or board (middle + i) 0) (2 ^ k) in
    or-bits (bit_or all x) y k
    ∙ ap (λ (t : Bool). t and ltb y (2 ^ k)) (or-bits all x k ∙ ap (λ (t : Bool). t and ltb x (2 ^ k)) (e k))
    ∙ in_pairs (all_to j t) (all_to j u) (t j) (u j)
    ∙ (λ z. all_more t j (all_to j t) (all_to j t and t j) refl refl z and all_more u j (all_to j u) (all_to j u and u j) refl refl z)

join-all : (board : List ℕ) (from to half middle : ℕ) → from ≤ to → half ≡ (to - from + 1) / 2 → middle ≡ to - half
    → (k : ℕ) → (have_bits k board from half and have_bits k board middle half) ≡ have_bits k board from (to - from)
unfolding have_bits
join-all board from to half middle h eh em k =
    let t : ℕ → Bool = λ j. ltb (get_or board (from + j) 0) (2 ^ k) in
    let place : (j : ℕ) → middle + j ≡ from + (to - from - half + j) = λ j. omega (arith, eh, em, h) in
    ap (λ (u : ℕ → ℕ). all_to half t and all_to half (λ j. ltb (get_or board (u j) 0) (2 ^ k))) (λ z j. place j z)
    ∙ all-twice half (to - from) t (omega (arith, eh)) (omega (arith, eh))

step : (board : List ℕ) (from middle half x y : ℕ) {a b : List ℕ} (ra rb : List ℕ) (all : ℕ) → a ≡ x ∷ ra → b ≡ y ∷ rb → Passing board from middle half a b all → Passing board from middle half ra rb (bit_or (bit_or all x) y)
step board from middle half x y {a} {b} ra rb all ea eb p =
    let here : x ≡ get_or board (from + p.j) 0 = ap (λ (l : List ℕ). get_or l 0 0) (sym ea) ∙ p.first 0 (omega (arith, ap length ea)) ∙ ap (λ (i : ℕ). get_or board (from + i) 0) (omega arith) in
    let there : y ≡ get_or board (middle + p.j) 0 = ap (λ (l : List ℕ). get_or l 0 0) (sym eb) ∙ p.second 0 (omega (arith, ap length ea)) ∙ ap (λ (i : ℕ). get_or board (middle + i) 0) (omega arith) in
    record {
      j = p.j + 1;
      left = omega (arith, p.left, ap length ea);
      as-many = omega (arith, p.as-many, ap length ea, ap length eb);
      first = λ i h. ap (λ (l : List ℕ). get_or l (suc i) 0) (sym ea) ∙ p.first (suc i) (omega (arith, h, ap length ea)) ∙ ap (λ (n : ℕ). get_or board (from + n) 0) (omega arith);
      second = λ i h. ap (λ (l : List ℕ). get_or l (suc i) 0) (sym eb) ∙ p.second (suc i) (omega (arith, h, ap length ea)) ∙ ap (λ (n : ℕ). get_or board (middle + n) 0) (omega arith);
      joins = rw (here, there) (join_more board from middle p.j all p.joins);
    }

begin : (board : List ℕ) (from middle half n : ℕ) {x y : List ℕ} → from + half ≤ length board → middle + half ≤ length board → n ≡ half → x ≡ take half (drop from board) → y ≡ take n (drop middle board) → Passing board from middle half x y 0
begin board from middle half n h m en ex ey = record {
  j = 0;
  left = rw ex (search (rules, places));
  as-many = rw (ex, ey, en) (search (rules, places));
  first = λ i l. rw ex (at from h i (omega (arith, l, ap length ex, length-take-le half (drop from board) (omega (arith, h, length-drop from board)))));
  second = λ i l. rw (ey, en) (at middle m i (omega (arith, l, ap length ex, length-take-le half (drop from board) (omega (arith, h, length-drop from board)))));
  joins = join-none board from middle;
}
  where
    at : (p : ℕ) → p + half ≤ length board → (i : ℕ) → i < half → get_or (take half (drop p board)) i 0 ≡ get_or board (p + (0 + i)) 0
    at p f i l = search (rules, places)

pub loop-x-init : goal.loop-x-init
loop-x-init c =
    let s = c.args in
    let half = (s.to - s.from + 1) / 2 in
    begin s.board.now s.from (s.to - half) half (s.to - (s.to - half)) (omega arith) (omega arith) (omega arith) (search rules) (search rules)

pub loop-x-preserved : goal.loop-x-preserved
loop-x-preserved c =
    let s = c.args in
    let half = (s.to - s.from + 1) / 2 in
    let e = c.in-Some.ensures.steps in
    step s.board.now s.from (s.to - half) half _ _ _ _ c.loop-x.all e.0 e.1 c.loop-x.invariant

by_end : {A B C : Type 0} → A ⊎ B → (A → C) → (B → C) → C
by_end (inl a) f g = f a
by_end (inr b) f g = g b

pub returns : goal.returns
returns c =
    let s = c.args in
    let half : ℕ = (s.to - s.from + 1) / 2 in
    let middle : ℕ = s.to - half in
    let p = c.loop-x.invariant in
    let none : length c.loop-x.x-iterator.a.rest.now ≡ 0 = by_end c.in-None.ensures.steps (λ x. x.1.0) (λ x. omega (arith, x.1.0, p.as-many)) in
    let whole : p.j ≡ half = omega (arith, p.left, none) in
    λ k. p.joins k
    ∙ ap (λ (j : ℕ). have_bits k s.board.now s.from j and have_bits k s.board.now middle j) whole
    ∙ join-all s.board.now s.from s.to half middle c.requires.0 refl refl k
