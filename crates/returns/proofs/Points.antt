-- One return point after another. Assumes nothing.
use mathlib.Core.List.{List, [], ◌∷◌, ◌++◌}
use mathlib.Core.Path.{◌≡◌, refl, sym, ap, ◌∙◌, subst}
use Prim.Native.Nat.{ℕ, zero, suc, ◌+◌, ◌-◌, ◌*◌, ◌/◌, ◌≤◌, ◌<◌}
use native.Mathlib.Nat.{mul-le-mul}
use native.Mathlib.Numerals.{add-one}
use native.Mathlib.Omega.{arith}
use native.Mathlib.Decide.{dec_lt}
use lib.Dec.{eqb}
use lib.ListN.{get_or}
use Rattle.general.specs.Sums.{sum_over, sum, sum_to, only}
use Rattle.general.specs.Tables.{tab}
use Rattle.general.specs.Tests.{has}
use Rattle.general.proofs.Loops.{total-more}
use Rattle.general.proofs.Sums.{sum-append, sum_to-rises}
use Rattle.general.proofs.Tests.{by_eqb, only-le}
use Rattle.places.specs.Board.{dues_of, due_place, due_at, roomy}
use Rattle.rules.specs.River.{Level, along, returned}
use Rattle.rules.specs.Returns.{shares, deep_loss, Part, lagged, returned_at, lost_deep}
use Rattle.rules.proofs.Splits.{deep-le}
use Rattle.records.specs.Records.{return_row, return_percent}
use Rattle.records.specs.Table.{path_by, Downhill}
use Rattle.river.specs.Arrays.{levels_of, CanReturn, Walked, RiverOk}
use Rattle.river.proofs.Table.{by_in}
use Rattle.river.proofs.Levels.{change-idle, returned-read, returned-zero}
use Rattle.rules.specs.Accepted.{most_amount}
use Rattle.returns.specs.declared.returning.Return.{Return}
use Rattle.returns.specs.declared.split.SplitPart.{SplitPart}
use Rattle.returns.specs.Dues.{SplitUp}
use Rattle.returns.specs.Returning.{points_up_to, part_in, parts_in, return_by, CanGive, Gave}
use Rattle.returns.proofs.Shares.{lagged-le, share-le, split-nothing}

-- ---- lists of parts, one more

parts_more : (ri : List ℕ) (i rest n : ℕ) → parts_in ri i rest (n + 1) ≡ parts_in ri i rest n ++ (part_in ri i rest n ∷ [])
unfolding parts_in tab
parts_more ri i rest n = rw (add-one n)

return-more : (t pattern : List ℕ) (qs : List Part) (q : Part) (l : List Level) → return_by t pattern (qs ++ (q ∷ [])) l ≡ along (returned (lagged pattern 0 q)) (path_by t q.row) (return_by t pattern qs l)
unfolding return_by
return-more t pattern [] q l = refl
return-more t pattern (x ∷ qs) q l = return-more t pattern qs q _

returned-more : (pattern : List ℕ) (w s : ℕ) (qs : List Part) (q : Part) → returned_at pattern w s (qs ++ (q ∷ [])) ≡ returned_at pattern w s qs + only (eqb q.row w) (lagged pattern s q)
unfolding returned_at
returned-more pattern w s qs q = sum-append (λ (x : Part). only (eqb x.row w) (lagged pattern s x)) qs q

lost-more : (pattern : List ℕ) (qs : List Part) (q : Part) → lost_deep pattern (qs ++ (q ∷ [])) ≡ lost_deep pattern qs + deep_loss q.amount pattern
unfolding lost_deep
lost-more pattern qs q = sum-append (λ (x : Part). deep_loss x.amount pattern) qs q

-- ---- sums of percents

-- the sum with the percent of one more point, and what of the rest it takes
module _ {pa : List (List ℕ)} {ri : List ℕ} {back : Return} {f a bd : List ℕ} (o : CanGive pa ri back f a bd)
    (k c p : ℕ) (on : k < back.points) (ec : c ≡ points_up_to ri back.right k) (ep : p ≡ return_percent ri back.right k) where
  pub percents_in : c + p ≤ 100
  percents_in = omega (arith, ep, o.points-ok.percents, total-more (return_percent ri back.right) k c ec, sum_to-rises (return_percent ri back.right) (k + 1) back.points (omega arith))

  pub next_small : back.amount * (c + p) ≤ most_amount * 100
  next_small = mul-le-mul o.small percents_in

-- ---- the amount at a point

pub amount-is : (ri : List ℕ) (i rest k c p : ℕ) → c ≡ points_up_to ri i k → p ≡ return_percent ri i k → rest * (c + p) / 100 - rest * c / 100 ≡ (part_in ri i rest k).amount
unfolding part_in sum_to
amount-is ri i rest k c p e f = rw (e, f)

pub part-is : (ri : List ℕ) (i rest k row amount : ℕ) → row ≡ return_row ri i k → amount ≡ (part_in ri i rest k).amount → record { row = row; amount = amount } ≡ part_in ri i rest k
unfolding part_in
part-is ri i rest k row amount e f = λ z. record { row = e z; amount = f z }

lagged-is : (pattern : List ℕ) (s : ℕ) (q : Part) → get_or (shares q.amount pattern) s 0 ≡ lagged pattern s q
unfolding lagged
lagged-is pattern s q = refl

-- ---- what one put back does to each row

module _ (t : List ℕ) (down : Downhill t) (f a : List ℕ) (d row : ℕ) (o : RiverOk f a (roomy + roomy)) (h : row < 64) (m : d ≤ roomy) where
  pub can-return : CanReturn t row d f a
  can-return = record {
    on = h;
    flows = record { fits = λ k e. omega (arith, o.room k (by_in t down row h k e)) };
    availables = record { fits = λ k e. omega (arith, o.room k (by_in t down row h k e), o.within k (by_in t down row h k e)) };
  }

module _ (f a : List ℕ) (p : List ℕ) (d : ℕ) where
  pub put_nothing : d ≡ 0 → Walked (returned d) p f a f a
  put_nothing e = record { levels = λ n. rw e (change-idle n (returned 0) p f a returned-zero) }

  module _ (f' a' : List ℕ) (e : Walked (returned d) p f a f' a') where
    pub put-grown : (w : ℕ) → w < 64 → get_or f' w 0 ≤ get_or f w 0 + d
    put-grown w h = omega (arith, (returned-read 64 d p f a f' a' (e.levels 64) w h).0, only-le (has w p) d)

    pub put-within : (w : ℕ) → w < 64 → get_or a w 0 ≤ get_or f w 0 → get_or a' w 0 ≤ get_or f' w 0
    put-within w h l = omega (arith, returned-read 64 d p f a f' a' (e.levels 64) w h)

-- ---- the loop

module _ (t pattern ri : List ℕ) (i rest : ℕ) (f a bd : List ℕ) where
  pub gave-none : ((w : ℕ) → w < 64 → get_or a w 0 ≤ get_or f w 0) → Gave t pattern ri i 0 rest f a bd f a bd 0
  unfolding parts_in tab return_by returned_at lost_deep sum_over
  gave-none h = record {
    levels = λ h. refl;
    dues = λ w k l. omega arith;
    lost = refl;
    same = λ j l. refl;
    grown = λ w l. omega arith;
    within = h;
    filled = λ j. omega arith;
    lost_most = omega arith;
  }

  -- the river and the board as the points so far have left them
  module _ (k : ℕ) (f₁ a₁ bd₁ : List ℕ) (deep : ℕ) (w : Gave t pattern ri i k rest f a bd f₁ a₁ bd₁ deep) (few : k ≤ 4) where
    pub river-after : RiverOk f a roomy → RiverOk f₁ a₁ (roomy + roomy)
    river-after o = record {
      room = λ x l. omega (arith, w.grown x l, o.room x l);
      within = w.within;
    }

    module _ (q : Part) (x : SplitPart) (f₂ a₂ bd₂ : List ℕ) (part : q ≡ part_in ri i rest k) (most : sum pattern ≤ 100) (row_in : q.row < 64) (small : q.amount ≤ most_amount)
        (split : SplitUp pattern q.amount (dues_of q.row) bd₁ bd₂ x) (back : Walked (returned x.at_once) (path_by t q.row) f₁ a₁ f₂ a₂) where
      once-le : x.at_once ≤ most_amount
      once-le = omega (arith, split.at_once, share-le q.amount pattern 0 most, small)

      parts_are : parts_in ri i rest k ++ (q ∷ []) ≡ parts_in ri i rest (k + 1)
      parts_are = ap (λ (y : Part). parts_in ri i rest k ++ (y ∷ [])) part ∙ sym (parts_more ri i rest k)

      levels-more : (h : ℕ) → levels_of h f₂ a₂ ≡ return_by t pattern (parts_in ri i rest (k + 1)) (levels_of h f a)
      levels-more h =
          back.levels h
          ∙ ap (λ (y : ℕ). along (returned y) (path_by t q.row) (levels_of h f₁ a₁)) (split.at_once ∙ lagged-is pattern 0 q)
          ∙ ap (λ (l : List Level). along (returned (lagged pattern 0 q)) (path_by t q.row) l) (w.levels h)
          ∙ sym (return-more t pattern (parts_in ri i rest k) q (levels_of h f a))
          ∙ ap (λ (qs : List Part). return_by t pattern qs (levels_of h f a)) parts_are

      -- the dues of the point's row grow, the others stay
      due-grown : (v s : ℕ) → s < 11 → due_at bd₂ v (suc s) ≡ due_at bd₁ v (suc s) + only (eqb q.row v) (lagged pattern (suc s) q)
      due-grown v s l = by_eqb q.row v (λ b. due_at bd₂ v (suc s) ≡ due_at bd₁ v (suc s) + only b (lagged pattern (suc s) q))
          (λ e. rw (← e) (split.later.each s l ∙ ap (λ (y : ℕ). get_or bd₁ (due_place q.row s) 0 + y) (lagged-is pattern (suc s) q)))
          (λ e. aside e (dec_lt v q.row))
        where
          aside : (q.row ≡ v → ⊥) → Dec (v < q.row) → due_at bd₂ v (suc s) ≡ due_at bd₁ v (suc s) + 0
          aside e (yes h) = omega (arith, split.later.under (due_place v s) (omega arith))
          aside e (no h) = omega (arith, split.later.over (due_place v s) (omega arith))

      pub gave-more : Gave t pattern ri i (k + 1) rest f a bd f₂ a₂ bd₂ (deep + x.deep)
      gave-more = record {
        levels = levels-more;
        dues = λ v s l. omega (
          arith,
          due-grown v s l,
          w.dues v s l,
          returned-more pattern v (suc s) (parts_in ri i rest k) q,
          ap (λ (qs : List Part). returned_at pattern v (suc s) qs) parts_are,
        );
        lost = omega (
          arith,
          split.deep,
          w.lost,
          lost-more pattern (parts_in ri i rest k) q,
          ap (λ (qs : List Part). lost_deep pattern qs) parts_are,
        );
        same = λ j l. split.later.under j (omega arith) ∙ w.same j l;
        grown = λ v l. omega (arith, put-grown f₁ a₁ (path_by t q.row) x.at_once f₂ a₂ back v l, w.grown v l, once-le);
        within = λ v l. put-within f₁ a₁ (path_by t q.row) x.at_once f₂ a₂ back v l (w.within v l);
        filled = λ j. omega (arith, lagged-le pattern q.amount (dues_of q.row) bd₁ 11 bd₂ most split.later j, w.filled j, small);
        lost_most = omega (arith, split.deep, deep-le q.amount pattern, w.lost_most, small);
      }

-- ---- where nothing returns

module _ (t pattern ri : List ℕ) (i rest : ℕ) (f a bd : List ℕ) (e : rest ≡ 0) (most : sum pattern ≤ 100) (within : (w : ℕ) → w < 64 → get_or a w 0 ≤ get_or f w 0) where
  nothing-at : (k : ℕ) → (part_in ri i rest k).amount ≡ 0
  unfolding part_in
  nothing-at k = rw e (omega arith)

  pub gave-nothing : (n : ℕ) → n ≤ 4 → ((k : ℕ) → k < n → return_row ri i k < 64) → Gave t pattern ri i n rest f a bd f a bd 0
  unfolding part_in
  gave-nothing zero few rows = gave-none t pattern ri i rest f a bd within
  gave-nothing (suc n) few rows =
      let q : Part = part_in ri i rest n in
      let z : q.amount ≡ 0 = nothing-at n in
      let none : SplitPart = record { at_once = 0; deep = 0 } in
      subst (λ (k : ℕ). Gave t pattern ri i k rest f a bd f a bd 0) (add-one n)
      (gave-more t pattern ri i rest f a bd n f a bd 0 (gave-nothing n (omega arith) (λ k h. rows k (omega arith))) (omega arith) q none f a bd refl most (rows n (omega arith)) (omega arith)
      (split-nothing pattern q.amount (dues_of q.row) bd none most z refl refl) (put_nothing f a (path_by t q.row) 0 refl))
