-- The end of a turn, at what the code has in hand. Assumes nothing.
use mathlib.Core.Bool.{Bool, true}
use mathlib.Core.List.{List, []}
use mathlib.Core.Path.{◌≡◌, sym, ap, subst}
use Prim.Native.Nat.{ℕ, ◌≤◌, ◌<◌}
use native.Mathlib.Omega.{arith}
use lib.ListN.{get_or, set}
use Rattle.general.proofs.Tests.{ltb_yes, ltb_no}
use Rattle.records.specs.declared.rights.RightRecord.{RightRecord}
use Rattle.grants.specs.declared.grants.Reason.TheVariants.{Met}
use Rattle.returns.specs.Dues.{Sums}
use Rattle.returns.specs.Returning.{Gave, GaveBy}
use Rattle.turns.specs.declared.serve.Share.{Share}
use Rattle.turns.specs.Finish.{rest_of, given, CanFinish, Finished}

module _ {t : List ℕ} {pa : List (List ℕ)} {ri : List ℕ} {i : ℕ} {r : RightRecord} {x : Share} {f a bd : List ℕ} (o : CanFinish pa ri i r x f a bd) where
  -- the fields of the record as the code read them
  module _ {points which e : ℕ} (ep : points ≡ r.points) (ew : which ≡ r.pattern) (ee : e ≡ r.efficiency) where
    module _ {f' a' bd' : List ℕ} {deep : ℕ} (g : GaveBy t (get_or pa which []) ri (record { right = i; points = points; pattern = which; amount = rest_of (given x) e }) f a bd f' a' bd' deep) where
      gave : (pattern : List ℕ) → (0 < r.points → Sums pattern (get_or pa r.pattern [])) → Gave t pattern ri i r.points (rest_of (given x) r.efficiency) f a bd f' a' bd' deep
      gave pattern o = subst (λ (y : ℕ). Gave t pattern ri i r.points (rest_of (given x) y) f a bd f' a' bd' deep) ee
          (subst (λ (y : ℕ). Gave t pattern ri i y (rest_of (given x) e) f a bd f' a' bd' deep) ep
          (g pattern (λ h. subst (λ (y : ℕ). Sums pattern (get_or pa y [])) (sym ew) (o (omega (arith, h, ep))))))

      pub finished-short : {sh : List Bool} {row : ℕ} → row ≡ r.row → given x < x.demand
          → Finished t pa ri i r x f a sh bd f' a' (set sh row true) bd' (record { from_river = x.from_river; from_storage = x.from_storage; reason = x.reason; deep = deep })
      finished-short {sh} er h = record {
        gave = gave;
        marked = rw (ltb_yes (given x) x.demand h) (ap (λ (y : ℕ). set sh y true) er);
        grant = rw (ltb_yes (given x) x.demand h);
      }

      pub finished-met : {sh : List Bool} → x.demand ≤ given x
          → Finished t pa ri i r x f a sh bd f' a' sh bd' (record { from_river = x.from_river; from_storage = x.from_storage; reason = Met; deep = deep })
      finished-met h = record { gave = gave; marked = rw (ltb_no (given x) x.demand h); grant = rw (ltb_no (given x) x.demand h) }
