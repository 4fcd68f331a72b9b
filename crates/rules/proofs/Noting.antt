-- Of each right twelve months are noted. Assumes nothing.
use mathlib.Core.Path.{◌≡◌, ap, ◌∙◌}
use mathlib.Core.Bool.{Bool, true, false, cond}
use mathlib.Core.List.{List, []}
use Prim.Native.Nat.{ℕ, ◌<◌}
use lib.Dec.{eqb}
use lib.ListN.{length, get_or, replicate, length-set, length-replicate, get_or-replicate}
use Rattle.general.proofs.Tables.{tab-length, tab-at}
use Rattle.rules.specs.Basin.{Basin}
use Rattle.rules.specs.Turn.{Turn}
use Rattle.rules.specs.Month.{Carried, nobody_short, opening_shorts, noted, month}

-- twelve months of each right
pub record Noted (b : Basin) (shorts : List (List Bool)) : Type 0 where
  pub count : length shorts ≡ length b.rights
  pub months : (i : ℕ) → i < length b.rights → length (get_or shorts i []) ≡ 12

pub none-noted : (b : Basin) → Noted b (nobody_short b)
none-noted b = record {
  count = length-replicate (length b.rights) (replicate 12 false);
  months = λ i h. ap length (get_or-replicate (length b.rights) i (replicate 12 false) [] h) ∙ length-replicate 12 false;
}

opening-noted : (b : Basin) (c : Carried) → Noted b c.shorts → Noted b (opening_shorts b c)
unfolding opening_shorts
opening-noted b c n = go (eqb c.m 0)
  where
    go : (t : Bool) → Noted b (cond t (nobody_short b) c.shorts)
    go true = none-noted b
    go false = n

noted-on : (b : Basin) (m : ℕ) (ts : List Turn) (shorts : List (List Bool)) → Noted b shorts → Noted b (noted b m ts shorts)
unfolding noted
noted-on b m ts shorts n = record {
  count = tab-length _ (length b.rights);
  months = λ i h. ap length (tab-at _ (length b.rights) i [] h) ∙ length-set (get_or shorts i []) m _ ∙ n.months i h;
}

pub month-noted : (b : Basin) (c : Carried) (runoff arrived : List ℕ) → Noted b c.shorts → Noted b (month b c runoff arrived).carried.shorts
unfolding month
month-noted b c runoff arrived n = noted-on b c.m _ (opening_shorts b c) (opening-noted b c n)
