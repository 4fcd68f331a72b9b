-- Steps 1 and 2 of a month are the same to the first rights, and so are their turns. Assumes nothing.
use mathlib.Core.Path.{◌≡◌, refl, sym, ap, ◌∙◌}
use mathlib.Core.Bool.{Bool, true, false, cond}
use mathlib.Core.List.{List, [], map}
use Prim.Native.Nat.{ℕ}
use native.Mathlib.Omega.{arith}
use lib.Dec.{eqb}
use lib.ListN.{length, get_or, take, replicate}
use Rattle.general.proofs.Lists.{get_d-zeros}
use Rattle.rules.specs.Basin.{Basin}
use Rattle.rules.specs.Month.{Carried, gathered, opening_levels, opening, turns, month}
use Rattle.rules.specs.Elders.{SameRiver, without_taken, turn_without_taken, AlikeFrom, CarriedAlike, FirstTurnsOfMonth}
use Rattle.rules.proofs.ElderTurns.{first-turns}

-- a basin without its rights, and what is carried without what has a place for each right
unfoldable bare : Basin → Basin
bare b = record { stations = b.stations; reservoirs = b.reservoirs; patterns = b.patterns; rights = [] }

unfoldable idle : Carried → Carried
idle c = record { m = c.m; storages = c.storages; marks = c.marks; taken = []; shorts = [] }

-- steps 1 and 2 read neither, but for the places of water taken
bare-opening : (b : Basin) (c : Carried) (runoff arriving : List ℕ) → without_taken (opening b c runoff arriving) ≡ without_taken (opening (bare b) (idle c) runoff arriving)
unfolding without_taken opening opening_levels gathered bare idle
bare-opening b c runoff arriving = refl

-- water taken: cleared or carried, place by place
taken-same : (t : Bool) (n p j : ℕ) (x y : List ℕ) → get_or x j 0 ≡ get_or y j 0 → get_or (cond t (replicate n 0) x) j 0 ≡ get_or (cond t (replicate p 0) y) j 0
taken-same true n p j x y e = get_d-zeros n j ∙ sym (get_d-zeros p j)
taken-same false n p j x y e = e

module _ (a b : Basin) (e : SameRiver a b) (k : ℕ) (c d : Carried) (w : CarriedAlike k c d) (runoff arriving : List ℕ) where
  bare-same : bare a ≡ bare b
  unfolding bare
  bare-same = λ z. record { stations = e.stations z; reservoirs = e.reservoirs z; patterns = e.patterns z; rights = [] }

  idle-same : idle c ≡ idle d
  unfolding idle
  idle-same = λ z. record { m = w.m z; storages = w.storages z; marks = w.marks z; taken = []; shorts = [] }

  opening-alike : AlikeFrom 0 k (opening a c runoff arriving) (opening b d runoff arriving)
  unfolding opening
  opening-alike = record {
    same = bare-opening a c runoff arriving ∙ (λ z. without_taken (opening (bare-same z) (idle-same z) runoff arriving)) ∙ sym (bare-opening b d runoff arriving);
    own = λ j l u.
        taken-same (eqb c.m 0) (length a.rights) (length b.rights) j c.taken d.taken (w.own j (omega arith))
        ∙ ap (λ (m : ℕ). get_or (cond (eqb m 0) (replicate (length b.rights) 0) d.taken) j 0) w.m;
  }

pub first-of-month : FirstTurnsOfMonth
unfolding month
first-of-month a b e k r c d w runoff arriving =
    first-turns a b e c.m 0 k a.rights b.rights r (opening a c runoff arriving) (opening b d runoff arriving) (opening-alike a b e k c d w runoff arriving)
    ∙ ap (λ (m : ℕ). take k (map turn_without_taken (turns b m 0 b.rights (opening b d runoff arriving)))) w.m
