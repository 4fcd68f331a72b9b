-- Younger rights can't touch this month's elder ones: the theorems of specs/Elders.antt. Assumes nothing.
use Rattle.std.specs.Prelude.{Ok}
use mathlib.Core.Path.{◌≡◌, sym, ap, ◌∙◌}
use mathlib.Core.Bool.{true}
use mathlib.Core.List.{List}
use Prim.Native.Nat.{ℕ, ◌≤◌}
use native.Mathlib.Omega.{arith}
use lib.ListN.{length, take}
use Rattle.rules.specs.Basin.{Station, Basin, rows}
use Rattle.rules.specs.Elders.{SameRiver}
use Rattle.rules.specs.Month.{grant_at, reason_number}
use Rattle.rules.specs.Turn.{Grant}
use Rattle.sections.specs.File.{section_of}
use Rattle.records.specs.Records.{right_count, stations_of, reservoirs_of, patterns_of, bodies, basin_of}
use Rattle.records.proofs.Decoded.{rights-are}
use Rattle.filecheck.specs.Check.{check_of}
use Rattle.filecheck.proofs.Accepted.{accepted-facts}
use Rattle.boards.specs.Board.{possible}
use Rattle.month.specs.Month.{run_of}
use Rattle.elders.specs.Elders.{SameElders, AcceptedCall, EldersSafe, NewPermits, OneFreshBoard, GoodLent, AcceptedLent}
use Rattle.elders.proofs.Records.{points-most, first-rights}
use Rattle.elders.proofs.Starts.{fresh-same}
use Rattle.elders.proofs.Permits.{possible-with, accepted-with}
use Rattle.elders.proofs.Calls.{first-grants, all-clear, Told, told}

pub accepted_lent : AcceptedLent
accepted_lent f runoff board report o c = let k = all-clear f runoff board report o c in record { file_accepted = k.file-ok; board_possible = k.board-ok }

-- ---- the basins of two files with the same elders

all_there : (f : List ℕ) → length (basin_of f).rights ≡ right_count (section_of f 3)
unfolding basin_of bodies
all_there f = rights-are (section_of f 3)

module _ (f g : List ℕ) (k : ℕ) (e : SameElders f g k) where
  river-same : SameRiver (basin_of f) (basin_of g)
  unfolding basin_of bodies
  river-same = record { stations = ap stations_of e.stations; reservoirs = ap reservoirs_of e.reservoirs; patterns = ap patterns_of e.patterns }

  first_has : k ≤ length (basin_of f).rights
  first_has = rw (all_there f) e.first_has

  second_has : k ≤ length (basin_of g).rights
  second_has = rw (all_there g) e.second_has

  elders-same : check_of f ≡ Ok tt → take k (basin_of f).rights ≡ take k (basin_of g).rights
  unfolding basin_of bodies
  elders-same ok = first-rights (section_of f 3) (section_of g 3) k e.rights e.first_has e.second_has (points-most f (accepted-facts f ok))

pub one_fresh_board : OneFreshBoard
one_fresh_board f g k e = fresh-same (basin_of f) (basin_of g) (river-same f g k e)

pub elders_safe : EldersSafe
elders_safe f g k e runoff board lent lent' o p c d i l =
    let a : Basin = basin_of f in
    let b : Basin = basin_of g in
    let rights : take k a.rights ≡ take k b.rights = elders-same f g k e (accepted_lent f runoff board lent o c).file_accepted in
    let grant : grant_at (run_of a runoff board).turns i ≡ grant_at (run_of b runoff board).turns i = first-grants a b (river-same f g k e) runoff board k rights (first_has f g k e) (second_has f g k e) i l in
    let here : Told f runoff board lent o c i = told f runoff board lent o c i (omega (arith, first_has f g k e)) in
    let there : Told g runoff board lent' p d i = told g runoff board lent' p d i (omega (arith, second_has f g k e)) in
    record {
      from-river = here.from-river ∙ ap (λ (x : Grant). x.from_river) grant ∙ sym there.from-river;
      from-storage = here.from-storage ∙ ap (λ (x : Grant). x.from_storage) grant ∙ sym there.from-storage;
      reason = here.reason ∙ ap (λ (x : Grant). reason_number x.reason) grant ∙ sym there.reason;
      station = here.station ∙ ap (λ (x : Grant). x.station) grant ∙ sym there.station;
    }

-- ---- with new permits

-- where all rights of f are among the first k, a board that is possible for it is possible for g
possible-more : (f g : List ℕ) (k : ℕ) → SameElders f g k → length (basin_of f).rights ≡ k → (board : List ℕ) → GoodLent f board → possible (basin_of g) board ≡ true
possible-more f g k e all board there = possible-with (basin_of f) (basin_of g) (river-same f g k e) (omega (arith, all, second_has f g k e))
    (rw all (elders-same f g k e there.file_accepted)) board there.board_possible

pub new_permits : NewPermits
new_permits f g e ok runoff board lent lent' o p c room m =
    let can : possible (basin_of g) board ≡ true = possible-more f g _ e (all_there f) board (accepted_lent f runoff board lent o c) in
    let same_rows : rows (basin_of f) ≡ rows (basin_of g) = ap (λ (st : List Station). length st) (river-same f g _ e).stations in
    let d : AcceptedCall g runoff board lent' p = accepted-with f g runoff board lent lent' o p c same_rows ok can room m in
    record { accepted = d; lines = elders_safe f g _ e runoff board lent lent' o p c d }
