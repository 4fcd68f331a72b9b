use Rattle.opening.specs.Opening.{inflow}
use Rattle.places.specs.Board.{due_place}
use mathlib.Core.List.{List}
use Prim.Native.Nat.{ℕ, ◌+◌}
use mathlib.Core.Path.{subst, ◌≡◌}
use native.Mathlib.Omega.{arith}
use lib.ListN.{get_or}
use Rattle.opening.proofs.Openings.{Gathering, gathering-none, gathering-more, gathered-all, can-send}
use Rattle.opening.proofs.flows.gather.Goals as goal

-- what enters at a row, as it was read
entered : (runoff bd : List ℕ) (row : ℕ) {x p : ℕ} → x ≡ get_or runoff row 0 → p ≡ due_place row 0 → x + get_or bd p 0 ≡ inflow runoff bd row
entered runoff bd row ex ep = λ z. ex z + get_or bd (ep z) 0

pub loop-row-init : goal.loop-row-init
loop-row-init c =
    let s = c.args in
    gathering-none s.below.now.rows s.runoff.now s.board.now s.river.now.flow s.river.now.available c.requires

pub send_down-requires : goal.send_down-requires
send_down-requires c =
    let s = c.args in
    let l = c.loop-row in
    can-send s.below.now.rows s.runoff.now s.board.now s.river.now.flow s.river.now.available c.requires s.below.now.downhill l.row (omega (arith, c.requires.sheet)) l.river.flow l.river.available l.invariant _ (entered s.runoff.now s.board.now l.row c.from.ensures c.due_place.ensures)

pub loop-row-preserved : goal.loop-row-preserved
loop-row-preserved c =
    let s = c.args in
    let l = c.loop-row in
    gathering-more s.below.now.rows s.runoff.now s.board.now s.river.now.flow s.river.now.available c.requires s.below.now.downhill l.row (omega (arith, c.requires.sheet)) l.river.flow l.river.available l.invariant _ (entered s.runoff.now s.board.now l.row c.from.ensures c.due_place.ensures) _ _ c.send_down.ensures

pub returns : goal.returns
returns c =
    let s = c.args in
    let l = c.loop-row in
    gathered-all s.below.now.rows s.runoff.now s.board.now s.river.now.flow s.river.now.available c.requires l.river.flow l.river.available
    (subst (λ (k : ℕ). Gathering s.below.now.rows s.runoff.now s.board.now k l.river.flow l.river.available) (omega arith) l.invariant)
