-- `grants::stages::draw` meets its contract. Assumes nothing.
use mathlib.Core.Path.{refl, ap, ◌∙◌}
use Prim.Native.Nat.{min}
use Rattle.places.specs.Board.{storage_place}
use Rattle.places.proofs.BoardPlaces.{place_read}
use Rattle.grants.proofs.RightKinds.{drawn_nothing}
use Rattle.grants.proofs.stages.draw.Goals as goal

pub returns-then-x-eq0 : goal.returns-then-x-eq0
returns-then-x-eq0 c =
    let s = c.args.setting.now in
    let r = c.args.right in
    let bd = c.args.board.now in (
      drawn_nothing r.kind s.below.now.rows s.bodies.now.reservoirs.now r.reservoir r.row c.args.lacking c.args.river.now.flow bd c.in-Project.is c.min-x.result
          (c.min-x.ensures ∙ ap (min c.args.lacking) (place_read bd (c.storage_place-storage.ensures ∙ ap storage_place c.from-v.ensures))) c.if-x-eq0.true,
      refl,
    )
