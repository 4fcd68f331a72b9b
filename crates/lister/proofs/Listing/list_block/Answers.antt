-- `lister::Listing::list_block` meets its contract. Assumes nothing.
use mathlib.Core.Path.{ap}
use native.Mathlib.Omega.{arith}
use lib.ListN.{length, length-drop}
use Rattle.general.proofs.Tests.{absurd-bool}
use Rattle.lister.proofs.Cutting.{sheets-all, part-rest, rest-listed}
use Rattle.lister.proofs.Listing.list_block.Goals.{else-last-via-then-last+then-self+then-rest-size+else-room-ge-MOST_TEXT, else-last-via-then-last+then-self+else-rest-size, else-last-via-then-last+else-self, else-last-via-else-last}
use Rattle.lister.proofs.Listing.list_block.Goals as goal

pub returns-then-room-ge-MOST_TEXT : goal.returns-then-room-ge-MOST_TEXT
returns-then-room-ge-MOST_TEXT c =
    let s = c.args in
    let l = c.list_sheets-used in
    let e = part-rest s.block.now l.result in
    rest-listed s.block.now s.self.now c.requires _ _ l.ensures s.last c.if-last.true c.if-self.true (λ h. omega (arith, h, c.if-rest-size.true, c.sheet_size-size.ensures, ap length e, length-drop l.result s.block.now)) _ e _ c.list_part.ensures

pub returns : goal.returns
returns c =
    let s = c.args in
    let l = c.list_sheets-used in
    let e = part-rest s.block.now l.result in
    sheets-all s.block.now s.self.now c.requires _ _ l.ensures s.last (λ last short room. elim c.else-last.branch [
      | else-last-via-then-last+then-self+then-rest-size+else-room-ge-MOST_TEXT w ↦ absurd (omega (arith, room, w.room.ensures, w.if-room-ge-MOST_TEXT.false))
      | else-last-via-then-last+then-self+else-rest-size w ↦ absurd (short (omega (arith, w.if-rest-size.false, c.sheet_size-size.ensures, ap length e, length-drop l.result s.block.now, l.ensures.listed.used)))
      | else-last-via-then-last+else-self w ↦ w.if-self.false
      | else-last-via-else-last w ↦ absurd-bool last w.if-last.false
    ])
