-- `lister::Listing::list_sheet` meets its contract. Assumes nothing.
use mathlib.Core.Path.{refl}
use lib.ListN.{length}
use Rattle.answers.proofs.Numbered.{numbered}
use native.Mathlib.Omega.{arith}
use Rattle.lines.specs.Texts.{bytes_of, room_of}
use Rattle.lines.specs.Putting.{most_text}
use Rattle.lines.proofs.Texts.{list_kept}
use Rattle.lines.proofs.Digits.{put-in}
use Rattle.lister.specs.Lister.{text_of}
use Rattle.lister.proofs.Lent.{may-go, sheet-refused, may-list, sheet-listed}
use Rattle.lister.proofs.Listing.list_sheet.Goals as goal

pub run_sheet-requires : goal.run_sheet-requires
run_sheet-requires c =
    let s = c.args in
    may-go s.self.now c.requires.0 _ c.of-bodies.ensures s.sheet.now c.requires.1 (length s.runoff.now) c.requires.2 _ c.decode.ensures

pub month_in-self-requires : goal.month_in-self-requires
unfolding room_of
month_in-self-requires c =
    let s = c.args in (
      may-list s.self.now c.requires.0 _ c.of-bodies.ensures s.sheet.now c.requires.1 (length s.runoff.now) c.requires.2 _ c.decode.ensures _ _ _ c.in-Ok.ensures refl c.run_sheet.auto.report,
      omega (arith, c.requires.0.room),
    )

pub invariant_of-self : goal.invariant_of-self
unfolding room_of
invariant_of-self c = record { within = omega (arith, c.requires.0.room, c.month_in-self.ensures.within, c.month_in-self.auto.list) }

pub returns-in-Ok : goal.returns-in-Ok
returns-in-Ok c =
    let s = c.args in
    let r = c.run_sheet in
    let t = c.month_in-self in
    let w = t.ensures.lines c.of-bodies.result.patterns.now in
    let q = put-in (text_of s.self.now) _ _ most_text refl c.requires.0.room (omega (arith, t.ensures.within, w.ends)) w t.auto.list in
    sheet-listed s.self.now c.requires.0 _ c.of-bodies.ensures s.sheet.now c.requires.1 (length s.runoff.now) c.requires.2 _ c.decode.ensures _ _ _ c.in-Ok.ensures refl
    _ refl refl refl (record { file = refl; same_board = refl; same_report = refl; same_list = refl; report = r.auto.report; text = list_kept q }) q

pub refuse-requires : goal.refuse-requires
unfolding room_of
refuse-requires c = c.requires.0.room

pub returns-in-Err : goal.returns-in-Err
unfolding bytes_of room_of
returns-in-Err c =
    let s = c.args in
    let r = c.run_sheet in
    sheet-refused s.self.now c.requires.0 _ c.of-bodies.ensures s.sheet.now c.requires.1 (length s.runoff.now) c.requires.2 _ c.decode.ensures _ _ _ c.in-Err.ensures (numbered _)
    _ _ (rw c.from.ensures at c.refuse.ensures) refl refl refl refl (record { file = refl; same_board = refl; same_report = refl; same_list = refl; report = r.auto.report; text = refl })
