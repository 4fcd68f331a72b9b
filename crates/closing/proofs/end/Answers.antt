-- `closing::end` meets its contract. Assumes nothing.
use mathlib.Core.Path.{◌≡◌, sym, ap, ◌∙◌}
use Prim.Native.Nat.{◌+◌, ◌-◌, ◌≤◌}
use native.Mathlib.Omega.{arith}
use lib.ListN.{length, set}
use borrow.Rule.Slice.PartMut.{put_mid}
use Rattle.std.proofs.Common.{rules}
use Rattle.places.specs.Report.{rows_end, deep_place}
use Rattle.places.specs.Board.{month_place}
use Rattle.records.specs.Records.{reservoir_count}
use Rattle.closing.proofs.Told.{lost-told}
use Rattle.closing.proofs.end.Goals as goal

pub returns : goal.returns
returns c =
    let s = c.args in
    let e = c.shape-shape.ensures in
    let shape = c.shape-shape.result in
    let rs = s.bodies.now.reservoirs.now in
    let told = c.put_rows.new.report in
    let losses = c.evaporate.new.losses in
    let at = rows_end shape.rights shape.rows in
    let k : c.deep_place.result - c.rows_end.result ≡ reservoir_count rs = omega (arith, e.2) in
    let fits : at + reservoir_count rs ≤ length told = omega (arith, c.requires.places, c.put_rows.ensures.size, e.0, e.1) in
    rw (sym e.0, sym e.1) (record {
      counted = c.note_shorts-shorts.ensures.0;
      noted = c.note_shorts-shorts.new.board;
      words_noted = c.note_shorts-shorts.ensures.1;
      told = told;
      rows_told = c.put_rows.ensures;
      lowered = c.evaporate.new.board;
      losses_told = put_mid at (reservoir_count rs) told losses;
      lost = lost-told rs _ (reservoir_count rs) _ _ told _ losses at (search rules) fits c.evaporate.ensures;
      deep_told = λ z. set (put_mid (c.rows_end.ensures z) (k z) told losses) ((c.deep_place-2.ensures ∙ ap (deep_place shape.rights shape.rows) e.2) z) s.deep;
      gone_on = ap (set c.evaporate.new.board month_place) c.next_month.ensures;
    })
