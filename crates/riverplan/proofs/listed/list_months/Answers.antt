-- A board that stock accepts can be listed from.
use Rattle.std.proofs.Common.{rules, arith, refl, length-take-le}
use Rattle.lines.specs.Texts.{room_of}
use Rattle.riverplan.proofs.Judged.{can-list, long-as-lent}
use Rattle.riverplan.proofs.listed.list_months.Goals as goal

pub list_block-requires : goal.list_block-requires
unfolding room_of
list_block-requires c =
    can-list _ _ c.in-Some.ensures.cases.same _ c.in-Ok.ensures c.args.sheets.now (omega (arith, c.well_formed)) (omega (arith, c.from.ensures)) refl (search rules) (omega (arith, c.if-out-lt-MOST_TEXT.false))

pub returns-in-Some : goal.returns-in-Some
returns-in-Some c =
    let l = c.list_block.new.self in
    omega (arith, length-take-le l.written l.list.now l.within, l.within, long-as-lent c.list_block.ensures.0.kept)
