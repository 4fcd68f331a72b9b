-- A year that is refused, and one whose months are listed.
use Rattle.riveryear.proofs.Keeping.{year-ended, can-read, year-went}
use Rattle.riveryear.proofs.picked.list_year.Goals as goal

pub returns-in-None : goal.returns-in-None
returns-in-None g c =
    let m = c.room_for_month.ensures.made in
    year-ended c.requires m.kept m.months m.board c.open_year.ensures.opened

pub list_read-requires : goal.list_read-requires
list_read-requires g c =
    let m = c.room_for_month.ensures.made in
    can-read c.requires m.kept m.months m.board c.open_year.ensures.opened _ c.in-Some.ensures.sheets.1 c.in-Some.ensures.sheets.0

pub returns-in-Some : goal.returns-in-Some
returns-in-Some g c =
    let m = c.room_for_month.ensures.made in
    year-went c.requires m.kept m.months m.board c.open_year.ensures.opened _ c.in-Some.ensures.sheets.1 _ c.list_read.ensures.went
