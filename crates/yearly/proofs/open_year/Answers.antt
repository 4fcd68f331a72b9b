-- `yearly::open_year` meets its contract. Assumes nothing.
use mathlib.Core.Path.{refl}
use native.Mathlib.Omega.{arith}
use Prim.Native.Nat.{◌*◌, ◌≤◌}
use borrow.Author.Rules.{rules}
use lib.ListN.{length}
use Rattle.places.specs.Board.{month_at}
use Rattle.lines.specs.Texts.{room_of}
use Rattle.yearly.proofs.Opened.{year-there, year-refused, year-accepted, first_small, first-within}
use Rattle.yearly.proofs.open_year.Goals as goal

pub overflow_mul-first : goal.overflow_mul-first
overflow_mul-first c = let l = c.args.listing.now in omega (arith, first_small l.file.now l.board.now c.requires.in_order c.sheet_size.ensures refl)

pub slice_bounds-result-start : goal.slice_bounds-result-start
slice_bounds-result-start c =
    let s = c.args in
    let l = s.listing.now in
    let e = c.in-Ok.ensures in
    let h : c.sheet_size.result * month_at l.board.now ≤ length c.in-Ok.body.now = first-within l.file.now l.board.now c.requires.in_order c.sheet_size.ensures refl s.book.now s.year (year-there s.book.now s.year l e.refused refl) e.part in
    search rules

pub slice_bounds-result-count : goal.slice_bounds-result-count
slice_bounds-result-count c =
    let s = c.args in
    let l = s.listing.now in
    let e = c.in-Ok.ensures in
    omega (arith, first-within l.file.now l.board.now c.requires.in_order c.sheet_size.ensures refl s.book.now s.year (year-there s.book.now s.year l e.refused refl) e.part)

pub returns-in-Ok-clause-opened : goal.returns-in-Ok-clause-opened
returns-in-Ok-clause-opened c = year-accepted c.args.book.now c.args.year c.args.listing.now c.in-Ok.ensures.refused refl c.requires.going _

pub returns-in-Err-clause-opened : goal.returns-in-Err-clause-opened
returns-in-Err-clause-opened c = year-refused c.args.book.now c.args.year c.args.listing.now c.in-Err.ensures.refused _ refl _ _ (rw c.from.ensures at c.refuse.ensures)

pub refuse-requires : goal.refuse-requires
unfolding room_of
refuse-requires c = c.requires.room
