-- `book::contents::Table::body_at` meets its contract. Assumes nothing.
use native.Mathlib.Omega.{arith}
use Rattle.book.proofs.Bodies.{within, part-is}
use Rattle.book.proofs.contents.Table.body_at.Goals as goal

pub overflow_add-stop : goal.overflow_add-stop
overflow_add-stop c = let t = c.args.self.now in omega (arith, c.offset_at-start.ensures, c.body_size.ensures, c.requires.0.few, (within t.rows t.book.now c.requires.0 c.args.i c.requires.1).near)

pub slice_bounds-result-end : goal.slice_bounds-result-end
slice_bounds-result-end c = let t = c.args.self.now in omega (arith, c.offset_at-start.ensures, c.body_size.ensures, (within t.rows t.book.now c.requires.0 c.args.i c.requires.1).body)

pub returns : goal.returns
returns c = let t = c.args.self.now in part-is t.rows t.book.now c.args.i c.offset_at-start.ensures c.body_size.ensures
