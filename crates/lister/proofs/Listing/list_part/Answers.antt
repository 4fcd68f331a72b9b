-- `lister::Listing::list_part` meets its contract. Assumes nothing.
use mathlib.Core.Path.{sym, ◌∙◌}
use native.Mathlib.Omega.{arith}
use lib.Seq.{length-take-le}
use Rattle.std.proofs.Common.{rules}
use Rattle.records.proofs.Decoded.{file-rows}
use Rattle.lister.proofs.Lent.{few_rows, part-ended, part-short}
use Rattle.lister.proofs.Listing.list_part.Goals as goal

pub returns-then-is_empty : goal.returns-then-is_empty
returns-then-is_empty c = part-ended c.args.part.now c.args.self.now c.requires (search rules) _

pub returns-then-part-sheet_size : goal.returns-then-part-sheet_size
returns-then-part-sheet_size c =
    let e = c.rows-n.ensures ∙ file-rows c.args.self.now.file.now c.of.ensures.stations in
    part-short c.args.part.now c.args.self.now c.requires (search rules) (λ v. omega (arith, v, e, c.sheet_size.ensures, c.if-part-sheet_size.true)) _ (rw c.from.ensures at c.refuse.ensures)

pub slice_bounds-runoff-end : goal.slice_bounds-runoff-end
slice_bounds-runoff-end c = omega (arith, few_rows c.args.part.now c.args.self.now c.requires, c.rows-n.ensures ∙ file-rows c.args.self.now.file.now c.of.ensures.stations)

pub slice_bounds-list_sheet-end : goal.slice_bounds-list_sheet-end
slice_bounds-list_sheet-end c = sym (length-take-le _ _ (omega (arith, few_rows c.args.part.now c.args.self.now c.requires, c.rows-n.ensures ∙ file-rows c.args.self.now.file.now c.of.ensures.stations)))

pub list_sheet-requires : goal.list_sheet-requires
list_sheet-requires c =
    let e = c.rows-n.ensures ∙ file-rows c.args.self.now.file.now c.of.ensures.stations in
    (c.requires, omega (arith, c.if-part-sheet_size.false, c.sheet_size.ensures, e), (length-take-le _ _ (omega (arith, few_rows c.args.part.now c.args.self.now c.requires, e))) ∙ e)
