-- `lines::month_lines::put_right` meets its contract: the month, the permit as it was read, and the right's numbers of the report. Assumes nothing.
use mathlib.Core.Path.{◌∙◌}
use Rattle.listing.specs.Listing.{right_line}
use Rattle.records.specs.Records.{right_of, right_record}
use Rattle.lines.proofs.month_lines.put_right.Goals as goal

pub returns : goal.returns
unfolding right_line right_of right_record
returns c = rw (c.from.ensures ∙ c.le32.ensures, c.line_place-line.ensures) at c.line.ensures
