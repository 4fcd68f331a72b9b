-- `lines::month_lines::put_end` meets its contract. Assumes nothing.
use Rattle.listing.specs.Listing.{end_line}
use Rattle.lines.proofs.Texts.{put_then}
use Rattle.lines.proofs.month_lines.put_end.Goals as goal

pub returns : goal.returns
unfolding end_line
returns c = put_then c.number.ensures (put_then c.push.ensures c.line.ensures)
