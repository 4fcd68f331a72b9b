-- `book::find::station_count` meets its contract. Assumes nothing.
use mathlib.Core.Path.{◌∙◌}
use Rattle.records.proofs.Decoded.{file-rows}
use Rattle.book.proofs.find.station_count.Goals as goal

pub returns : goal.returns
returns c = c.rows.ensures ∙ file-rows c.args.file.now c.of.ensures.stations
