-- `grants::grants::river_part` meets its contract. Assumes nothing.
use Rattle.std.proofs.Common.{rules}
use Rattle.grants.proofs.Looks.{own_in, low_on, gave_own, gave_called, gave_low}
use Rattle.grants.proofs.grants.river_part.Goals as goal

pub station_at-requires : goal.station_at-requires
station_at-requires c = own_in c.args.setting.now.below.now.downhill c.requires c.from-row.ensures

pub returns-in-Instream : goal.returns-in-Instream
returns-in-Instream c =
    let s = c.args in
    gave_own s.river.now.available s.short.now s.right.kind s.demand s.setting.now.below.now.downhill c.requires c.from-row.ensures c.in-Instream.is c.min.ensures c.station_at.ensures

pub returns-in-Called : goal.returns-in-Called
returns-in-Called c =
    let s = c.args in
    gave_called s.river.now.available s.short.now s.right.kind s.demand s.setting.now.below.now.downhill c.requires c.from-row.ensures c.in-Called.q (search rules) c.look-seen.ensures c.station_at-in-Called.ensures c.in-Called.is

pub bounds-river-q : goal.bounds-river-q
bounds-river-q c = low_on c.args.setting.now.below.now.downhill c.requires c.from-row.ensures c.args.river.now.available c.args.short.now c.in-Low.q c.look-seen.ensures c.in-Low.is

pub returns-in-Low : goal.returns-in-Low
returns-in-Low c =
    let s = c.args in
    gave_low s.river.now.available s.short.now s.right.kind s.demand s.setting.now.below.now.downhill c.requires c.from-row.ensures c.in-Low.q (search rules) c.look-seen.ensures c.station_at-in-Low.ensures c.in-Low.is c.min-in-Low.ensures
