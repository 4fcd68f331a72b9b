-- The basin that the parts of a setting describe.
use Rattle.std.specs.Prelude.{List, [], ◌≡◌, ℕ, ◌<◌, length, get_or}
use Rattle.rules.specs.Basin.{Basin}
use Rattle.rules.specs.Accepted.{Accepted}
use Rattle.records.specs.Records.{stations_of, reservoirs_of, rights_of}
use Rattle.records.specs.Table.{table_of, sums_of}
use Rattle.river.specs.declared.setting.Setting.{Setting}

-- the basin that the parts of a file describe: bodies st, rs and ri, the table t of rows below, the running sums pa of its patterns
pub record SettingOf (b : Basin) (st t rs : List ℕ) (pa : List (List ℕ)) (ri : List ℕ) : Type 0 where
  pub accepted : Accepted b
  pub stations : b.stations ≡ stations_of st
  pub table : t ≡ table_of b.stations
  pub reservoirs : b.reservoirs ≡ reservoirs_of rs
  pub patterns : (k : ℕ) → k < length b.patterns → get_or pa k [] ≡ sums_of (get_or b.patterns k [])
  pub rights : b.rights ≡ rights_of ri

-- the same of the setting that has them
abbrev pub Describes : Setting → Basin → Type 0
Describes s b = SettingOf b s.bodies.now.stations.now s.below.now.rows s.bodies.now.reservoirs.now s.sums.now s.bodies.now.rights.now
