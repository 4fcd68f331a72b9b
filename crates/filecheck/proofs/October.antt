-- The check computed on 01's October and on files like it. Assumes nothing.
use mathlib.Core.Path.{refl}
use Rattle.general.specs.Sums.{sum_over, sum_to}
use Rattle.general.specs.Tables.{tab}
use Rattle.general.specs.Tests.{◌and◌, between, has, first_at, first_fault, all_to}
use Rattle.general.specs.Routes.{follow}
use Rattle.rules.specs.Path.{carries_on, row_below, path}
use Rattle.numbers.specs.Bytes.{le16_at, le32_at, three_zeros}
use Rattle.sections.specs.File.{width_of, offset_of, count_of, counts_ok, packed, layout_ok, section_of}
use Rattle.records.specs.Records.{station_record, station_of, stations_of, reservoir_record, content_at, area_at, depth_at, reservoir_of, reservoirs_of, percent_at, pattern_of, patterns_of, kind_byte, kind_named, right_record, amount_at, return_row, return_percent, right_of, rights_of, bodies, basin_of}
use Rattle.filerules.specs.FileRules.{number_rises, way_down, station_plain, station_ok, contents_rise, areas_ok, depths_ok, surveys_ok, reservoir_plain, reservoir_ok, pattern_ok, date_ok, kind_known, limit_ok, heading_ok, below_reservoir, at_reservoir, source_ok, point_ok, each_point_ok, points_ok, diversion_ok, undiverted_ok, returns_ok, unused_ok, amounts_ok, earlier, right_rises, right_ok}
use Rattle.filecheck.specs.Check.{fault_verdict, stations_verdict, reservoirs_verdict, patterns_verdict, rights_verdict, bodies_verdict, check_of}
use Rattle.filecheck.specs.October.{october_file, elder_alone_file, OctoberChecked}

pub october-checked : OctoberChecked
unfolding october_file elder_alone_file check_of bodies_verdict stations_verdict reservoirs_verdict patterns_verdict rights_verdict fault_verdict first_fault first_at all_to ◌and◌ between has layout_ok counts_ok packed section_of offset_of count_of width_of le16_at le32_at three_zeros tab sum_over sum_to carries_on row_below follow path stations_of station_of station_record reservoir_record content_at area_at depth_at pattern_of percent_at kind_byte kind_named right_record amount_at return_row return_percent number_rises way_down station_plain station_ok contents_rise areas_ok depths_ok surveys_ok reservoir_plain reservoir_ok pattern_ok date_ok kind_known limit_ok heading_ok below_reservoir at_reservoir source_ok point_ok each_point_ok points_ok diversion_ok undiverted_ok returns_ok unused_ok amounts_ok earlier right_rises right_ok basin_of bodies reservoirs_of reservoir_of patterns_of rights_of right_of
october-checked = record {
  accepted = refl;
  decoded = refl;
  alone_accepted = refl;
  alone_decoded = refl;
  cut_short = refl;
  gap = refl;
  lost_row = refl;
  last_order = refl;
  zero_byte = refl;
  seeping = refl;
  all_deep = refl;
  one_over = refl;
  over_full = refl;
  unpointed = refl;
  misplaced = refl;
  kind_unknown = refl;
}
