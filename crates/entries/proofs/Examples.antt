-- The small cases of specs/Examples.antt. Assumes nothing.
use mathlib.Core.Path.{refl}
use Rattle.general.specs.Tests.{◌and◌, first_at, all_to}
use Rattle.numbers.specs.Bytes.{le32_at, le64_at, bytes32, bytes64}
use Rattle.entries.specs.Entries.{name_at, bytes_of, same_name, is_named, first_named, or_first, place_for}
use Rattle.entries.specs.Examples.{EntriesChecked}

pub entries-checked : EntriesChecked
unfolding name_at bytes_of same_name is_named first_named or_first place_for first_at all_to ◌and◌ le32_at le64_at bytes32 bytes64
entries-checked = record {
  long = refl;
  second_name = refl;
  second_board = refl;
  last_board = refl;
  third = refl;
  last_byte = refl;
  zeros_within = refl;
  earlier = refl;
  later = refl;
  unknown = refl;
  empty = refl;
  none_empty = refl;
  own = refl;
  new = refl;
  no_place = refl;
  bytes = refl;
  largest = refl;
}
