-- The worked month of 01, "One October, whole", as a basin and one call. What it leaves open: no evaporation in other months, the same amounts in all.
use Rattle.std.specs.Prelude.{List, [], ◌∷◌, ℕ, take, replicate}
use Rattle.rules.specs.Basin.{Station, Reservoir, Kind, direct, project, storage, Right, Basin}
use Rattle.rules.specs.Tally.{Call}

abbrev pub all_months : ℕ
all_months = 4095

-- a right of kind 1, 2 or 3 without return points, with one amount in all months
abbrev pub plain_right : ℕ → ℕ → Kind → ℕ → ℕ → ℕ → Right
plain_right permit date k row reservoir amount = record {
  permit = permit;
  date = date;
  kind = k;
  row = row;
  reservoir = reservoir;
  efficiency = 100;
  pattern = 255;
  months = all_months;
  limit = 0;
  amounts = replicate 12 amount;
  points = [];
}

-- a right of kind 4
abbrev pub storage_right : ℕ → ℕ → ℕ → ℕ → ℕ → ℕ → Right
storage_right permit date row reservoir amount limit = record {
  permit = permit;
  date = date;
  kind = storage;
  row = row;
  reservoir = reservoir;
  efficiency = 0;
  pattern = 255;
  months = all_months;
  limit = limit;
  amounts = replicate 12 amount;
  points = [];
}

-- a right of kind 1 or 2 with one return point, and pattern 0
abbrev pub returning_right : ℕ → ℕ → Kind → ℕ → ℕ → ℕ → ℕ → ℕ → Right
returning_right permit date k row reservoir amount efficiency return_row = record {
  permit = permit;
  date = date;
  kind = k;
  row = row;
  reservoir = reservoir;
  efficiency = efficiency;
  pattern = 0;
  months = all_months;
  limit = 0;
  amounts = replicate 12 amount;
  points = record { row = return_row; percent = 100 } ∷ [];
}

abbrev pub october_stations : List Station
october_stations = record { number = 100; order = 2 } ∷ record { number = 200; order = 1 } ∷ record { number = 300; order = 1 } ∷ []

abbrev pub october_reservoir : Reservoir
october_reservoir = record {
  row = 0;
  capacity = 5000;
  start = 1000;
  surveys = record { content = 0; area = 10 } ∷ record { content = 2000; area = 20 } ∷ record { content = 4000; area = 30 } ∷ record { content = 6000; area = 40 } ∷ [];
  depths = 5 ∷ replicate 11 0;
}

abbrev pub october : Basin
october = record {
  stations = october_stations;
  reservoirs = october_reservoir ∷ [];
  patterns = (50 ∷ 30 ∷ 20 ∷ replicate 9 0) ∷ [];
  rights =
      plain_right 11 18900501 direct 2 255 1500
      ∷ returning_right 12 19000401 direct 1 255 1201 33 2
      ∷ storage_right 13 19100101 0 0 900 3000
      ∷ plain_right 14 19500101 project 1 0 600
      ∷ plain_right 15 99999999 direct 0 255 50
      ∷ [];
}

-- the same river with its first right and no other
abbrev pub elder_alone : Basin
elder_alone = record { stations = october.stations; reservoirs = october.reservoirs; patterns = october.patterns; rights = take 1 october.rights }

abbrev pub october_call : Call
october_call = record { runoff = 2000 ∷ 700 ∷ 300 ∷ []; report = 28 }
