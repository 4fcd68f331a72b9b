-- The check of a file: what is told is the kind of fault with the lowest number, and of its records the first (01, "Numbers for what is turned down").
use Rattle.std.specs.Prelude.{Bool, true, false, cond, List, ℕ, Option, None, Some, Ok, Err}
use Rattle.std.specs.Result.{result_and}
use Rattle.general.specs.Tests.{first_fault}
use Rattle.rules.specs.declared.Refusal.{Refusal}
use Rattle.rules.specs.declared.Refusal.TheVariants.{Layout, Station, Reservoir, Pattern, Right}
use Rattle.rules.specs.Answers.{Verdict}
use Rattle.sections.specs.File.{layout_ok, section_of}
use Rattle.records.specs.Records.{rows_of, reservoir_count, pattern_count, right_count}
use Rattle.filerules.specs.FileRules.{station_ok, reservoir_ok, pattern_ok, right_ok}

-- accepted only if the test holds
unfoldable pub only_if : Bool → Refusal → Verdict
only_if true refusal = Ok tt
only_if false refusal = Err refusal

-- refused by the first at fault, if there is one
unfoldable pub fault_verdict : (ℕ → Refusal) → Option ℕ → Verdict
fault_verdict r None = Ok tt
fault_verdict r (Some i) = Err (r i)

-- the verdict on each body
unfoldable pub stations_verdict : List ℕ → Verdict
stations_verdict st = fault_verdict Station (first_fault (rows_of st) (station_ok st))

unfoldable pub reservoirs_verdict : List ℕ → List ℕ → Verdict
reservoirs_verdict st rs = fault_verdict Reservoir (first_fault (reservoir_count rs) (reservoir_ok st rs))

unfoldable pub patterns_verdict : List ℕ → Verdict
patterns_verdict ps = fault_verdict Pattern (first_fault (pattern_count ps) (pattern_ok ps))

unfoldable pub rights_verdict : List ℕ → List ℕ → List ℕ → List ℕ → Verdict
rights_verdict st rs ps s = fault_verdict Right (first_fault (right_count s) (right_ok st rs (pattern_count ps) s))

-- in the order of the sections, which is that of their numbers: a body at fault hides the later ones
unfoldable pub bodies_verdict : List ℕ → List ℕ → List ℕ → List ℕ → Verdict
bodies_verdict st rs ps s = result_and (stations_verdict st) (result_and (reservoirs_verdict st rs) (result_and (patterns_verdict ps) (rights_verdict st rs ps s)))

-- The layout comes first: where it is at fault nobody knows where the records are.
unfoldable pub check_of : List ℕ → Verdict
check_of f = cond (layout_ok f) (bodies_verdict (section_of f 0) (section_of f 1) (section_of f 2) (section_of f 3)) (Err Layout)
