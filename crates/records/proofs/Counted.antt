-- The number of records in a body of an accepted layout. Assumes nothing.
use mathlib.Core.Path.{◌≡◌}
use mathlib.Core.Bool.{true}
use mathlib.Core.List.{List}
use Prim.Native.Nat.{ℕ, ◌*◌}
use native.Mathlib.Omega.{arith}
use lib.ListN.{length}
use Rattle.sections.specs.File.{width_of, count_of, layout_ok, section_of}
use Rattle.records.specs.Records.{rows_of, reservoir_count, pattern_count, right_count}
use Rattle.sections.proofs.Parts.{Laid, laid, ends-within, section-length}

module _ (f : List ℕ) (e : layout_ok f ≡ true) where
  h : Laid f
  h = laid f e

  -- the number of records in each body is the table's count
  pub rows-counted : rows_of (section_of f 0) ≡ count_of f 0
  unfolding width_of
  rows-counted = let l : length (section_of f 0) ≡ count_of f 0 * 8 = section-length f 0 h.long (ends-within f h.packs).0 in omega arith

  pub reservoirs-counted : reservoir_count (section_of f 1) ≡ count_of f 1
  unfolding width_of
  reservoirs-counted = let l : length (section_of f 1) ≡ count_of f 1 * 68 = section-length f 1 h.long (ends-within f h.packs).1 in omega arith

  pub patterns-counted : pattern_count (section_of f 2) ≡ count_of f 2
  unfolding width_of
  patterns-counted = let l : length (section_of f 2) ≡ count_of f 2 * 12 = section-length f 2 h.long (ends-within f h.packs).2 in omega arith

  pub rights-counted : right_count (section_of f 3) ≡ count_of f 3
  unfolding width_of
  rights-counted = let l : length (section_of f 3) ≡ count_of f 3 * 76 = section-length f 3 h.long (ends-within f h.packs).3 in omega arith
