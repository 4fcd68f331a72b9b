-- The table of rows below, as the stations' check fills it with the rows that it finds. Assumes nothing.
use Rattle.std.specs.Prelude.{Option, Some}
use mathlib.Core.Path.{◌≡◌, sym, ap, ◌∙◌}
use mathlib.Core.List.{List, append_assoc}
use Prim.Native.Nat.{ℕ, suc, ◌+◌, ◌-◌, ◌≤◌, ◌<◌}
use native.Mathlib.Numerals.{add-one}
use native.Mathlib.Omega.{arith}
use lib.ListN.{length, set, replicate}
use Rattle.general.specs.Tables.{tab}
use Rattle.general.specs.Tests.{first_at}
use Rattle.general.proofs.Fill.{filled, fill_none, fill_more}
use Rattle.rules.specs.Path.{row_below}
use Rattle.rules.proofs.Path.{below-later}
use Rattle.records.specs.Records.{rows_of, stations_of}
use Rattle.records.specs.Table.{below_code, table_of, TableFor}
use Rattle.records.proofs.Rows.{rows_are}
use Rattle.records.proofs.Table.{code_row}

-- a place that is to hold what it holds already
fill-as-is : (f : ℕ → ℕ) (z n k : ℕ) → k < n → f k ≡ z → filled f z n k ≡ filled f z n (k + 1)
unfolding tab
fill-as-is f z n k h ev = let e : n - k ≡ suc (n - (k + 1)) = omega arith in rw (e, add-one k, append_assoc, ev)

module _ (s : List ℕ) where
  abbrev code : ℕ → ℕ
  code r = below_code (row_below (stations_of s) r)

  -- the table with the rows below of the first i rows
  abbrev pub found_to : ℕ → List ℕ
  found_to i = filled code 255 64 i

  pub found_none : replicate 64 255 ≡ found_to 0
  found_none = fill_none code 255 64

  module _ (i q : ℕ) (b : Option ℕ) (e : b ≡ row_below (stations_of s) i) (g : b ≡ Some q) where
    -- it is a later row, and one of at most 64
    pub found-later : rows_of s ≤ 64 → (i < q) × (q < 64)
    found-later few = let w = below-later (stations_of s) i q (sym e ∙ g) in (w.0, omega (arith, w.1, rows_are s))

    pub found-more : (t : List ℕ) → i < 64 → t ≡ found_to i → set t i q ≡ found_to (i + 1)
    found-more t h k = fill_more code 255 64 i t q h (code_row (stations_of s) i q (sym e ∙ g)).1 k

  module _ (last : ℕ) (h : last + 1 ≡ rows_of s) (few : rows_of s ≤ 64) where
    -- no row comes after the last
    last_code : code last ≡ 255
    unfolding row_below below_code first_at
    last_code = let n : length (stations_of s) - suc last ≡ 0 = omega (arith, rows_are s) in rw n

    pub found_all : (t : List ℕ) → t ≡ found_to last → TableFor s t
    unfolding table_of
    found_all t k = record { few = few; table = k ∙ fill-as-is code 255 64 last (omega arith) last_code ∙ ap found_to (omega (arith, rows_are s)) }
