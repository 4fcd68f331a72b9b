-- Each answer of short_months, case by case. Assumes nothing.
use Rattle.std.specs.Prelude.{Some, Ok, Err}
use mathlib.Core.Path.{◌≡◌, sym, ap, ◌∙◌}
use mathlib.Core.Bool.{Bool}
use mathlib.Core.List.{List}
use Prim.Native.Nat.{ℕ, ◌≤◌, ◌<◌}
use native.Mathlib.Omega.{arith}
use lib.Count.{ones}
use lib.ListN.{length}
use Rattle.general.specs.Sums.{only}
use Rattle.general.specs.Tests.{bits_set}
use Rattle.general.proofs.Bits.{ones-are}
use Rattle.general.proofs.Tests.{ltb_yes, ltb_no}
use Rattle.rules.specs.declared.Refusal.{Refusal}
use Rattle.rules.specs.Answers.{told}
use Rattle.places.specs.Board.{word_at}
use Rattle.sections.specs.File.{section_of}
use Rattle.records.specs.Records.{right_count, basin_of, bodies}
use Rattle.records.proofs.Decoded.{rights-are}
use Rattle.filecheck.proofs.Accepted.{accepted-facts}
use Rattle.boards.proofs.Bounds.{word_small}
use Rattle.stock.specs.Stock.{stock_refusal}
use Rattle.stock.specs.Months.{short_months, months_settled, short_months_of, counted_told}
use Rattle.stock.proofs.Answers.{Clear, clear_none}

module _ (f board : List ℕ) (i : ℕ) where
  pub months-refused : (r : Refusal) → Some (told r) ≡ stock_refusal f board → counted_told (Err r) ≡ short_months_of f board i
  unfolding short_months_of months_settled
  months-refused r e = rw (← e)

  rights_in : length (basin_of f).rights ≡ right_count (section_of f 3)
  unfolding basin_of bodies
  rights_in = rights-are (section_of f 3)

  -- of a board that is not refused
  module _ (k : Clear f board) where
    pub few_rights : right_count (section_of f 3) ≤ 256
    few_rights = omega (arith, (accepted-facts f k.file-ok).few_rights, rights_in)

    counted : (x : ℕ) → x ≡ short_months (basin_of f) board i → counted_told (Ok x) ≡ short_months_of f board i
    unfolding short_months_of months_settled
    counted x e = rw (clear_none f board k, e)

    pub no-right : right_count (section_of f 3) ≤ i → counted_told (Ok 0) ≡ short_months_of f board i
    unfolding short_months
    no-right h = counted 0 (sym (ap (λ (t : Bool). only t (bits_set 12 (word_at board i))) (ltb_no i (length (basin_of f).rights) (omega (arith, h, rights_in)))))

    -- of a right that there is
    word-twelve : i < right_count (section_of f 3) → word_at board i < 4096
    word-twelve h = word_small (basin_of f) board k.board-ok i (omega (arith, h, few_rights))

    pub counted-at : i < right_count (section_of f 3) → (x : ℕ) → x ≡ ones (word_at board i) → counted_told (Ok x) ≡ short_months_of f board i
    unfolding short_months
    counted-at h x e = counted x
        (e
        ∙ ones-are 12 (word_at board i) (word-twelve h)
        ∙ sym (ap (λ (t : Bool). only t (bits_set 12 (word_at board i))) (ltb_yes i (length (basin_of f).rights) (omega (arith, h, rights_in)))))
