-- The short months answered on the tally's board are those of its grants. Assumes nothing.
use Rattle.std.specs.Prelude.{Option, None, Ok}
use mathlib.Core.Path.{◌≡◌, sym, ap, ◌∙◌}
use mathlib.Core.Bool.{Bool, false}
use mathlib.Core.List.{List}
use Prim.Native.Nat.{ℕ, ◌<◌}
use native.Mathlib.Omega.{arith}
use lib.ListN.{length, get_or}
use Rattle.general.specs.Sums.{sum_to, only}
use Rattle.general.specs.Tests.{bits_set}
use Rattle.general.proofs.Sums.{sum_to-same}
use Rattle.general.proofs.Tests.{ltb_yes}
use Rattle.rules.specs.Answers.{Answer}
use Rattle.rules.specs.Basin.{Basin}
use Rattle.rules.specs.Tally.{Start, Tally, begun, standing, pending}
use Rattle.rules.specs.Years.{Entry, after_entries}
use Rattle.rules.specs.Shortness.{how_many, shorts_of, short_now}
use Rattle.rules.specs.Accepted.{Accepted}
use Rattle.rules.specs.Theorems.{Possible}
use Rattle.rules.proofs.Theorems.{always_possible, short_months}
use Rattle.rules.proofs.Shortness.{count-places}
use Rattle.records.specs.Records.{basin_of}
use Rattle.filecheck.specs.Check.{check_of}
use Rattle.places.specs.Board.{word_at}
use Rattle.boards.specs.Board.{word_of}
use Rattle.boards.proofs.Board.{bit_word, board-length, word-place}
use Rattle.stock.specs.Stock.{stock_refusal}
use Rattle.stock.specs.Months as call
use Rattle.stock.proofs.Answers.{clear_none}
use Rattle.account.specs.Claim.{tally_board}
use Rattle.account.proofs.Tally.{tally-possible}

-- the bits of a word of marks are as many as the marks
bits-many : (ms : List Bool) → length ms ≡ 12 → bits_set 12 (word_of ms) ≡ how_many ms
unfolding bits_set
bits-many ms e =
    sum_to-same 12 _ _ (λ k _. ap (λ (t : Bool). only t 1) (bit_word ms k)) ∙ sym (count-places ms ∙ ap (λ (n : ℕ). sum_to n (λ k. only (get_or ms k false) 1)) e)

module _ (f : List ℕ) (ok : check_of f ≡ Ok tt) (acc : Accepted (basin_of f)) where
  abbrev b : Basin
  b = basin_of f

  -- on the board of a tally that stands well nothing is refused
  board-clear : (t : Tally) → Possible b (standing b t) → stock_refusal f (tally_board b t) ≡ None
  unfolding tally_board
  board-clear t p = clear_none f (tally_board b t) (record { file-ok = ok; size = board-length b t.carried (pending b t.start t.months); board-ok = tally-possible b acc t p })

  word-is : (t : Tally) (i : ℕ) → i < 256 → word_at (tally_board b t) i ≡ word_of (shorts_of t.carried i)
  unfolding tally_board
  word-is t i h = word-place b t.carried (pending b t.start t.months) i h

  counted : (t : Tally) → Possible b (standing b t) → (i : ℕ) → i < length b.rights → call.short_months b (tally_board b t) i ≡ how_many (shorts_of t.carried i)
  unfolding call.short_months standing
  counted t p i h =
      ap (λ (x : Bool). only x (bits_set 12 (word_at (tally_board b t) i))) (ltb_yes i (length b.rights) h)
      ∙ ap (bits_set 12) (word-is t i (omega (arith, h, acc.few_rights)))
      ∙ bits-many (shorts_of t.carried i) (p.shorts_months i h)

  pub told-short : (s : Start) → Possible b s → (xs : List Entry) (i : ℕ) → i < length b.rights
      → call.short_months_of f (tally_board b (after_entries b (begun s) xs)) i ≡ record { number = 0; place = 0; months = short_now s (after_entries b (begun s) xs).months i }
  unfolding call.short_months_of call.months_settled
  told-short s p xs i h =
      let t : Tally = after_entries b (begun s) xs in
      let q : Possible b (standing b t) = always_possible b acc s p xs in
      ap (λ (v : Option Answer). call.months_settled v b (tally_board b t) i) (board-clear t q)
      ∙ ap (λ (m : ℕ). record { number = 0; place = 0; months = m }) (counted t q i h ∙ short_months b s p xs i h)
