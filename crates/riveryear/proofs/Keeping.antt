-- What the program keeps from year to year. Assumes nothing.
use mathlib.Core.Bool.{true}
use mathlib.Core.List.{List}
use mathlib.Core.Path.{◌≡◌, ap, ◌∙◌}
use Prim.Native.Nat.{ℕ, ◌≤◌}
use native.Mathlib.Omega.{arith}
use lib.ListN.{length}
use Rattle.records.specs.Records.{basin_of}
use Rattle.boards.specs.Board.{possible}
use Rattle.yearly.specs.Years.{part_left}
use Rattle.lister.specs.declared.Listing.{Listing}
use Rattle.lister.specs.Lister.{Kept, InOrder}
use Rattle.lister.proofs.Lent.{kept-then, ordered}
use Rattle.yearly.specs.Opening.{YearOpened}
use Rattle.yearly.proofs.Opened.{opened-months, opened-board, left-most}
use Rattle.printing.specs.Going.{Going, CanRead, Went}
use Rattle.riveryear.specs.Going.{CanListYears, YearWent}

-- a year is opened after room was made in the text
module _ {book : List ℕ} {y : ℕ} {l l₁ l₂ : Listing} (c : CanListYears 1 l) (same : Kept l l₁) (months : l₁.months ≡ l.months) (board : l₁.board.now ≡ l.board.now) (w : YearOpened book y l₁ l₂) where
  kept : Kept l l₂
  kept = kept-then same w.kept

  in_order : InOrder l₂
  in_order = ordered c.going.in_order kept (ap (λ (b : List ℕ). possible (basin_of l.file.now) b) (opened-board w ∙ board) ∙ c.going.in_order.can)

  going : Going l₂
  going = record { in_order = in_order; room = omega (arith, c.going.room, kept.text) }

  same-months : l₂.months ≡ l.months
  same-months = opened-months w ∙ months

  pub year-ended : YearWent l l₂
  year-ended = record { going = going; counted = omega (arith, same-months); kept = kept }

  module _ (part : List ℕ) (ep : part ≡ part_left l₂.file.now book y l₂.board.now) where
    few : length part ≤ 3072
    few = omega (arith, ap length ep, left-most l₂.file.now book y l₂.board.now (record { accepted = in_order.accepted; can = in_order.can }))

    pub can-read : l₂.more ≡ true → CanRead part l₂
    can-read more = record { going = going; more = more; counted = omega (arith, same-months, few, c.counted) }

    pub year-went : (l₃ : Listing) → Went part l₂ l₃ → YearWent l l₃
    year-went l₃ v = record { going = v.going; counted = omega (arith, v.counted, same-months, few); kept = kept-then kept v.kept }
