-- What a program keeps while it lists a block. Assumes nothing.
use mathlib.Core.Bool.{Bool, true}
use mathlib.Core.List.{List}
use mathlib.Core.Path.{◌≡◌, ap}
use Prim.Native.Nat.{ℕ, ◌+◌, ◌≤◌}
use native.Mathlib.Omega.{arith}
use lib.ListN.{length, drop, length-drop}
use Rattle.places.specs.Report.{most_report}
use Rattle.lines.specs.declared.text.Text.{Text}
use Rattle.lines.specs.Texts.{bytes_of, room_of}
use Rattle.lines.proofs.Texts.{list-long}
use Rattle.lister.specs.declared.Listing.{Listing}
use Rattle.lister.specs.Lister.{Kept, Opened, BlockListed, Passed}
use Rattle.lister.proofs.Lent.{kept-then}
use Rattle.lister.proofs.Passing.{passed-then}
use Rattle.lister.proofs.Begun.{opened-on, opened-order}
use Rattle.printing.specs.Going.{Going, Begun, RoomMade}

-- the list of a text is as long as it was
pub as-long : (t u : Text) → u.list.now ≡ t.list.now → length (bytes_of u) + room_of u ≡ length (bytes_of t) + room_of t
as-long t u e = omega (arith, list-long t, list-long u, ap length e)

-- the block is listed up to what is left of it
pub record Listed (block : List ℕ) (last : Bool) (rest : List ℕ) (l l' : Listing) : Type 0 where
  pub going : Going l'
  pub counted : l'.months + length rest ≤ l.months + length block
  pub kept : Kept l l'
  pub passed : Passed block last rest l l'

-- a call more, after room was made
pub listed-more : {block rest rest' : List ℕ} {last : Bool} {l l₁ l₂ l₃ : Listing} {used : ℕ} → Listed block last rest l l₁ → RoomMade l₁ l₂ → BlockListed rest last 0 l₂ l₃ used → rest' ≡ drop used rest → Listed block last rest' l l₃
listed-more {block} {rest} {last} {used} x m w e =
    let k = kept-then x.kept (kept-then m.kept w.kept) in
    let k₂ = kept-then x.kept m.kept in record {
      going = record { in_order = w.in_order; room = omega (arith, x.going.room, (kept-then m.kept w.kept).text) };
      counted = omega (arith, x.counted, m.months, w.counted, w.used, ap length e, length-drop used rest);
      kept = k;
      passed = passed-then block last x.passed k₂.file m.months m.board m.more w e;
    }

-- a listing that was opened and goes on, with room for any report and a buffer of text
pub begun : {f bd report out : List ℕ} {l : Listing} → Opened f bd report out l → l.more ≡ true → length report ≡ most_report → length out ≡ 65536 → Begun l
begun w more told long = record { going = record { in_order = opened-order w more told; room = omega (arith, w.list, long) }; more = more; first = (opened-on w more).2 }
