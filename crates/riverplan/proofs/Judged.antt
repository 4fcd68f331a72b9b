-- A board that stock accepts can be listed from. Assumes nothing.
use Rattle.std.specs.Prelude.{Ok}
use mathlib.Core.List.{List}
use mathlib.Core.Bool.{true}
use mathlib.Core.Path.{◌≡◌}
use Prim.Native.Nat.{ℕ, ◌≤◌, ◌<◌}
use native.Mathlib.Omega.{arith}
use lib.ListN.{length}
use Rattle.places.specs.Report.{most_report}
use Rattle.filecheck.proofs.Accepted.{accepted-facts}
use Rattle.lines.specs.Texts.{room_of}
use Rattle.lines.specs.Putting.{most_text}
use Rattle.lines.proofs.Texts.{list-long}
use Rattle.lister.specs.declared.Listing.{Listing}
use Rattle.lister.specs.Lister.{text_of, Kept, CanListBlock}
use Rattle.stock.specs.declared.Totals.{Totals}
use Rattle.stock.specs.Stock.{stock_of, totals_told}
use Rattle.stock.proofs.Answers.{Clear, summed-clear}

-- a listing on a file and a board that is lent as an array
module _ (l : Listing) (bd : List ℕ) (same : l.board.now ≡ bd) (t : Totals) (told : totals_told (Ok t) ≡ stock_of l.file.now bd) where
  judged : Clear l.file.now l.board.now
  judged = rw same (summed-clear l.file.now bd t told)

  pub can-list : (sheets : List ℕ) → length sheets < 9_223_372_036_854_775_808 → l.months < 4_294_967_296 → l.more ≡ true → length l.report.now ≡ most_report → most_text ≤ room_of (text_of l) → CanListBlock sheets l
  can-list sheets few early going long room = record {
    step = record {
      in_order = record {
        accepted = judged.file-ok;
        can = judged.board-ok;
        told = let a = accepted-facts l.file.now judged.file-ok in omega (arith, long, a.few_rows, a.few_rights, a.few_reservoirs);
      };
      room = room;
      counted = omega (arith, early);
    };
    going = going;
    counted = omega (arith, few, early);
  }

-- the list of a listing's text is as long as it was lent
pub long-as-lent : {l l' : Listing} → Kept l l' → length l'.list.now ≡ length l.list.now
long-as-lent {l} {l'} k = omega (arith, k.text, list-long (text_of l), list-long (text_of l'))
