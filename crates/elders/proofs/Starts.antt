-- Two basins that differ in their rights alone begin with one board. Assumes nothing.
use mathlib.Core.Path.{◌≡◌, sym, ap, ◌∙◌}
use mathlib.Core.Bool.{false}
use mathlib.Core.List.{List, map}
use Prim.Native.Nat.{ℕ}
use lib.Dec.{ltb}
use lib.ListN.{length, get_or, replicate}
use Rattle.general.specs.Sums.{only}
use Rattle.general.proofs.Lists.{get_d-zeros}
use Rattle.rules.specs.Basin.{Station, Reservoir, Basin}
use Rattle.rules.specs.Elders.{SameRiver}
use Rattle.rules.specs.Month.{Carried}
use Rattle.rules.specs.Tally.{fresh_carried}
use Rattle.boards.specs.Board.{word_of}
use Rattle.boards.proofs.Board.{board-length, month-place, storage-place, marks-place, taken-place, due-place, word-place, board-told}
use Rattle.fresh.specs.Fresh.{fresh_board}
use Rattle.fresh.proofs.Start.{no_word}

module _ (a b : Basin) (e : SameRiver a b) where
  abbrev c : Carried
  c = fresh_carried a

  abbrev due : ℕ → ℕ → ℕ
  due w k = 0

  pub fresh-same : fresh_board a ≡ fresh_board b
  unfolding fresh_board fresh_carried
  fresh-same = board-told b (fresh_carried b) due (fresh_board a) (record {
    size = board-length a c due;
    month = month-place a c due;
    storages = λ v l. storage-place a c due v l ∙ ap (λ (vs : List Reservoir). get_or (map (λ (x : Reservoir). x.start) vs) v 0) e.reservoirs;
    marks = marks-place a c due ∙ ap (λ (vs : List Reservoir). word_of (replicate (length vs) false)) e.reservoirs;
    taken = λ i l. taken-place a c due i l ∙ get_d-zeros (length a.rights) i ∙ sym (get_d-zeros (length b.rights) i);
    dues = λ w k l m. due-place a c due w k l m ∙ ap (λ (st : List Station). only (ltb w (length st)) 0) e.stations;
    words = λ i l. word-place a c due i l ∙ no_word (length a.rights) i ∙ sym (no_word (length b.rights) i);
  })
