-- What the reservoirs lost, told in the report. Assumes nothing.
use mathlib.Core.List.{List}
use mathlib.Core.Path.{◌≡◌, ◌∙◌}
use Prim.Native.Nat.{ℕ, ◌+◌, ◌≤◌, ◌<◌}
use lib.ListN.{length, get_or}
use borrow.Rule.Slice.PartMut.{put_mid}
use Rattle.std.proofs.Common.{rules}
use Rattle.std.proofs.lemmas.List.{places}
use Rattle.closing.specs.Losses.{Lost}

-- the list of losses, of which `part` is what it was before, is that of rp from `at` on
module _ (rs : List ℕ) (m k : ℕ) (bd bd' rp part losses : List ℕ) (at : ℕ) (long : length losses ≡ k) (fits : at + k ≤ length rp) (w : Lost rs m k bd part 0 bd' losses) where
  here : (v : ℕ) → v < k → get_or (put_mid at k rp losses) (at + v) 0 ≡ get_or losses (0 + v) 0
  here v h = search (rules, places)

  front : (p : ℕ) → p < at → get_or (put_mid at k rp losses) p 0 ≡ get_or rp p 0
  front p h = search (rules, places)

  beyond : (p : ℕ) → at + k ≤ p → get_or (put_mid at k rp losses) p 0 ≡ get_or rp p 0
  beyond p h = search (rules, places)

  size : length (put_mid at k rp losses) ≡ length rp
  size = search (rules, places)

  pub lost-told : Lost rs m k bd rp at bd' (put_mid at k rp losses)
  lost-told = record {
    storages = w.storages;
    told = λ v h. here v h ∙ w.told v h;
    kept_front = w.kept_front;
    kept = w.kept;
    report_front = front;
    report_kept = beyond;
    size = w.size;
    report_size = size;
  }
