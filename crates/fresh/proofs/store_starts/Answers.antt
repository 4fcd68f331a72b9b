use Rattle.std.proofs.Common.{arith, ◌≡◌, ◌∙◌, ℕ, ◌+◌, ◌-◌, ◌≤◌, ◌<◌, List, length, get_or}
use Rattle.general.proofs.Lists.{by_place}
use Rattle.general.specs.Parts.{over}
use Rattle.general.proofs.Parts.{over-length, over-in, over-before, over-after, put_mid-over}
use Rattle.records.specs.Records.{reservoir_count, reservoir_record}
use Rattle.fresh.specs.Fresh.{Started}
use Rattle.fresh.proofs.store_starts.Goals as goal

-- the board with the storages written over its part of them
started : (rs bd l : List ℕ) → 1 + length l ≤ length bd → ((v : ℕ) → v < length l → get_or l v 0 ≡ (reservoir_record rs v).start) → Started rs (length l) bd (over bd 1 l)
started rs bd l fits w = record {
  size = over-length bd 1 l fits;
  storages = λ v h. over-in bd 1 l v (omega arith) h ∙ w v h;
  kept = λ p h. by_place p 1 (get_or (over bd 1 l) p 0 ≡ get_or bd p 0)
      (over-before bd 1 l p (omega arith))
      (λ m. over-after bd 1 l p (omega arith) (by_place p (1 + length l) (1 + length l ≤ p) (λ k. absurd (h (p - 1) (omega arith) (omega arith))) (λ k. k)));
}

pub returns : goal.returns
returns c =
    let bd = c.args.board.now in
    let l = c.loop-v.place-items in
    let n = reservoir_count c.args.reservoirs.now in
    let first = c.storage_place-first in
    let long : n ≡ length l = omega (arith, c.loop-v.auto.place-items) in
    let part : first.result + n - first.result ≡ length l = omega (arith, long) in
    rw (put_mid-over bd first.result _ l part, first.ensures, long) (started c.args.reservoirs.now bd l (omega arith) (λ v h. c.loop-v.invariant v (omega arith)))
