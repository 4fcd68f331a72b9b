use Rattle.std.proofs.lemmas.List.Edits.{fill_by_more}
use Rattle.std.proofs.Common.{List, ◌≡◌, ℕ, suc, ◌+◌, ◌*◌, ◌<◌, get_or, ap, ◌∙◌, add-one, arith}
use Rattle.general.specs.Sums.{up_to}
use Rattle.general.proofs.Loops.{total-none, total-more}
use Rattle.general.proofs.Sums.{up_to-le}
use Rattle.general.proofs.Tables.{tab-at, tab-filled}
use Rattle.numbers.specs.Bytes.{byte_at}
use Rattle.records.specs.Records.{percent_at, pattern_of}
use Rattle.records.specs.Table.{sums_of}
use Rattle.records.proofs.patterns.running_sums.Goals as goal

percent-is : (s : List ℕ) (p k : ℕ) → k < 12 → get_or (pattern_of s p) k 0 ≡ byte_at s (12 * p + k)
unfolding pattern_of percent_at
percent-is s p k h = tab-at (percent_at s p) 12 k 0 h

pub loop-k-init : goal.loop-k-init
loop-k-init c = (total-none _, λ j h. absurd (omega arith))

pub overflow_add-so_far-in-loop-k : goal.overflow_add-so_far-in-loop-k
overflow_add-so_far-in-loop-k c =
    let s = c.args.patterns.now in
    let p = c.args.p in
    let l = c.loop-k in
    omega (arith, percent-is s p l.k (omega arith), total-more (λ j. get_or (pattern_of s p) j 0) l.k l.so_far l.invariant.0, up_to-le (pattern_of s p) (l.k + 1), c.requires.1)

pub loop-k-preserved : goal.loop-k-preserved
loop-k-preserved c =
    let s = c.args.patterns.now in
    let p = c.args.p in
    let l = c.loop-k in
    let e : l.so_far + byte_at s (12 * p + l.k) ≡ up_to (pattern_of s p) (l.k + 1) = omega (arith, percent-is s p l.k (omega arith), total-more (λ j. get_or (pattern_of s p) j 0) l.k l.so_far l.invariant.0) in
    (e, rw (e ∙ ap (up_to (pattern_of s p)) (add-one l.k)) (fill_by_more (λ j. up_to (pattern_of s p) (suc j)) l.sum-items l.k 0 (omega arith) l.invariant.1))

pub returns : goal.returns
unfolding sums_of
returns c = let l = c.loop-k in tab-filled _ l.sum-items 12 0 c.loop-k-test.array_long (λ k h. l.invariant.1 k (omega arith))
