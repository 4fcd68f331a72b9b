use Rattle.std.proofs.Common.{◌≡◌, ◌∙◌, ap, [], replicate, arith, rules, ℕ, length}
use Rattle.general.proofs.Fill.{fill_front}
use Rattle.records.specs.Records.{pattern_count}
use Rattle.records.specs.Table.{sixteen_sums}
use Rattle.records.proofs.patterns.add_up.Goals as goal

pub returns : goal.returns
unfolding sixteen_sums
returns c =
    let l = c.loop-p in
    let long : length c.args.table.now ≡ 16 = omega arith in
    let zeros : c.fill.new.self ≡ replicate 16 (replicate 12 0) = c.fill.ensures.after (λ y e. search rules) ∙ ap (λ (k : ℕ). replicate k (replicate 12 0)) long in
    let n = pattern_count c.args.patterns.now in
    fill_front _ (replicate 12 0) [] 16 n l.sums-items _ c.requires.few zeros l.auto.sums-items (λ k h. l.invariant k (omega arith))
