use Rattle.std.proofs.Common.{◌≡◌, ◌∙◌, ap, arith, rules, ℕ, length, replicate}
use Rattle.general.proofs.Fill.{fill_front}
use Rattle.records.specs.Records.{rows_of}
use Rattle.records.specs.Table.{table_of}
use Rattle.records.proofs.Rows.{rows_are}
use Rattle.records.proofs.network.rows_below.Goals as goal

pub returns : goal.returns
unfolding table_of
returns c =
    let s = c.args.stations.now in
    let l = c.loop-row in
    let long : length c.args.below.now ≡ 64 = omega arith in
    let none : c.fill.new.self ≡ replicate 64 255 = c.fill.ensures.after (λ y e. search rules) ∙ ap (λ (k : ℕ). replicate k 255) long in
    rw (rows_are s) (fill_front _ 255 0 64 (rows_of s) l.place-items _ (omega arith) none l.auto.place-items (λ k h. l.invariant k (omega arith)))
