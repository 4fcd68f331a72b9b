use Prim.Native.Nat.{ℕ, ◌+◌, ◌-◌, ◌*◌, ◌/◌, ◌<◌}
use mathlib.Core.Path.{◌≡◌, ap, ◌∙◌}
use native.Mathlib.Omega.{arith}
use Rattle.rules.specs.Returns.{Part}
use Rattle.general.proofs.Loops.{total-none, total-more}
use Rattle.records.specs.Records.{return_row, return_percent}
use Rattle.returns.specs.Returning.{part_in}
use Rattle.returns.proofs.Shares.{split-le}
use Rattle.returns.proofs.Points.{percents_in, next_small, amount-is, part-is, can-return, gave-none, gave-more, river-after}
use Rattle.returns.proofs.returning.give_points.Goals as goal

pub loop-k-init : goal.loop-k-init
loop-k-init c =
    (omega arith, total-none (return_percent c.args.setting.now.bodies.now.rights.now c.args.back.right), omega arith, λ pattern s. gave-none _ _ _ _ _ _ _ _ c.requires.0.river.within)

pub overflow_add-c : goal.overflow_add-c
overflow_add-c c =
    let l = c.loop-k in
    omega (arith, percents_in c.requires.0 l.k l.c c.from-p.result c.loop-k-test.true l.invariant.1 (c.from-p.ensures ∙ c.return_percent.ensures))

pub percent_of-next-requires : goal.percent_of-next-requires
percent_of-next-requires c =
    let l = c.loop-k in
    (c.requires.0.small, percents_in c.requires.0 l.k l.c c.from-p.result c.loop-k-test.true l.invariant.1 (c.from-p.ensures ∙ c.return_percent.ensures))

pub split-part-requires : goal.split-part-requires
split-part-requires c =
    let o = c.requires.0 in
    let l = c.loop-k in
    let sm = o.points-ok.by_sums c.requires.1 in
    let g = l.invariant.3 sm.0 sm.1 in
    let row_in : c.from-row.result < 64 = omega (arith, c.from-row.ensures, c.return_row.ensures, o.points-ok.rows l.k (omega arith)) in (
      row_in,
      omega (arith, row_in, l.invariant.0),
      record {
        pattern = sm.0;
        by_sums = sm.1;
        small = omega (arith, c.percent_of-next.ensures, next_small o l.k l.c c.from-p.result c.loop-k-test.true l.invariant.1 (c.from-p.ensures ∙ c.return_percent.ensures));
        dues_roomy = record { room = λ j. omega (arith, g.filled j, o.board.room j, o.points-ok.few) };
      },
    )

pub give_share-requires : goal.give_share-requires
give_share-requires c =
    let o = c.requires.0 in
    let l = c.loop-k in
    let sm = o.points-ok.by_sums c.requires.1 in
    let x = c.split-part in
    can-return c.args.setting.now.below.now.rows c.args.setting.now.below.now.downhill l.river.flow l.river.available x.result.at_once c.from-row.result
    (river-after _ _ _ _ _ _ _ _ l.k l.river.flow l.river.available l.board l.deep (l.invariant.3 sm.0 sm.1) (omega (arith, o.points-ok.few)) o.river)
    (omega (arith, c.from-row.ensures, c.return_row.ensures, o.points-ok.rows l.k (omega arith)))
    (omega (arith, c.percent_of-next.ensures, (split-le _ _ _ _ _ x.result sm.1.good.sum_most (x.ensures sm.0 sm.1)).0, next_small o l.k l.c c.from-p.result c.loop-k-test.true l.invariant.1 (c.from-p.ensures ∙ c.return_percent.ensures)))

pub overflow_add-deep : goal.overflow_add-deep
overflow_add-deep c =
    let o = c.requires.0 in
    let l = c.loop-k in
    let sm = o.points-ok.by_sums c.requires.1 in
    let x = c.split-part in
    let x-le = split-le _ _ _ _ _ x.result sm.1.good.sum_most (x.ensures sm.0 sm.1) in
    omega (arith, (l.invariant.3 sm.0 sm.1).lost_most, o.points-ok.few, x-le.1, c.percent_of-next.ensures, next_small o l.k l.c c.from-p.result c.loop-k-test.true l.invariant.1 (c.from-p.ensures ∙ c.return_percent.ensures))

pub overflow_add-c-in-loop-k : goal.overflow_add-c-in-loop-k
overflow_add-c-in-loop-k c =
    let l = c.loop-k in
    omega (arith, percents_in c.requires.0 l.k l.c c.from-p.result c.loop-k-test.true l.invariant.1 (c.from-p.ensures ∙ c.return_percent.ensures))

pub loop-k-preserved : goal.loop-k-preserved
loop-k-preserved c =
    let o = c.requires.0 in
    let i = c.args.back.right in
    let rest = c.args.back.amount in
    let ri = c.args.setting.now.bodies.now.rights.now in
    let l = c.loop-k in
    let p = c.from-p.result in
    let pe = c.from-p.ensures ∙ c.return_percent.ensures in
    let on = c.loop-k-test.true in
    let row = c.from-row.result in
    let re : row ≡ return_row ri i l.k = c.from-row.ensures ∙ c.return_row.ensures in
    let ne = c.percent_of-next.ensures in
    let amount : ℕ = c.percent_of-next.result - l.before in
    let ae : amount ≡ (part_in ri i rest l.k).amount = ap (λ (y : ℕ). y - l.before) ne ∙ ap (λ (y : ℕ). rest * (l.c + p) / 100 - y) l.invariant.2 ∙ amount-is ri i rest l.k l.c p l.invariant.1 pe in
    let q : Part = record { row = row; amount = amount } in
    let x = c.split-part in (
      omega arith,
      omega (arith, pe, total-more (return_percent ri i) l.k l.c l.invariant.1),
      ne,
      λ pattern s. gave-more c.args.setting.now.below.now.rows pattern ri i rest c.args.river.now.flow c.args.river.now.available c.args.board.now
          l.k l.river.flow l.river.available l.board l.deep (l.invariant.3 pattern s) (omega (arith, o.points-ok.few))
          q x.result _ _ _ (part-is ri i rest l.k row amount re ae)
          s.good.sum_most
          (omega (arith, re, o.points-ok.rows l.k (omega (arith, on))))
          (omega (arith, ne, next_small o l.k l.c p on l.invariant.1 pe))
          (x.ensures pattern s)
          c.give_share.ensures,
    )
