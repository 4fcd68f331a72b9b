use Rattle.std.proofs.Common.{arith, ◌≡◌, ◌∙◌, refl, ap, ℕ, ◌+◌, ◌*◌, ◌/◌, ◌<◌, length, get_or, get_or-take, take}
use borrow.Rule.Slice.PartMut.{put_mid}
use lib.Seq.{length-take-le}
use Rattle.std.proofs.lemmas.List.{set-get_or}
use Rattle.returns.proofs.Shares.{floor_le, lagged-more, split_done, split-placed}
use Rattle.returns.proofs.split.split_months.Goals.{else-loop-k-test, then-loop-k-test+then-sums-k}
use Rattle.returns.proofs.split.split_months.Goals as goal

pub overflow_add-due : goal.overflow_add-due
overflow_add-due c =
    let l = c.loop-k in
    let s = c.requires.1 in
    let sums = c.args.sums.now in
    let k : l.k + 1 < 12 = omega (arith, length-take-le 11 c.args.dues.now c.requires.0) in
    let e = c.percent_of-next.ensures ∙ ap (λ (x : ℕ). c.args.a * x / 100) c.from-in-loop-k.ensures in
    omega (
      arith,
      (l.invariant.1 s.pattern s.by_sums).over l.k (omega arith),
      get_or-take 11 c.args.dues.now l.k 0 (omega arith),
      s.dues_roomy.room l.k,
      e,
      s.small,
      floor_le s.pattern sums s.by_sums c.args.a (l.k + 1) k,
    )

pub loop-k-preserved : goal.loop-k-preserved
loop-k-preserved c =
    let a = c.args.a in
    let l = c.loop-k in
    let k : l.k < 11 = omega (arith, length-take-le 11 c.args.dues.now c.requires.0) in
    let e = c.percent_of-next.ensures ∙ ap (λ (x : ℕ). a * x / 100) c.from-in-loop-k.ensures in
    (e, λ pattern s. lagged-more pattern a 0 (take 11 c.args.dues.now) c.args.sums.now s l.k l.due-items (l.invariant.1 pattern s) l.k l.before _ (omega arith) k (omega arith) l.invariant.0 e)

pub returns : goal.returns
returns c =
    let a = c.args.a in
    let l = c.loop-k in
    let sums = c.args.sums.now in
    let dues = c.args.dues.now in
    let eleven : length (take 11 dues) ≡ 11 = length-take-le 11 dues c.requires.0 in
    let e = c.percent_of-at_once.ensures ∙ ap (λ (x : ℕ). a * x / 100) c.from.ensures in
    let last : l.k ≡ 11 → get_or sums l.k 0 ≡ get_or sums 11 0 = λ z. ap (λ (j : ℕ). get_or sums j 0) z in
    let same : get_or sums l.k 0 ≡ get_or sums 11 0 = elim c.loop-k-test.branch [ else-loop-k-test w ↦ last (omega (arith, w.loop-k-test, eleven)) | then-loop-k-test+then-sums-k w ↦ w.if-sums-k.true ] in
    let placed : c.loop-k-test.dues ≡ put_mid 0 11 dues l.due-items = elim c.loop-k-test.branch [ else-loop-k-test w ↦ w.dues-is | then-loop-k-test+then-sums-k w ↦ w.dues-is ∙ ap (put_mid 0 11 dues) (set-get_or l.due-items l.k 0) ] in
    λ pattern s. rw placed (split-placed pattern a 0 11 dues l.due-items (omega (arith, c.requires.0)) refl (omega (arith, l.auto.due-items, eleven))
    (split_done pattern a 0 (take 11 dues) sums s l.k l.due-items (l.invariant.1 pattern s) (omega (arith, eleven)) same _ l.before e l.invariant.0 refl))
