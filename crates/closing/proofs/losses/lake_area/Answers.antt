use mathlib.Core.Path.{sym, subst, ◌∙◌}
use native.Mathlib.Omega.{arith}
use Prim.Native.Nat.{ℕ}
use Rattle.closing.proofs.Surveyed.{Reached, reached-none, reached-first, ends-between, reached-next, reached-last}
use Rattle.closing.proofs.losses.lake_area.Goals as goal

pub returns-then-storage-low : goal.returns-then-storage-low
returns-then-storage-low c =
    let s = c.args in (
      sym (reached-none s.reservoirs.now s.v s.storage (omega (arith, c.if-storage-low.true, c.from-low.ensures, c.content_at.ensures))),
      omega arith,
    )

pub loop-k-init : goal.loop-k-init
loop-k-init c =
    let s = c.args in
    reached-first s.reservoirs.now s.v s.storage (c.from-low.ensures ∙ c.content_at.ensures) c.if-storage-low.false

pub returns-then-storage-high : goal.returns-then-storage-high
returns-then-storage-high c =
    let s = c.args in
    let l = c.loop-k in (
      c.on_line.ensures.0 ∙ sym (ends-between s.reservoirs.now s.v s.storage l.k (omega arith) l.invariant (omega (arith, c.if-storage-high.true, c.from-high.ensures, c.content_at-in-loop-k.ensures))),
      c.on_line.ensures.1,
    )

pub loop-k-preserved : goal.loop-k-preserved
loop-k-preserved c =
    let s = c.args in
    let l = c.loop-k in
    reached-next s.reservoirs.now s.v s.storage l.k (omega arith) l.invariant (c.from-high.ensures ∙ c.content_at-in-loop-k.ensures) c.if-storage-high.false

pub returns : goal.returns
returns c =
    let s = c.args in
    let l = c.loop-k in (
      c.from.ensures ∙ c.area_at.ensures ∙ sym (reached-last s.reservoirs.now s.v s.storage (subst (λ (k : ℕ). Reached s.reservoirs.now s.v s.storage k l.low) (omega arith) l.invariant)),
      omega (arith, c.from.ensures),
    )
