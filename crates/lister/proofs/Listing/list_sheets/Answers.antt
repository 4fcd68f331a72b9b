use mathlib.Core.Path.{◌∙◌}
use Prim.Native.Nat.{◌+◌}
use native.Mathlib.Omega.{arith}
use borrow.Author.Rules.{rules}
use Rattle.lister.proofs.Cutting.{some_bytes, sofar-none, cut, sofar-more, sheets-ended}
use Rattle.lister.proofs.Listing.list_sheets.Goals as goal

pub chunks_exact-sheet-items-requires : goal.chunks_exact-sheet-items-requires
chunks_exact-sheet-items-requires c = omega (arith, some_bytes c.args.block.now c.args.self.now c.requires, c.sheet_size-size.ensures)

pub loop-sheet-init : goal.loop-sheet-init
loop-sheet-init c = (search rules, search rules, sofar-none c.args.block.now c.args.self.now c.requires)

pub loop-sheet-init-derived : goal.loop-sheet-init-derived
loop-sheet-init-derived c = rw c.into_iter-sheet-iterator.ensures.into_iter_gives (omega (arith, c.chunks_exact-sheet-items.ensures.size, some_bytes c.args.block.now c.args.self.now c.requires, c.sheet_size-size.ensures), tt)

pub returns-then-not-self : goal.returns-then-not-self
returns-then-not-self c =
    let l = c.loop-sheet in
    let i = l.invariant in
    let e = c.in-Some.ensures.steps in
    sheets-ended c.args.block.now c.args.self.now c.requires l.self l.used i.2
    (cut i.2.listed.used i.1 e.1.0 (e.1.1 ∙ i.0 ∙ c.sheet_size-size.ensures) (omega (arith, c.sheet_size-size.ensures))) (omega (arith, c.sheet_size-size.ensures)) _ c.list_part.ensures

pub loop-sheet-preserved : goal.loop-sheet-preserved
loop-sheet-preserved c =
    let l = c.loop-sheet in
    let i = l.invariant in
    let e = c.in-Some.ensures.steps in
    let k = cut {v = l.used + c.sheet_size-size.result} i.2.listed.used i.1 e.1.0 (e.1.1 ∙ i.0 ∙ c.sheet_size-size.ensures) (omega (arith, c.sheet_size-size.ensures)) in
    (e.0 ∙ i.0, k.later, sofar-more c.args.block.now c.args.self.now c.requires l.self l.used i.2 k (omega (arith, c.sheet_size-size.ensures)) _ c.list_part.ensures c.if-not-self.false)
