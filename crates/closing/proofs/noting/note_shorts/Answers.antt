use Rattle.std.proofs.Common.{arith, ◌≡◌, ◌∙◌, refl, ap, ℕ, ◌+◌, ◌-◌, ◌<◌, List, length, get_or, get_or-take, get_or-drop, take, drop, Bool, true, false, not, eqb}
use mir.Val.{bool_byte}
use Rattle.general.specs.Sums.{only}
use Rattle.general.specs.Tests.{with_bit}
use Rattle.general.proofs.Tests.{only-le}
use Rattle.general.proofs.Loops.{total-none, total-more}
use Rattle.places.specs.Board.{words_from}
use Rattle.places.specs.Report.{from_river_place}
use Rattle.closing.specs.Noting.{has_reason, reasons_in, CanNote}
use Rattle.closing.proofs.Noted.{Noted, noted-none, noted-at, noted-over}
use Rattle.closing.proofs.noting.note_shorts.Goals as goal

reasons-none : (rp : List ℕ) → 0 ≡ reasons_in 0 rp
unfolding reasons_in
reasons-none rp = total-none _

reasons-more : (rp : List ℕ) (k c q x : ℕ) → c ≡ reasons_in k rp → q ≡ from_river_place k → x ≡ only (not (eqb (get_or rp (q + 2) 0) 0)) 1 → c + x ≡ reasons_in (k + 1) rp
unfolding reasons_in
reasons-more rp k c q x e eq ex = ap (λ (y : ℕ). c + y) (ex ∙ ap (λ (j : ℕ). only (not (eqb (get_or rp (j + 2) 0) 0)) 1) eq) ∙ total-more (λ i. only (has_reason rp i) 1) k c e

-- what a test counts for, as the code adds it
counts : (t : Bool) → bool_byte t ≡ only t 1
counts true = refl
counts false = refl

-- the word as it is read, of twelve bits still
small : (n m i k : ℕ) (bd rp words : List ℕ) → CanNote n m bd rp → i < n → k ≡ n → Noted m i rp (take k (drop words_from bd)) words → get_or words i 0 < 4096
small n m i k bd rp words can h e l = omega (arith, l.others i (omega arith), get_or-take k (drop words_from bd) i 0 (omega arith), get_or-drop words_from bd i 0, can.words i h)

pub loop-i-init : goal.loop-i-init
loop-i-init c = (omega arith, reasons-none c.args.report.now, noted-none _ _ _)

pub put_bit-requires : goal.put_bit-requires
put_bit-requires c =
    let n = c.args.n in
    let l = c.loop-i in
    (omega (arith, c.requires.in-year), omega (arith, small n c.args.m l.i (words_from + n - words_from) c.args.board.now c.args.report.now l.word-items c.requires (omega arith) (omega arith) l.invariant.2))

pub loop-i-preserved : goal.loop-i-preserved
loop-i-preserved c =
    let s = c.args in
    let l = c.loop-i in
    let q = c.line_place in
    let t = not (eqb (get_or s.report.now (q.result + 2) 0) 0) in
    let e = c.from-shorts.ensures ∙ counts t in (
      omega (arith, l.invariant.0, e, only-le t 1),
      reasons-more s.report.now l.i l.shorts q.result _ l.invariant.1 q.ensures e,
      noted-at s.m s.report.now _ l.i c.put_bit.result l.word-items (omega arith) l.invariant.2
          (c.put_bit.ensures ∙ ap (λ (j : ℕ). with_bit (get_or l.word-items l.i 0) s.m (not (eqb (get_or s.report.now (j + 2) 0) 0))) q.ensures),
    )

pub returns : goal.returns
returns c =
    let s = c.args in
    let l = c.loop-i in
    let long : s.n ≡ length l.word-items = omega (arith, l.auto.word-items) in
    let done : l.i ≡ s.n = omega arith in
    let noted = rw done at l.invariant.2 in
    (rw (← done) l.invariant.1, noted-over s.m s.n (words_from + s.n - words_from) s.report.now s.board.now l.word-items long (omega arith) (omega (arith, c.requires.few)) noted)
