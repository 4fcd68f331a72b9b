-- A read adds to the front of the buffer, and one that was interrupted leaves it.
use Rattle.std.proofs.Common.{rules, ◌-◌, length, le_refl, subst, sym}
use Rattle.std.proofs.lemmas.Slice.{take-put_mid_below}
use Rattle.std.specs.Io.KnownBytes.{Consumes}
use Rattle.std.proofs.KnownBytes.{Consumes-trans, Consumes-kept}
use Rattle.files.proofs.Parts.{front_and_read}
use Rattle.files.proofs.fill.Goals as goal
use Rattle.files.proofs.fill.Goals.{in-Ok, in-Err+else-ne}

pub loop-preserved : goal.loop-preserved
loop-preserved g c =
    let old = c.loop in
    elim c.match-read.branch [
      | in-Ok w ↦ rw w.count-is (
        search rules,
        search rules,
        subst (Consumes _ _) (front_and_read old.count (length old.buf - old.count) w.in-Ok.n old.buf c.read.new.buf old.invariant.1 w.in-Ok.ensures.bound.0) (Consumes-trans _ _ _ _ _ old.invariant.2 w.in-Ok.ensures.bytes.0),
      )
      | in-Err+else-ne w ↦ rw w.count-is (
        search rules,
        search rules,
        subst (Consumes _ _) (sym (take-put_mid_below _ _ _ _ _ (le_refl _) old.invariant.1)) (Consumes-kept _ _ _ _ old.invariant.2 w.in-Err.ensures.bytes),
      )
    ]
