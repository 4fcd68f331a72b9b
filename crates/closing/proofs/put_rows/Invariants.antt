use Rattle.closing.specs.Closing.{RowsTold}
use Rattle.closing.proofs.put_rows.Given as goal

abbrev pub invariant-loop-w : goal.invariant-loop-w
invariant-loop-w l = RowsTold l.shape.rights l.w l.river.flow l.river.available l.initial.report l.report
