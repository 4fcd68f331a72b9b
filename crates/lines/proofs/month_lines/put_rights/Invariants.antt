-- The loop's invariant: the lines of the rights passed are added, at most 126 bytes each. Assumes nothing.
use Prim.Native.Nat.{◌*◌, ◌≤◌}
use Rattle.records.specs.Records.{rights_of}
use Rattle.listing.specs.Listing.{right_lines}
use Rattle.lines.specs.Putting.{Put}
use Rattle.lines.proofs.month_lines.put_rights.Given as goal

abbrev pub invariant-loop-i : goal.invariant-loop-i
invariant-loop-i l = (l.i ≤ l.n) × Put (126 * l.i) (right_lines l.month (rights_of l.rights) l.report l.i) l.initial.text l.text
