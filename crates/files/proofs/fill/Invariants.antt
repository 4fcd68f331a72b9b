-- What is counted is within the buffer, and is what was taken.
use Rattle.std.proofs.Common.{◌≡◌, ◌≤◌, length, take}
use Rattle.std.specs.Io.KnownBytes.{Consumes}
use Rattle.files.proofs.fill.Given as goal

abbrev pub invariant-loop : goal.invariant-loop
invariant-loop g l = (length l.buf ≡ length l.initial.buf) × (l.count ≤ length l.buf) × Consumes (g.F.Read.remaining l.initial.file) (g.F.Read.remaining l.file) (take l.count l.buf)
