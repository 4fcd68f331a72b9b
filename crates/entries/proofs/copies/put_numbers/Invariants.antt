-- `entries::copies::put_numbers` meets its contract. The loop's invariant: so many numbers are written. Assumes nothing.
use Rattle.std.proofs.Common.{◌≡◌, take}
use Rattle.general.specs.Parts.{over}
use Rattle.entries.specs.Entries.{bytes_of}
use Rattle.entries.proofs.copies.put_numbers.Given as goal

abbrev pub invariant-loop-k : goal.invariant-loop-k
invariant-loop-k l = l.store ≡ over l.initial.store l.start (bytes_of (take l.k l.fn.numbers))
