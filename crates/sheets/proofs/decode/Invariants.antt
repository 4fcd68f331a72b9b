-- `sheets::decode` meets its contract. The loop's invariant: the numbers so far are those of the sheet. Assumes nothing.
use Rattle.std.proofs.Common.{◌≡◌, ℕ, ◌*◌, ◌<◌, get_or}
use Rattle.numbers.specs.Bytes.{le32_at}
use Rattle.sheets.proofs.decode.Given as goal

abbrev pub invariant-loop-row : goal.invariant-loop-row
invariant-loop-row l = (k : ℕ) → k < l.row → get_or l.runoff k 0 ≡ le32_at l.bytes (4 * k)
