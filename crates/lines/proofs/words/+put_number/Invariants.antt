-- The measure is the number itself, which falls with each division.
use Rattle.lines.proofs.words.+put_number.Given as goal

abbrev pub decreases-put_number : goal.decreases-put_number
decreases-put_number l = l.n
