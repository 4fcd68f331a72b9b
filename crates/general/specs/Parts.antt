-- A list with a part of it written over.
use Rattle.std.specs.Prelude.{List, ◌++◌, ℕ, ◌+◌, length, take, drop}

-- the list s with v in place of as many elements from `at` on
unfoldable pub over : List ℕ → ℕ → List ℕ → List ℕ
over s at v = take at s ++ v ++ drop (at + length v) s
