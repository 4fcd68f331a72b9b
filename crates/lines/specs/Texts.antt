-- A text as it is put together: a lent list, and how many bytes of it are written.
use Rattle.std.specs.Prelude.{List, ℕ, ◌-◌, length, take}
use Rattle.lines.specs.declared.text.Text.{Text}

-- the bytes written
unfoldable pub bytes_of : Text → List ℕ
bytes_of t = take t.len t.list.now

-- for how many more there is room
unfoldable pub room_of : Text → ℕ
room_of t = length t.list.now - t.len
