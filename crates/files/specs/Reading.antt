-- What the promises of reading cite.
use Rattle.std.specs.Prelude.{ℕ, Result, Ok, Err}
use Rattle.files.specs.declared.ReadError.{ReadError}

-- how many bytes were read, up to the failure where a read failed
abbrev pub bytes_read : Result ℕ ReadError → ℕ
bytes_read (Ok n) = n
bytes_read (Err e) = e.count
