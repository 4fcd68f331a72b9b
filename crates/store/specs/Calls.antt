-- Save, recall and drop, for any bytes and any numbers: the answer and what is left (02, No. 7). A refused call leaves everything as it was.
use Rattle.std.specs.Prelude.{Bool, not, List, ℕ, eqb, length, Option, None, Some}
use Rattle.general.specs.Parts.{over}
use Rattle.general.specs.Tests.{◌and◌}
use Rattle.rules.specs.declared.Refusal.{Refusal}
use Rattle.rules.specs.declared.Refusal.TheVariants.{Lists, Name, Full}
use Rattle.rules.specs.Answers.{Answer, told, or_else, unless}
use Rattle.boards.specs.Board.{board_fits}
use Rattle.answers.specs.Answers.{accepted}
use Rattle.entries.specs.Entries.{name_length, name_start, board_start, store_length, board_at, bytes_of, same_name, no_name, first_named, place_for}

-- ---- what is turned down, in this order: 6, 11, 12

-- 6: a store or a name of another length
unfoldable pub store_fits : List ℕ → List ℕ → Bool
store_fits s n = eqb (length s) store_length and eqb (length n) name_length

-- 11: the name of an empty entry
unfoldable pub name_refusal : Bool → List ℕ → Option Answer
name_refusal fits n = or_else (unless fits Lists) (unless (not (same_name n no_name)) Name)

-- what a call comes to: a refusal, or the entry that is meant
pub data Meant : Type 0 where
  refused : Answer → Meant
  entry : ℕ → Meant

-- what was turned down before the look-up; else the entry that was found; else, where none was, this cause
unfoldable pub meant_by : Option Answer → Option ℕ → Refusal → Meant
meant_by (Some a) found cause = refused a
meant_by None None cause = refused (told cause)
meant_by None (Some e) cause = entry e

-- 12: a new name and no empty entry
unfoldable pub save_means : List ℕ → List ℕ → List ℕ → Meant
save_means s n board = meant_by (name_refusal (store_fits s n and board_fits board) n) (place_for s n) Full

-- 11: a name that is not there
unfoldable pub recall_means : List ℕ → List ℕ → List ℕ → Meant
recall_means s n board = meant_by (name_refusal (store_fits s n and board_fits board) n) (first_named s n) Name

-- the same where no board is lent, as to a drop
unfoldable pub name_means : List ℕ → List ℕ → Meant
name_means s n = meant_by (name_refusal (store_fits s n) n) (first_named s n) Name

-- ---- save

pub record Stored : Type 0 where
  pub answer : Answer
  pub store : List ℕ

-- an entry with a name and a board
unfoldable pub saved : List ℕ → ℕ → List ℕ → List ℕ → List ℕ
saved s e n board = over (over s (name_start e) n) (board_start e) (bytes_of board)

unfoldable pub save_by : Meant → List ℕ → List ℕ → List ℕ → Stored
save_by (refused a) s n board = record { answer = a; store = s }
save_by (entry e) s n board = record { answer = accepted; store = saved s e n board }

unfoldable pub save_of : List ℕ → List ℕ → List ℕ → Stored
save_of s n board = save_by (save_means s n board) s n board

-- ---- recall

pub record Recalled : Type 0 where
  pub answer : Answer
  pub board : List ℕ

unfoldable pub recall_by : Meant → List ℕ → List ℕ → Recalled
recall_by (refused a) s board = record { answer = a; board = board }
recall_by (entry e) s board = record { answer = accepted; board = board_at s e }

unfoldable pub recall_of : List ℕ → List ℕ → List ℕ → Recalled
recall_of s n board = recall_by (recall_means s n board) s board

-- ---- drop: the name alone is zeroed

unfoldable pub dropped : List ℕ → ℕ → List ℕ
dropped s e = over s (name_start e) no_name

unfoldable pub drop_by : Meant → List ℕ → Stored
drop_by (refused a) s = record { answer = a; store = s }
drop_by (entry e) s = record { answer = accepted; store = dropped s e }

unfoldable pub drop_of : List ℕ → List ℕ → Stored
drop_of s n = drop_by (name_means s n) s

-- ---- the same as the calls give it: what they answer, and what they leave

abbrev pub stored : Answer → List ℕ → Stored
stored a s = record { answer = a; store = s }

abbrev pub recalled : Answer → List ℕ → Recalled
recalled a board = record { answer = a; board = board }
