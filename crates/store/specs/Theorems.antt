-- What is proved of save, recall and drop beyond their promises, each statement on its own, for all bytes and numbers. The proofs stand in
-- proofs/Theorems.antt under the same names, in small letters.
use Rattle.std.specs.Prelude.{◌≡◌, List, [], ◌∷◌, ℕ, ◌<◌, length}
use Rattle.general.specs.Tables.{All}
use Rattle.rules.specs.declared.Refusal.TheVariants.{Name, Full}
use Rattle.rules.specs.Answers.{told}
use Rattle.answers.specs.Answers.{accepted}
use Rattle.places.specs.Board.{board_length}
use Rattle.entries.specs.Entries.{entry_count, name_length, store_length, name_at, board_at, no_name}
use Rattle.store.specs.Calls.{saved, dropped, save_of, recall_of, drop_of}

-- numbers of 64 bits, as a board has them
abbrev pub Words : List ℕ → Type 0
Words board = All (λ x. x < 18_446_744_073_709_551_616) board

-- ---- a refused call changes nothing

pub record RefusedKeeps (s n board : List ℕ) : Type 0 where
  pub save : ((save_of s n board).answer.number ≡ 0 → ⊥) → (save_of s n board).store ≡ s
  pub recall : ((recall_of s n board).answer.number ≡ 0 → ⊥) → (recall_of s n board).board ≡ board
  pub drop : ((drop_of s n).answer.number ≡ 0 → ⊥) → (drop_of s n).store ≡ s

abbrev pub Refused : Type 0
Refused = (s n board : List ℕ) → RefusedKeeps s n board

-- ---- what is recalled is what was saved, to the last unit

abbrev pub RecallAfterSave : Type 0
RecallAfterSave = (s n board lent : List ℕ) → Words board → (save_of s n board).answer.number ≡ 0 → length lent ≡ board_length
    → recall_of (save_of s n board).store n lent ≡ record { answer = accepted; board = board }

-- ---- a save or a drop under another name, accepted or refused, changes no recall of this one, accepted or refused

abbrev pub SaveKeepsOthers : Type 0
SaveKeepsOthers = (s m board n lent : List ℕ) → (m ≡ n → ⊥) → recall_of (save_of s m board).store n lent ≡ recall_of s n lent

abbrev pub DropKeepsOthers : Type 0
DropKeepsOthers = (s m n lent : List ℕ) → (m ≡ n → ⊥) → recall_of (drop_of s m).store n lent ≡ recall_of s n lent

-- so that what was saved can be come back to whatever else is saved and dropped meanwhile

pub data Change : Type 0 where
  save : List ℕ → List ℕ → Change
  drop : List ℕ → Change

abbrev pub changed : List ℕ → Change → List ℕ
changed s (save n board) = (save_of s n board).store
changed s (drop n) = (drop_of s n).store

abbrev pub after_changes : List ℕ → List Change → List ℕ
after_changes s [] = s
after_changes s (c ∷ cs) = after_changes (changed s c) cs

abbrev pub change_name : Change → List ℕ
change_name (save n board) = n
change_name (drop n) = n

abbrev pub ComeBack : Type 0
ComeBack = (s n board lent : List ℕ) → Words board → (save_of s n board).answer.number ≡ 0 → length lent ≡ board_length
    → (cs : List Change) → All (λ (c : Change). change_name c ≡ n → ⊥) cs
    → recall_of (after_changes (save_of s n board).store cs) n lent ≡ record { answer = accepted; board = board }

-- ---- the earlier of two equal names is meant

-- no entry bears the name
pub record Unknown (s n : List ℕ) : Type 0 where
  pub nowhere : (j : ℕ) → j < entry_count → name_at s j ≡ n → ⊥

-- the entry bears the name and none before it does; later ones may
pub record Earliest (s n : List ℕ) (e : ℕ) : Type 0 where
  pub inside : e < entry_count
  pub named : name_at s e ≡ n
  pub before : (j : ℕ) → j < e → name_at s j ≡ n → ⊥

-- a store, a name that may be used and a board
pub record Usable (s n b : List ℕ) : Type 0 where
  pub store : length s ≡ store_length
  pub name : length n ≡ name_length
  pub board : length b ≡ board_length
  pub used : n ≡ no_name → ⊥

pub record Means (s n board : List ℕ) (e : ℕ) : Type 0 where
  pub save : save_of s n board ≡ record { answer = accepted; store = saved s e n board }
  pub recall : recall_of s n board ≡ record { answer = accepted; board = board_at s e }
  pub drop : drop_of s n ≡ record { answer = accepted; store = dropped s e }

abbrev pub EarlierMeant : Type 0
EarlierMeant = (s n board : List ℕ) → Usable s n board → (e : ℕ) → Earliest s n e → Means s n board e

-- ---- a save writes one entry, its name and its numbers; a drop zeroes one name, and the numbers stay

pub record OneEntry (s s' : List ℕ) (e : ℕ) : Type 0 where
  pub length : length s' ≡ length s
  pub names : (j : ℕ) → j < entry_count → (j ≡ e → ⊥) → name_at s' j ≡ name_at s j
  pub boards : (j : ℕ) → j < entry_count → (j ≡ e → ⊥) → board_at s' j ≡ board_at s j

pub record Kept (s n board : List ℕ) (e : ℕ) (s' : List ℕ) : Type 0 where
  pub others : OneEntry s s' e
  pub name : name_at s' e ≡ n
  pub numbers : board_at s' e ≡ board

abbrev pub SavedEntry : Type 0
SavedEntry = (s n board : List ℕ) (e : ℕ) → Usable s n board → e < entry_count → Words board → Kept s n board e (saved s e n board)

pub record Freed (s : List ℕ) (e : ℕ) (s' : List ℕ) : Type 0 where
  pub others : OneEntry s s' e
  pub name : name_at s' e ≡ no_name
  pub numbers : board_at s' e ≡ board_at s e

abbrev pub DroppedEntry : Type 0
DroppedEntry = (s : List ℕ) (e : ℕ) → length s ≡ store_length → e < entry_count → Freed s e (dropped s e)

-- ---- a new name uses the earliest empty entry; where there is none it is refused

abbrev pub NewName : Type 0
NewName = (s n board : List ℕ) → Usable s n board → Unknown s n → (e : ℕ) → Earliest s no_name e → save_of s n board ≡ record { answer = accepted; store = saved s e n board }

abbrev pub FullStore : Type 0
FullStore = (s n board : List ℕ) → Usable s n board → Unknown s n → Unknown s no_name → save_of s n board ≡ record { answer = told Full; store = s }

-- ---- after a drop its place serves again: where no other was empty, the next new name takes it

abbrev pub ServesAgain : Type 0
ServesAgain = (s n m board : List ℕ) → Usable s n board → Usable s m board → Unknown s no_name → Unknown s m → (e : ℕ) → Earliest s n e
    → save_of (drop_of s n).store m board ≡ record { answer = accepted; store = saved (dropped s e) e m board }

-- the earliest empty entry after a drop is the one dropped, or the one before it that was empty already
pub record EmptyAfter (s : List ℕ) (e : ℕ) (s' : List ℕ) : Type 0 where
  pub here : ((j : ℕ) → j < e → name_at s j ≡ no_name → ⊥) → Earliest s' no_name e
  pub earlier : (d : ℕ) → d < e → Earliest s no_name d → Earliest s' no_name d

abbrev pub EmptyAfterDrop : Type 0
EmptyAfterDrop = (s n board : List ℕ) → Usable s n board → (e : ℕ) → Earliest s n e → EmptyAfter s e (drop_of s n).store

-- ---- a dropped name is gone, or its second entry is meant

pub record Second (s n : List ℕ) (e j : ℕ) : Type 0 where
  pub later : e < j
  pub inside : j < entry_count
  pub named : name_at s j ≡ n
  pub between : (k : ℕ) → e < k → k < j → name_at s k ≡ n → ⊥

abbrev pub SecondMeant : Type 0
SecondMeant = (s n board : List ℕ) → Usable s n board → (e j : ℕ) → Earliest s n e → Second s n e j → recall_of (drop_of s n).store n board ≡ record { answer = accepted; board = board_at s j }

abbrev pub GoneAfterDrop : Type 0
GoneAfterDrop = (s n board : List ℕ) → Usable s n board → (e : ℕ) → Earliest s n e → ((k : ℕ) → e < k → k < entry_count → name_at s k ≡ n → ⊥)
    → recall_of (drop_of s n).store n board ≡ record { answer = told Name; board = board }
