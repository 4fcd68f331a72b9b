-- The steps of a program that lists: what each promises, and that their texts, one after another, are the listing, however the months file is
-- cut into blocks when it is read. proofs/Steps and proofs/Blocks prove it.
use Rattle.std.specs.Prelude.{Bool, true, false, List, [], ◌∷◌, ◌++◌, ◌≡◌, ℕ, ◌≤◌, length, take, drop, Some, Ok}
use Rattle.rules.specs.Basin.{Basin}
use Rattle.rules.specs.Answers.{Answer}
use Rattle.filecheck.specs.Check.{check_of}
use Rattle.records.specs.Records.{basin_of}
use Rattle.answers.specs.Answers.{file_refusal}
use Rattle.listing.specs.Listing.{refusal_line, header}
use Rattle.listing.specs.Run.{sheet_bytes, Standing, Step, step_of, begin, listing_of}

-- ---- one step

-- What a step promises: text, board, month count and whether the run goes on, as one equation.
abbrev pub StepMeets : Basin → Standing → List ℕ → Step → Type 0
StepMeets b s part o = o ≡ step_of b s part

-- ---- step after step

-- a place in a run: how it stands, what is left of its bytes, and whether it goes on
pub record Place : Type 0 where
  pub standing : Standing
  pub left : List ℕ
  pub more : Bool

-- A step at a place of a run that goes on is lent the next part. Only where the file ends with these bytes (last) may that be less than a sheet.
pub record Made (b : Basin) (last : Bool) (from : Place) (o : Step) : Type 0 where
  pub going : from.more ≡ true
  pub whole : last ≡ false → sheet_bytes b ≤ length from.left
  pub meets : StepMeets b from.standing (take (sheet_bytes b) from.left) o

-- the place after it
abbrev pub after : Basin → Place → Step → Place
after b from o = record { standing = o.standing; left = drop (sheet_bytes b) from.left; more = o.more }

-- The steps made from one place to another: each stands where the one before left the run.
abbrev pub Walk : Basin → Bool → Place → List Step → Place → Type 0
Walk b last from [] to = from ≡ to
Walk b last from (o ∷ os) to = Made b last from o × Walk b last (after b from o) os to

-- their texts, one after another
unfoldable pub texts_of : List Step → List ℕ
texts_of [] = []
texts_of (o ∷ os) = o.text ++ texts_of os

-- ---- block after block

-- A call of a program that reads in blocks: the bytes that it lends, whether they are the file's last, the steps made on them, and the place
-- that these lead to.
pub record Call : Type 0 where
  pub block : List ℕ
  pub last : Bool
  pub steps : List Step
  pub to : Place

-- A call lends the beginning of what is left of the file; later is what follows it there.
pub record Called (b : Basin) (from : Place) (later : List ℕ) (c : Call) : Type 0 where
  pub lent : from.left ≡ c.block ++ later
  pub none_later : c.last ≡ true → later ≡ []
  pub walk : Walk b c.last (record { standing = from.standing; left = c.block; more = from.more }) c.steps c.to

-- A list of calls, each with what follows its block. What one leaves of its block the next is lent again.
abbrev pub Calls : Basin → Place → List (Call × List ℕ) → Place → Type 0
Calls b from [] to = from ≡ to
Calls b from (c ∷ cs) to =
    Called b from c.1 c.0
    × Calls b (record { standing = c.0.to.standing; left = c.0.to.left ++ c.1; more = c.0.to.more }) cs to

-- all their steps
unfoldable pub steps_of : List (Call × List ℕ) → List Step
steps_of [] = []
steps_of (c ∷ cs) = c.0.steps ++ steps_of cs

-- ---- the listing

-- where the run of an accepted file begins
abbrev pub start : List ℕ → List ℕ → Place
start f months = record { standing = begin (basin_of f); left = months; more = true }

-- Of an accepted file: the header and the texts of the steps, from the fresh board to where the run ends, are the listing.
abbrev pub StepsList : Type 0
StepsList = (f months : List ℕ) → check_of f ≡ Ok tt → (os : List Step) (to : Place) → Walk (basin_of f) true (start f months) os to → to.more ≡ false
    → header ++ texts_of os ≡ listing_of f months

-- The same of the calls of a program that reads in blocks, whatever their lengths.
abbrev pub CallsList : Type 0
CallsList = (f months : List ℕ) → check_of f ≡ Ok tt → (cs : List (Call × List ℕ)) (to : Place) → Calls (basin_of f) (start f months) cs to → to.more ≡ false
    → header ++ texts_of (steps_of cs) ≡ listing_of f months

-- Of a file that is turned down: the header and the refusal are.
abbrev pub RefusalLists : Type 0
RefusalLists = (f months : List ℕ) (a : Answer) → file_refusal f ≡ Some a → header ++ refusal_line a ≡ listing_of f months
