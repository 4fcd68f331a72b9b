-- What is turned down of what was lent. Assumes nothing.
use Rattle.std.specs.Prelude.{Option, None, Some, Result, Ok, Err, ⊤, MatchResult, IsOkAnd}
use mathlib.Core.Path.{◌≡◌, refl, ap, ◌∙◌}
use mathlib.Core.Bool.{Bool, true, false}
use mathlib.Core.List.{List}
use Prim.Native.Nat.{ℕ}
use Rattle.rules.specs.declared.Refusal.{Refusal}
use Rattle.rules.specs.declared.Refusal.TheVariants.{Lists, Board}
use Rattle.rules.specs.Answers.{Verdict, Answer, told, or_else, unless}
use Rattle.rules.proofs.Answers.{or-first, or-second, unless-none}
use Rattle.records.specs.Records.{basin_of}
use Rattle.filecheck.specs.Check.{check_of}
use Rattle.boards.specs.Board.{possible}
use Rattle.answers.specs.Answers.{refusal_of, file_refusal, lent_refusal, verdict_answer, settled}

-- ---- results

pub is-ok : (v : Verdict) → refusal_of v ≡ None → v ≡ Ok tt
is-ok (Ok u) e = refl
is-ok (Err r) e = cc

-- a result's answer is what its refusal settles
pub verdict-settled : (v : Verdict) → verdict_answer v ≡ settled (refusal_of v)
unfolding settled
verdict-settled (Ok u) = refl
verdict-settled (Err r) = refl

pub settles : (v : Verdict) (o : Option Answer) → refusal_of v ≡ o → verdict_answer v ≡ settled o
settles v o e = verdict-settled v ∙ ap settled e

-- where of what a result holds only that it is there is kept
pub kept-refusal : {A : Type 0} (r : Result A Refusal) (v : Verdict) (P : A → ⊤ → Type 0) → MatchResult r (λ x. IsOkAnd v (P x)) (λ e. v ≡ Err e) → refusal_of v ≡ refusal_of r
kept-refusal (Ok x) (Ok u) P h = refl
kept-refusal (Ok x) (Err e) P h = absurd h
kept-refusal (Err e) v P h = ap refusal_of h

-- ---- the file

pub no-refusal : (f : List ℕ) → check_of f ≡ Ok tt → file_refusal f ≡ None
unfolding file_refusal
no-refusal f acc = rw acc

pub file-accepted : (f : List ℕ) → file_refusal f ≡ None → check_of f ≡ Ok tt
unfolding file_refusal
file-accepted f e = is-ok (check_of f) e

-- ---- all that is lent

module _ (f : List ℕ) (fits : Bool) (board : List ℕ) where
  -- nothing is turned down: the file is accepted, the lists fit, the board is possible
  pub record Clear : Type 0 where
    pub file-ok : check_of f ≡ Ok tt
    pub lists-ok : fits ≡ true
    pub board-ok : possible (basin_of f) board ≡ true

  pub lent-file : (r : Refusal) → Err r ≡ check_of f → Some (told r) ≡ lent_refusal f fits board
  unfolding lent_refusal file_refusal or_else
  lent-file r e = rw (← e)

  module _ (acc : check_of f ≡ Ok tt) where
    pub lent-unfit : fits ≡ false → Some (told Lists) ≡ lent_refusal f fits board
    unfolding lent_refusal or_else unless
    lent-unfit n = rw (no-refusal f acc, n)

    pub lent-impossible : fits ≡ true → possible (basin_of f) board ≡ false → Some (told Board) ≡ lent_refusal f fits board
    unfolding lent_refusal or_else unless
    lent-impossible fit n = rw (no-refusal f acc, fit, n)

  pub lent_none : Clear → lent_refusal f fits board ≡ None
  unfolding lent_refusal or_else unless
  lent_none k = rw (no-refusal f k.file-ok, k.lists-ok, k.board-ok)

  pub lent-clear : lent_refusal f fits board ≡ None → Clear
  unfolding lent_refusal
  lent-clear e =
      let l = or-second (file_refusal f) _ e in
      record {
        file-ok = file-accepted f (or-first (file_refusal f) _ e);
        lists-ok = unless-none fits Lists (or-first (unless fits Lists) _ l);
        board-ok = unless-none (possible (basin_of f) board) Board (or-second (unless fits Lists) _ l);
      }
