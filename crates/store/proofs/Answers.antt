-- Each answer of save, recall and drop, case by case. Assumes nothing.
use Rattle.std.specs.Prelude.{Option, None, Some, Result, Err, ok_or}
use mathlib.Core.Path.{◌≡◌, refl, sym, ap, ◌∙◌}
use mathlib.Core.Bool.{Bool, true, false, not}
use mathlib.Core.List.{List}
use Prim.Native.Nat.{ℕ}
use native.Mathlib.Omega.{arith}
use lib.Dec.{eqb}
use lib.ListN.{length}
use Rattle.general.specs.Tests.{◌and◌}
use Rattle.general.proofs.Tests.{eqb-other, eqb_same, and-of, and-true, both_of, eq_of}
use Rattle.general.proofs.Loops.{and_no, and-not}
use Rattle.rules.specs.declared.Refusal.{Refusal}
use Rattle.rules.specs.declared.Refusal.TheVariants.{Lists, Name, Full}
use Rattle.rules.specs.Answers.{Answer, told, or_else, unless}
use Rattle.places.specs.Board.{board_length}
use Rattle.boards.specs.Board.{board_fits}
use Rattle.answers.specs.Answers.{accepted}
use Rattle.entries.specs.Entries.{name_length, store_length, board_at, no_name, same_name, first_named, place_for}
use Rattle.store.specs.Calls.{store_fits, name_refusal, Meant, refused, entry, meant_by, save_means, recall_means, name_means, saved, save_by, save_of, recall_by, recall_of, dropped, drop_by, drop_of, stored, recalled}

-- ---- lengths

-- the lists of a call that is not refused for them
pub record Fitting (s n : List ℕ) (fits : Bool) : Type 0 where
  pub store : length s ≡ store_length
  pub name : length n ≡ name_length
  pub other : fits ≡ true

module _ (s n : List ℕ) (fits : Bool) where
  pub other_length : (length s ≡ store_length → ⊥) → store_fits s n ≡ false
  unfolding store_fits
  other_length h = and_no (eqb (length n) name_length) (eqb-other (length s) store_length h)

  pub other-store : (length s ≡ store_length → ⊥) → (store_fits s n and fits) ≡ false
  other-store h = and_no fits (other_length h)

  pub other-list : fits ≡ false → (store_fits s n and fits) ≡ false
  other-list h = and-not (store_fits s n) h

  pub all-fit : Fitting s n fits → (store_fits s n and fits) ≡ true
  unfolding store_fits
  all-fit h = and-of (and-of (ap (λ (k : ℕ). eqb k store_length) h.store) (ap (λ (k : ℕ). eqb k name_length) h.name)) h.other

  pub fitting : (store_fits s n and fits) ≡ true → Fitting s n fits
  unfolding store_fits
  fitting e =
      let f = both_of e in
      let g = both_of f.0 in
      record { store = eq_of g.0; name = eq_of g.1; other = f.1 }

  -- where store and list have their lengths, the name's is left to judge
  pub judged : length s ≡ store_length → fits ≡ true → name_refusal (eqb (length n) name_length) n ≡ name_refusal (store_fits s n and fits) n
  unfolding store_fits ◌and◌
  judged h f = ap (λ (t : Bool). name_refusal t n) (sym
      (ap (λ (t : Bool). store_fits s n and t) f ∙ and-true (store_fits s n)
      ∙ ap (λ (k : ℕ). eqb k store_length and eqb (length n) name_length) h
      ∙ ap (λ (t : Bool). t and eqb (length n) name_length) (eqb_same store_length)))

-- ---- what is turned down before the look-up

module _ (t : Bool) (n : List ℕ) where
  pub name-unfit : t ≡ false → Some (told Lists) ≡ name_refusal t n
  unfolding name_refusal or_else unless
  name-unfit e = rw e

  pub name-empty : t ≡ true → same_name n no_name ≡ true → Some (told Name) ≡ name_refusal t n
  unfolding name_refusal or_else unless
  name-empty e z = rw (e, z)

  pub name-none : t ≡ true → same_name n no_name ≡ false → name_refusal t n ≡ None
  unfolding name_refusal or_else unless
  name-none e z = rw (e, z)

-- by its two tests: refused with a number, or both are kept
pub by_name : (t : Bool) (n : List ℕ) (P : Option Answer → Type 0) → ((a : Answer) → (a.number ≡ 0 → ⊥) → P (Some a)) → (t ≡ true → same_name n no_name ≡ false → P None) → P (name_refusal t n)
unfolding name_refusal or_else unless
by_name t n P down kept = go t (same_name n no_name) kept
  where
    go : (u z : Bool) → (u ≡ true → z ≡ false → P None) → P (or_else (unless u Lists) (unless (not z) Name))
    go false z k = down (told Lists) (λ e. omega (arith, e))
    go true true k = down (told Name) (λ e. omega (arith, e))
    go true false k = k refl refl

-- ---- what a call comes to

module _ (o : Option Answer) (found : Option ℕ) (cause : Refusal) where
  meant-down : (a : Answer) → o ≡ Some a → meant_by o found cause ≡ refused a
  unfolding meant_by
  meant-down a e = rw e

  meant-none : o ≡ None → found ≡ None → meant_by o found cause ≡ refused (told cause)
  unfolding meant_by
  meant-none e f = rw (e, f)

  meant-some : (k : ℕ) → o ≡ None → found ≡ Some k → meant_by o found cause ≡ entry k
  unfolding meant_by
  meant-some k e f = rw (e, f)

module _ (s n b : List ℕ) where
  abbrev before : Option Answer
  before = name_refusal (store_fits s n and board_fits b) n

  save-by : (v : Meant) → save_means s n b ≡ v → save_by v s n b ≡ save_of s n b
  unfolding save_of
  save-by v e = ap (λ (x : Meant). save_by x s n b) (sym e)

  recall-by : (v : Meant) → recall_means s n b ≡ v → recall_by v s b ≡ recall_of s n b
  unfolding recall_of
  recall-by v e = ap (λ (x : Meant). recall_by x s b) (sym e)

  pub save-down : (a : Answer) → before ≡ Some a → record { answer = a; store = s } ≡ save_of s n b
  unfolding save_means save_by
  save-down a e = save-by (refused a) (meant-down before (place_for s n) Full a e)

  pub recall-down : (a : Answer) → before ≡ Some a → record { answer = a; board = b } ≡ recall_of s n b
  unfolding recall_means recall_by
  recall-down a e = recall-by (refused a) (meant-down before (first_named s n) Name a e)

  module _ (clear : before ≡ None) where
    pub save-full : place_for s n ≡ None → record { answer = told Full; store = s } ≡ save_of s n b
    unfolding save_means save_by
    save-full e = save-by (refused (told Full)) (meant-none before (place_for s n) Full clear e)

    pub save-made : (e : ℕ) → place_for s n ≡ Some e → record { answer = accepted; store = saved s e n b } ≡ save_of s n b
    unfolding save_means save_by
    save-made e g = save-by (entry e) (meant-some before (place_for s n) Full e clear g)

    pub recall-none : first_named s n ≡ None → record { answer = told Name; board = b } ≡ recall_of s n b
    unfolding recall_means recall_by
    recall-none e = recall-by (refused (told Name)) (meant-none before (first_named s n) Name clear e)

    pub recall-made : (e : ℕ) → first_named s n ≡ Some e → record { answer = accepted; board = board_at s e } ≡ recall_of s n b
    unfolding recall_means recall_by
    recall-made e g = recall-by (entry e) (meant-some before (first_named s n) Name e clear g)

module _ (s n : List ℕ) where
  abbrev before-drop : Option Answer
  before-drop = name_refusal (store_fits s n) n

  drop-by : (v : Meant) → name_means s n ≡ v → drop_by v s ≡ drop_of s n
  unfolding drop_of
  drop-by v e = ap (λ (x : Meant). drop_by x s) (sym e)

  pub drop-down : (a : Answer) → before-drop ≡ Some a → record { answer = a; store = s } ≡ drop_of s n
  unfolding name_means drop_by
  drop-down a e = drop-by (refused a) (meant-down before-drop (first_named s n) Name a e)

  module _ (clear : before-drop ≡ None) where
    pub drop-none : first_named s n ≡ None → record { answer = told Name; store = s } ≡ drop_of s n
    unfolding name_means drop_by
    drop-none e = drop-by (refused (told Name)) (meant-none before-drop (first_named s n) Name clear e)

    pub drop-made : (e : ℕ) → first_named s n ≡ Some e → record { answer = accepted; store = dropped s e } ≡ drop_of s n
    unfolding name_means drop_by
    drop-made e g = drop-by (entry e) (meant-some before-drop (first_named s n) Name e clear g)

-- a store and a board of their lengths, beside which a name is judged
pub board-judged : (s n b : List ℕ) {o : Option Answer} → length s ≡ store_length → length b ≡ board_length → o ≡ name_refusal (eqb (length n) name_length) n → o ≡ name_refusal (store_fits s n and board_fits b) n
board-judged s n b h k e = e ∙ judged s n (board_fits b) h (rw k (eqb_same board_length))

-- a drop has no other list to judge
pub store-judged : (s n : List ℕ) {o : Option Answer} → length s ≡ store_length → o ≡ name_refusal (eqb (length n) name_length) n → o ≡ name_refusal (store_fits s n) n
store-judged s n h e = e ∙ judged s n true h refl ∙ ap (λ (t : Bool). name_refusal t n) (and-true (store_fits s n))

-- ---- what a call is refused with

-- a look-up that finds nothing is refused with its cause
pub wanting : {o : Option ℕ} {r cause : Refusal} → o ≡ None → ◌≡◌ {A = Result ℕ Refusal} (Err r) (ok_or o cause) → r ≡ cause
wanting {o = None} e h = cc
wanting {o = Some k} e h = cc

pub save-refused : (s n b : List ℕ) (r : Refusal) → Some (told r) ≡ name_refusal (store_fits s n and board_fits b) n → stored (told r) s ≡ save_of s n b
save-refused s n b r e = save-down s n b (told r) (sym e)

pub recall-refused : (s n b : List ℕ) (r : Refusal) → Some (told r) ≡ name_refusal (store_fits s n and board_fits b) n → recalled (told r) b ≡ recall_of s n b
recall-refused s n b r e = recall-down s n b (told r) (sym e)

pub drop-refused : (s n : List ℕ) (r : Refusal) → Some (told r) ≡ name_refusal (store_fits s n) n → stored (told r) s ≡ drop_of s n
drop-refused s n r e = drop-down s n (told r) (sym e)
