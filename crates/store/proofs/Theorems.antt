-- The theorems of specs/Theorems.antt. Assumes nothing.
use Rattle.std.specs.Prelude.{Option, None, Some}
use mathlib.Core.Path.{◌≡◌, refl, sym, ap, ◌∙◌, subst}
use mathlib.Core.Bool.{true, false}
use mathlib.Core.List.{List, [], ◌∷◌}
use Prim.Native.Nat.{ℕ, ◌<◌}
use native.Mathlib.Decide.{dec_lt}
use native.Mathlib.Omega.{arith}
use lib.Dec.{eqb}
use lib.ListN.{length}
use Rattle.general.specs.Tables.{All}
use Rattle.general.specs.Tests.{◌and◌}
use Rattle.general.proofs.Tests.{eqb_same, by_eqb, eq_of, and-true}
use Rattle.places.specs.Board.{board_length}
use Rattle.rules.specs.declared.Refusal.TheVariants.{Name, Full}
use Rattle.rules.specs.Answers.{Answer, told}
use Rattle.boards.specs.Board.{board_fits}
use Rattle.answers.specs.Answers.{accepted}
use Rattle.entries.specs.Entries.{name_length, store_length, name_at, board_at, no_name, same_name, first_named, place_for}
use Rattle.store.specs.Calls.{store_fits, name_refusal, Stored, saved, save_of, Recalled, recall_of, dropped, drop_of}
use Rattle.store.specs.Theorems.{Refused, RecallAfterSave, SaveKeepsOthers, DropKeepsOthers, Change, save, drop, changed, after_changes, change_name, ComeBack, Unknown, Earliest, Usable, EarlierMeant, OneEntry, SavedEntry, Freed, DroppedEntry, NewName, FullStore, ServesAgain, EmptyAfter, EmptyAfterDrop, Second, SecondMeant, GoneAfterDrop}
use Rattle.entries.proofs.LookUp.{place-named, place-new, place-within}
use Rattle.store.proofs.Answers.{Fitting, all-fit, fitting, by_name, name-none, save-down, save-full, save-made, recall-down, recall-none, recall-made, drop-down, drop-none, drop-made}
use Rattle.store.proofs.Changed.{no-name-length, used-name, used-of, first_of, earliest-of, first-unknown, unknown-of, saved-length, saved-name, saved-others, saved-board, dropped-length, dropped-entry}

-- ---- by cases on what a call comes to

usable-of : (s n b : List ℕ) → (store_fits s n and board_fits b) ≡ true → same_name n no_name ≡ false → Usable s n b
usable-of s n b e z = let f = fitting s n (board_fits b) e in record { store = f.store; name = f.name; board = eq_of f.other; used = used-of n z }

-- what may be used is not refused before the look-up
usable-clear : (s n b : List ℕ) → Usable s n b → name_refusal (store_fits s n and board_fits b) n ≡ None
usable-clear s n b u =
    name-none (store_fits s n and board_fits b) n
    (all-fit s n (board_fits b) (record { store = u.store; name = u.name; other = ap (λ (k : ℕ). eqb k board_length) u.board ∙ eqb_same board_length }))
    (used-name n u.name u.used)

-- nor is it by a drop, which has no board
drop-clear : (s n : List ℕ) → length s ≡ store_length → length n ≡ name_length → (n ≡ no_name → ⊥) → name_refusal (store_fits s n) n ≡ None
drop-clear s n ls ln used = name-none (store_fits s n) n (sym (and-true (store_fits s n)) ∙ all-fit s n true (record { store = ls; name = ln; other = refl })) (used-name n ln used)

save-cases : (s n b : List ℕ) (P : Stored → Type 0) → ((a : Answer) → (a.number ≡ 0 → ⊥) → P (record { answer = a; store = s }))
    → ((e : ℕ) → Usable s n b → place_for s n ≡ Some e → P (record { answer = accepted; store = saved s e n b })) → P (save_of s n b)
save-cases s n b P kept made = by_name (store_fits s n and board_fits b) n (λ o. name_refusal (store_fits s n and board_fits b) n ≡ o → P (save_of s n b))
    (λ a h q. subst P (save-down s n b a q) (kept a h))
    (λ f z q. look (place_for s n) refl q (usable-of s n b f z)) refl
  where
    look : (o : Option ℕ) → place_for s n ≡ o → name_refusal (store_fits s n and board_fits b) n ≡ None → Usable s n b → P (save_of s n b)
    look None eo q u = subst P (save-full s n b q eo) (kept (told Full) (λ e. omega (arith, e)))
    look (Some e) eo q u = subst P (save-made s n b q e eo) (made e u eo)

recall-cases : (s n b : List ℕ) (P : Recalled → Type 0) → ((a : Answer) → (a.number ≡ 0 → ⊥) → P (record { answer = a; board = b }))
    → ((e : ℕ) → Usable s n b → first_named s n ≡ Some e → P (record { answer = accepted; board = board_at s e })) → P (recall_of s n b)
recall-cases s n b P kept made = by_name (store_fits s n and board_fits b) n (λ o. name_refusal (store_fits s n and board_fits b) n ≡ o → P (recall_of s n b))
    (λ a h q. subst P (recall-down s n b a q) (kept a h))
    (λ f z q. look (first_named s n) refl q (usable-of s n b f z)) refl
  where
    look : (o : Option ℕ) → first_named s n ≡ o → name_refusal (store_fits s n and board_fits b) n ≡ None → Usable s n b → P (recall_of s n b)
    look None eo q u = subst P (recall-none s n b q eo) (kept (told Name) (λ e. omega (arith, e)))
    look (Some e) eo q u = subst P (recall-made s n b q e eo) (made e u eo)

drop-cases : (s n : List ℕ) (P : Stored → Type 0) → ((a : Answer) → (a.number ≡ 0 → ⊥) → P (record { answer = a; store = s }))
    → ((e : ℕ) → length s ≡ store_length → length n ≡ name_length → (n ≡ no_name → ⊥) → first_named s n ≡ Some e → P (record { answer = accepted; store = dropped s e })) → P (drop_of s n)
drop-cases s n P kept made = by_name (store_fits s n) n (λ o. name_refusal (store_fits s n) n ≡ o → P (drop_of s n))
    (λ a h q. subst P (drop-down s n a q) (kept a h))
    (λ f z q. look (first_named s n) refl q (fitting s n true (and-true (store_fits s n) ∙ f)) z) refl
  where
    look : (o : Option ℕ) → first_named s n ≡ o → name_refusal (store_fits s n) n ≡ None → Fitting s n true → same_name n no_name ≡ false → P (drop_of s n)
    look None eo q f z = subst P (drop-none s n q eo) (kept (told Name) (λ e. omega (arith, e)))
    look (Some e) eo q f z = subst P (drop-made s n q e eo) (made e f.store f.name (used-of n z) eo)

-- ---- refused calls

pub refused : Refused
refused s n b = record {
  save = save-cases s n b (λ x. (x.answer.number ≡ 0 → ⊥) → x.store ≡ s) (λ a h g. refl) (λ e u f g. absurd (g refl));
  recall = recall-cases s n b (λ x. (x.answer.number ≡ 0 → ⊥) → x.board ≡ b) (λ a h g. refl) (λ e u f g. absurd (g refl));
  drop = drop-cases s n (λ x. (x.answer.number ≡ 0 → ⊥) → x.store ≡ s) (λ a h g. refl) (λ e l m u f g. absurd (g refl));
}

-- ---- the entry that is meant

pub earlier_meant : EarlierMeant
earlier_meant s n b u e f =
    let o = first_of s u.store n u.name e f in
    let q = usable-clear s n b u in
    record {
      save = sym (save-made s n b q e (place-named s n e o));
      recall = sym (recall-made s n b q e o);
      drop = sym (drop-made s n (drop-clear s n u.store u.name u.used) e o);
    }

pub new_name : NewName
new_name s n b u k e f = sym (save-made s n b (usable-clear s n b u) e (place-new s n (first-unknown s u.store n u.name k) ∙ first_of s u.store no_name no-name-length e f))

pub full_store : FullStore
full_store s n b u k f = sym (save-full s n b (usable-clear s n b u) (place-new s n (first-unknown s u.store n u.name k) ∙ first-unknown s u.store no_name no-name-length f))

-- what an accepted recall leaves
abbrev back : List ℕ → Recalled
back b = record { answer = accepted; board = b }

pub saved_entry : SavedEntry
saved_entry s n b e u h w = record { others = saved-others s n b e u h; name = saved-name s n b e u h; numbers = saved-board s n b e u h w }

pub dropped_entry : DroppedEntry
dropped_entry s e l h = dropped-entry s l e h

-- ---- recall after a save

-- before the entry that a save writes no entry bears the name
pub unnamed-before : (s n : List ℕ) (e : ℕ) → length s ≡ store_length → length n ≡ 8 → place_for s n ≡ Some e → (j : ℕ) → j < e → name_at s j ≡ n → ⊥
unnamed-before s n e ls ln f j h = go (first_named s n) refl
  where
    go : (o : Option ℕ) → first_named s n ≡ o → name_at s j ≡ n → ⊥
    go None g = let i = place-within s n e f in (unknown-of s ls n ln g).nowhere j (omega arith)
    go (Some k) g = let q : Some k ≡ Some e = sym (place-named s n k g) ∙ f in (earliest-of s ls n ln e (g ∙ q)).before j h

saved-earliest : (s n b : List ℕ) (e : ℕ) → Usable s n b → place_for s n ≡ Some e → Earliest (saved s e n b) n e
saved-earliest s n b e u f =
    let h = place-within s n e f in
    record {
      inside = h;
      named = saved-name s n b e u h;
      before = λ j l g. unnamed-before s n e u.store u.name f j l (sym ((saved-others s n b e u h).names j (omega arith) (λ q. omega arith)) ∙ g);
    }

pub recall_after_save : RecallAfterSave
recall_after_save s n b c w a lc = save-cases s n b (λ x. x.answer.number ≡ 0 → recall_of x.store n c ≡ back b)
    (λ a h g. absurd (h g))
    (λ e u f g.
    let i = place-within s n e f in
    let v : Usable (saved s e n b) n c = record { store = saved-length s n b e u i; name = u.name; board = lc; used = u.used } in
    (earlier_meant (saved s e n b) n c v e (saved-earliest s n b e u f)).recall ∙ ap back (saved-board s n b e u i w)) a

-- ---- recalls under another name

-- A change of one entry that bore another name, and bears another name after it, changes no recall.
same-recall : (s s' n c : List ℕ) (e : ℕ) → length s ≡ store_length → OneEntry s s' e → ((n ≡ no_name → ⊥) → name_at s e ≡ n → ⊥) → ((n ≡ no_name → ⊥) → name_at s' e ≡ n → ⊥) → recall_of s' n c ≡ recall_of s n c
unfolding store_fits
same-recall s s' n c e ls o was now = by_name (store_fits s n and board_fits c) n (λ x. name_refusal (store_fits s n and board_fits c) n ≡ x → recall_of s' n c ≡ recall_of s n c)
    (λ a h q. sym (recall-down s' n c a (same-before ∙ q)) ∙ recall-down s n c a q)
    (λ f z q. look (first_named s n) refl q (usable-of s n c f z)) refl
  where
    ls' : length s' ≡ store_length
    ls' = o.length ∙ ls

    same-before : name_refusal (store_fits s' n and board_fits c) n ≡ name_refusal (store_fits s n and board_fits c) n
    same-before = ap (λ (k : ℕ). name_refusal (eqb k store_length and eqb (length n) name_length and board_fits c) n) o.length

    look : (x : Option ℕ) → first_named s n ≡ x → name_refusal (store_fits s n and board_fits c) n ≡ None → Usable s n c → recall_of s' n c ≡ recall_of s n c
    look None ex q u =
        let k = unknown-of s ls n u.name ex in
        let k' : Unknown s' n = record { nowhere = λ j h. by_eqb j e (λ _. name_at s' j ≡ n → ⊥) (λ q g. now u.used (ap (name_at s') (sym q) ∙ g)) (λ q g. k.nowhere j h (sym (o.names j h q) ∙ g)) } in
        sym (recall-none s' n c (same-before ∙ q) (first-unknown s' ls' n u.name k')) ∙ recall-none s n c q ex
    look (Some d) ex q u =
        let f = earliest-of s ls n u.name d ex in
        let i = f.inside in
        let ne : d ≡ e → ⊥ = λ q. was u.used (ap (name_at s) (sym q) ∙ f.named) in
        let f' : Earliest s' n d = record { inside = i; named = o.names d i ne ∙ f.named; before = λ j h. by_eqb j e (λ _. name_at s' j ≡ n → ⊥) (λ q g. now u.used (ap (name_at s') (sym q) ∙ g)) (λ q g. f.before j h (sym (o.names j (omega arith) q) ∙ g)) } in
        sym (recall-made s' n c (same-before ∙ q) d (first_of s' ls' n u.name d f')) ∙ ap back (o.boards d i ne) ∙ recall-made s n c q d ex

-- the entry that a save writes bore the name, or none
place-named-or-empty : (s m : List ℕ) (e : ℕ) → length s ≡ store_length → length m ≡ 8 → place_for s m ≡ Some e → (n : List ℕ) → (m ≡ n → ⊥) → (n ≡ no_name → ⊥) → name_at s e ≡ n → ⊥
place-named-or-empty s m e ls lm f n ne un g = go (first_named s m) refl
  where
    go : (o : Option ℕ) → first_named s m ≡ o → ⊥
    go None q = un (sym g ∙ (earliest-of s ls no_name no-name-length e (sym (place-new s m q) ∙ f)).named)
    go (Some k) q = let r : Some k ≡ Some e = sym (place-named s m k q) ∙ f in ne (sym (earliest-of s ls m lm e (q ∙ r)).named ∙ g)

pub save_keeps_others : SaveKeepsOthers
save_keeps_others s m b n c ne = save-cases s m b (λ x. recall_of x.store n c ≡ recall_of s n c)
    (λ a h. refl)
    (λ e u f.
    let i = place-within s m e f in
    same-recall s (saved s e m b) n c e u.store (saved-others s m b e u i) (place-named-or-empty s m e u.store u.name f n ne) (λ un g. ne (sym (saved-name s m b e u i) ∙ g)))

pub drop_keeps_others : DropKeepsOthers
drop_keeps_others s m n c ne = drop-cases s m (λ x. recall_of x.store n c ≡ recall_of s n c)
    (λ a h. refl)
    (λ e ls lm us f.
    let r = earliest-of s ls m lm e f in
    let d = dropped-entry s ls e r.inside in
    same-recall s (dropped s e) n c e ls d.others (λ un g. ne (sym r.named ∙ g)) (λ un g. un (sym g ∙ d.name)))

-- whatever else is saved and dropped meanwhile

change-keeps : (s : List ℕ) (x : Change) (n c : List ℕ) → (change_name x ≡ n → ⊥) → recall_of (changed s x) n c ≡ recall_of s n c
change-keeps s (save m b) n c ne = save_keeps_others s m b n c ne
change-keeps s (drop m) n c ne = drop_keeps_others s m n c ne

changes-keep : (s : List ℕ) (xs : List Change) (n c : List ℕ) → All (λ (x : Change). change_name x ≡ n → ⊥) xs → recall_of (after_changes s xs) n c ≡ recall_of s n c
changes-keep s [] n c h = refl
changes-keep s (x ∷ xs) n c h = changes-keep (changed s x) xs n c h.1 ∙ change-keeps s x n c h.0

pub come_back : ComeBack
come_back s n b c w a lc xs h = changes-keep (save_of s n b).store xs n c h ∙ recall_after_save s n b c w a lc

-- ---- after a drop

module _ (s n b : List ℕ) (u : Usable s n b) (e : ℕ) (f : Earliest s n e) where
  left : (drop_of s n).store ≡ dropped s e
  left = ap (λ (x : Stored). x.store) (earlier_meant s n b u e f).drop

  free : Freed s e (dropped s e)
  free = dropped-entry s u.store e f.inside

  after : (m : List ℕ) → Usable s m b → Usable (dropped s e) m b
  after m v = record { store = dropped-length s u.store e f.inside; name = v.name; board = v.board; used = v.used }

  -- an entry other than the one dropped bears the name that it bore
  still : (j : ℕ) → j < 4 → (j ≡ e → ⊥) → (m : List ℕ) → name_at (dropped s e) j ≡ m → name_at s j ≡ m
  still j h ne m g = sym (free.others.names j h ne) ∙ g

  -- a name that stood nowhere stands nowhere
  still-unknown : (m : List ℕ) → (m ≡ no_name → ⊥) → Unknown s m → Unknown (dropped s e) m
  still-unknown m us k = record {
    nowhere = λ j h. by_eqb j e (λ _. name_at (dropped s e) j ≡ m → ⊥)
        (λ q g. us (sym g ∙ ap (name_at (dropped s e)) q ∙ free.name))
        (λ q g. k.nowhere j h (still j h q m g));
  }

  empty-here : ((j : ℕ) → j < e → name_at s j ≡ no_name → ⊥) → Earliest (dropped s e) no_name e
  empty-here k = record { inside = f.inside; named = free.name; before = λ j h g. let i = f.inside in k j h (still j (omega arith) (λ q. omega arith) no_name g) }

  empty-before : (d : ℕ) → d < e → Earliest s no_name d → Earliest (dropped s e) no_name d
  empty-before d h k =
      let i = f.inside in
      record { inside = k.inside; named = free.others.names d k.inside (λ q. omega arith) ∙ k.named; before = λ j l g. k.before j l (still j (omega arith) (λ q. omega arith) no_name g) }

  second-first : (j : ℕ) → Second s n e j → Earliest (dropped s e) n j
  second-first j k =
      let i = k.later in
      let ij = k.inside in
      record {
        inside = ij;
        named = free.others.names j ij (λ q. omega arith) ∙ k.named;
        before = λ d h. by_eqb d e (λ _. name_at (dropped s e) d ≡ n → ⊥)
            (λ q g. u.used (sym g ∙ ap (name_at (dropped s e)) q ∙ free.name))
            (λ q g. other d h q (still d (omega arith) q n g) (dec_lt d e));
      }
    where
      other : (d : ℕ) → d < j → (d ≡ e → ⊥) → name_at s d ≡ n → Dec (d < e) → ⊥
      other d h q g (yes l) = f.before d l g
      other d h q g (no l) = k.between d (omega arith) h g

  gone : ((k : ℕ) → e < k → k < 4 → name_at s k ≡ n → ⊥) → Unknown (dropped s e) n
  gone k = record {
    nowhere = λ d h. by_eqb d e (λ _. name_at (dropped s e) d ≡ n → ⊥)
        (λ q g. u.used (sym g ∙ ap (name_at (dropped s e)) q ∙ free.name))
        (λ q g. other d h q (still d h q n g) (dec_lt d e));
  }
    where
      other : (d : ℕ) → d < 4 → (d ≡ e → ⊥) → name_at s d ≡ n → Dec (d < e) → ⊥
      other d h q g (yes l) = f.before d l g
      other d h q g (no l) = k d (omega arith) h g

pub serves_again : ServesAgain
serves_again s n m b u v k um e f =
    let i = f.inside in
    ap (λ (x : List ℕ). save_of x m b) (left s n b u e f)
    ∙ new_name (dropped s e) m b (after s n b u e f m v) (still-unknown s n b u e f m v.used um) e (empty-here s n b u e f (λ j h. k.nowhere j (omega arith)))

pub empty_after_drop : EmptyAfterDrop
empty_after_drop s n b u e f = subst (EmptyAfter s e) (sym (left s n b u e f)) (record { here = empty-here s n b u e f; earlier = empty-before s n b u e f })

pub second_meant : SecondMeant
second_meant s n b u e j f k =
    ap (λ (x : List ℕ). recall_of x n b) (left s n b u e f)
    ∙ (earlier_meant (dropped s e) n b (after s n b u e f n u) j (second-first s n b u e f j k)).recall
    ∙ ap back (let i = k.later in (free s n b u e f).others.boards j k.inside (λ q. omega arith))

pub gone_after_drop : GoneAfterDrop
gone_after_drop s n b u e f k =
    let v = after s n b u e f n u in
    ap (λ (x : List ℕ). recall_of x n b) (left s n b u e f)
    ∙ sym (recall-none (dropped s e) n b (usable-clear (dropped s e) n b v) (first-unknown (dropped s e) v.store n v.name (gone s n b u e f k)))
