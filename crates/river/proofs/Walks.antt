-- One step of each walk, at what the code has in hand. Assumes nothing.
use Rattle.std.specs.Prelude.{None, Option, Some}
use mathlib.Core.Bool.{Bool, true, false, cond}
use mathlib.Core.List.{List, [], ◌∷◌}
use mathlib.Core.Logic.{◌≢◌}
use mathlib.Core.Path.{◌≡◌, refl, sym, ◌∙◌}
use Prim.Native.Nat.{ℕ, ◌+◌, ◌-◌, ◌<◌}
use lib.Dec.{ltb}
use lib.ListN.{length, get_or, set}
use lib.Seq.{get_or-set_same, get_or-set_other}
use Rattle.general.specs.Tests.{has}
use Rattle.general.proofs.Search.{has-head, has-tail, has_other, has-none}
use Rattle.general.proofs.Tests.{absurd-bool, by_eqb}
use Rattle.rules.specs.Path.{until_row}
use Rattle.rules.specs.River.{Level, diverted, released, returned}
use Rattle.rules.proofs.Path.{until_none, until_stop, until-on}
use Rattle.records.specs.Table.{step_of, path_by, Downhill}
use Rattle.records.proofs.Table as table
use Rattle.records.proofs.Table.{downhill-later, by_end, by-self}
use Rattle.river.specs.declared.Seen.{Seen}
use Rattle.river.specs.declared.Seen.TheVariants.{Called, Low}
use Rattle.river.specs.Arrays.{level, row_level, seen_on, Enough, Room, CanRelease, CanWalk, Changed, Walked, Raised}
use Rattle.river.proofs.Table.{by-off}
use Rattle.river.proofs.Levels.{change-made, walk-on, walk-done, change-nothing, diverted-level, returned-level, released-level, flow-here, flow-other, room-on}

-- ---- what holds at the row itself

module _ (t : List ℕ) (down : Downhill t) (i : ℕ) (h : i < 64) where
  pub room_self : (d : ℕ) (l : List ℕ) → Room d (path_by t i) l → get_or l i 0 + d < 18446744073709551616
  room_self d l e = e.fits i (by-self t down i h)

  -- the path goes on at the row below, and does not come back
  by_row : (q : ℕ) → step_of t i ≡ Some q → (path_by t i ≡ i ∷ path_by t q) × (has i (path_by t q) ≡ false)
  by_row q b = let w = table.by_row t down i q h b in (w.0, by-off t down i q w.2 w.1)

-- ---- a walk that changes flow and available flow at each row: x and y are what the change made at row i

module _ {can : ℕ → Type 0} {t : List ℕ} {i : ℕ} {f a : List ℕ} (down : Downhill t) (o : CanWalk can t i f a) where
  pub can-flow : can (get_or f i 0)
  can-flow = o.flows i (by-self t down i o.on)

  pub can-available : can (get_or a i 0)
  can-available = o.availables i (by-self t down i o.on)

  module _ (x y q : ℕ) (b : step_of t i ≡ Some q) where
    -- a row further down is not this one
    further : (k : ℕ) → has k (path_by t q) ≡ true → (k ≢ i) × (has k (path_by t i) ≡ true)
    further k h = let w = by_row t down i o.on q b in (λ z. absurd-bool h (rw z w.1), rw w.0 (has-tail k i (path_by t q) h))

    pub next-walk : CanWalk can t q (set f i x) (set a i y)
    next-walk = record {
      on = (downhill-later t down i q o.on b).1;
      flows = λ k h. let w = further k h in rw (get_or-set_other f i k x 0 w.0) (o.flows k w.1);
      availables = λ k h. let w = further k h in rw (get_or-set_other a i k y 0 w.0) (o.availables k w.1);
    }

  module _ (made : ℕ → ℕ → Type 0) (x y : ℕ) (mx : made (get_or f i 0) x) (my : made (get_or a i 0) y) where
    -- of one list: the row itself, then what the rest of the walk does to the rest of the path
    list-on : (l l' p : List ℕ) (z : ℕ) → i < length l → made (get_or l i 0) z → has i p ≡ false
        → ((k : ℕ) → has k p ≡ true → made (get_or (set l i z) k 0) (get_or l' k 0)) → ((k : ℕ) → has k p ≡ false → get_or l' k 0 ≡ get_or (set l i z) k 0)
        → (k : ℕ) → has k (i ∷ p) ≡ true → made (get_or l k 0) (get_or l' k 0)
    list-on l l' p z h m off on same k e = by_eqb k i (λ _. made (get_or l k 0) (get_or l' k 0))
        (λ u. rw (u, same i off, get_or-set_same l i z 0 h) m)
        (λ u. let v = on k (sym (has_other k i p u) ∙ e) in rw (get_or-set_other l i k z 0 u) at v)

    list-off : (l l' p : List ℕ) (z : ℕ) → ((k : ℕ) → has k p ≡ false → get_or l' k 0 ≡ get_or (set l i z) k 0) → (k : ℕ) → has k (i ∷ p) ≡ false → get_or l' k 0 ≡ get_or l k 0
    list-off l l' p z same k e = by_eqb k i (λ _. get_or l' k 0 ≡ get_or l k 0)
        (λ u. absurd-bool (has-head k i p u) e)
        (λ u. same k (sym (has_other k i p u) ∙ e) ∙ get_or-set_other l i k z 0 u)

    changed-on : i < length f → i < length a → (p f' a' : List ℕ) → has i p ≡ false → Changed made p (set f i x) (set a i y) f' a' → Changed made (i ∷ p) f a f' a'
    changed-on hf ha p f' a' off w = record {
      flow_on = list-on f f' p x hf mx off w.flow_on w.flow_off;
      available_on = list-on a a' p y ha my off w.available_on w.available_off;
      flow_off = list-off f f' p x w.flow_off;
      available_off = list-off a a' p y w.available_off;
    }

    pub changed-row : i < length f → i < length a → (q : ℕ) (f' a' : List ℕ) → step_of t i ≡ Some q → Changed made (path_by t q) (set f i x) (set a i y) f' a' → Changed made (path_by t i) f a f' a'
    changed-row hf ha q f' a' b w = let r = by_row t down i o.on q b in rw r.0 (changed-on hf ha (path_by t q) f' a' r.1 w)

    pub changed-end : i < length f → i < length a → step_of t i ≡ None → Changed made (path_by t i) f a (set f i x) (set a i y)
    changed-end hf ha b = rw (by_end t down i o.on b) (changed-on hf ha [] _ _ (has-none i) (record {
      flow_on = λ k h. absurd-bool h (has-none k);
      available_on = λ k h. absurd-bool h (has-none k);
      flow_off = λ k h. refl;
      available_off = λ k h. refl;
    }))

-- the levels after a walk whose change takes or adds d
module _ {made : ℕ → ℕ → Type 0} {p f a f' a' : List ℕ} (w : Changed made p f a f' a') where
  walked-by : (g : Level → Level) → ((k x y : ℕ) → has k p ≡ true → made (get_or f k 0) x → made (get_or a k 0) y → level x y ≡ g (row_level f a k)) → Walked g p f a f' a'
  walked-by g make = record {
    levels = λ n. change-made n g p f a f' a' (λ k h. at k (has k p) refl);
  }
    where
      at : (k : ℕ) (b : Bool) → has k p ≡ b → row_level f' a' k ≡ cond b (g (row_level f a k)) (row_level f a k)
      at k true e = make k _ _ e (w.flow_on k e) (w.available_on k e)
      at k false e = rw (w.flow_off k e, w.available_off k e)

  pub walked-diverted : (d : ℕ) → ((x y : ℕ) → made x y → y ≡ x - d) → Enough d p f → Enough d p a → Walked (diverted d) p f a f' a'
  walked-diverted d by ef ea = walked-by (diverted d) (λ k x y e mx my. rw (by _ x mx, by _ y my) (diverted-level _ _ d (ef.at_least k e) (ea.at_least k e)))

  pub walked-returned : (d : ℕ) → ((x y : ℕ) → made x y → y ≡ x + d) → Walked (returned d) p f a f' a'
  walked-returned d by = walked-by (returned d) (λ k x y e mx my. rw (by _ x mx, by _ y my) (returned-level _ _ d))

-- ---- what passes on to the row below

module _ (t : List ℕ) (down : Downhill t) (i q : ℕ) (b : step_of t i ≡ Some q) (d x : ℕ) (f : List ℕ) where
  pub next-release : CanRelease t i d f → CanRelease t q d (set f i x)
  next-release o =
      let w = by_row t down i o.on q b in
      let p = w.0 in
      let m = o.flows in
      record {
        on = (downhill-later t down i q o.on b).1;
        flows = room-on d i x (path_by t q) f w.1 (rw p at m);
      }

-- ---- release

has-until : (i w : ℕ) (p : List ℕ) → has i p ≡ false → has i (until_row w p) ≡ false
has-until i w [] e = rw (until_none w) (has-none i)
has-until i w (x ∷ p) e = by_eqb i x (λ _. has i (until_row w (x ∷ p)) ≡ false)
    (λ z. absurd-bool (has-head i x p z) e)
    (λ z. by_eqb x w (λ _. has i (until_row w (x ∷ p)) ≡ false)
    (λ y. rw (until_stop w x p y) (has-none i))
    (λ y. rw (until-on w x p y, has_other i x (until_row w p) z) (has-until i w p (sym (has_other i x p z) ∙ e))))

module _ (t : List ℕ) (down : Downhill t) (i d stop : ℕ) (f : List ℕ) (h : i < length f) (o : CanRelease t i d f) where
  released-here : (a : List ℕ) → row_level (set f i (get_or f i 0 + d)) a i ≡ released d (row_level f a i)
  released-here a = flow-here f a i _ h ∙ released-level (get_or f i 0) (get_or a i 0) d

  pub release-row : (q : ℕ) (f' : List ℕ) → step_of t i ≡ Some q → i ≢ stop
      → Raised (released d) (until_row stop (path_by t q)) (set f i (get_or f i 0 + d)) f'
      → Raised (released d) (until_row stop (path_by t i)) f f'
  release-row q f' b ne e =
      let w = by_row t down i o.on q b in
      record {
        levels = λ n a. rw (w.0, until-on stop i (path_by t q) ne)
            (walk-on n i (released d) f a _ a (released-here a) (flow-other f a i _) (until_row stop (path_by t q)) f' a (has-until i stop (path_by t q) w.1) (e.levels n a));
      }

  pub release-end : step_of t i ≡ None → i ≢ stop → Raised (released d) (until_row stop (path_by t i)) f (set f i (get_or f i 0 + d))
  release-end b ne = record {
    levels = λ n a. rw (by_end t down i o.on b, until-on stop i [] ne, until_none stop) (walk-done n i (released d) f a _ a (released-here a) (flow-other f a i _));
  }

  pub release_stop : i ≡ stop → Raised (released d) (until_row stop (path_by t i)) f f
  release_stop e = record { levels = λ n a. rw (nothing ((step_of t i)) refl) (change-nothing n (released d) f a) }
    where
      nothing : (x : Option ℕ) → step_of t i ≡ x → until_row stop (path_by t i) ≡ []
      nothing (Some q) b = rw (by_row t down i o.on q b).0 (until_stop stop i (path_by t q) e)
      nothing None b = rw (by_end t down i o.on b) (until_stop stop i [] e)

-- what a release goes by
pub ruleset releases = (room_self, release_stop, release-row, release-end, next-release, downhill-later)

-- ---- look

module _ (t : List ℕ) (down : Downhill t) (i low : ℕ) (short : List Bool) (a : List ℕ) (h : i < 64) (l : low < 64) where
  pub look_called : get_or short i false ≡ true → Called i ≡ seen_on short a low (path_by t i)
  unfolding seen_on
  look_called e = go (step_of t i) refl
    where
      go : (x : Option ℕ) → step_of t i ≡ x → Called i ≡ seen_on short a low (path_by t i)
      go (Some q) b = rw ((by_row t down i h q b).0, e)
      go None b = rw (by_end t down i h b, e)

  module _ (r : ℕ) (open_row : get_or short i false ≡ false) (e : r ≡ cond (ltb (get_or a i 0) (get_or a low 0)) i low) where
    lower_in : r < 64
    lower_in = rw e (go (ltb (get_or a i 0) (get_or a low 0)))
      where
        go : (c : Bool) → cond c i low < 64
        go true = h
        go false = l

    pub look-end : step_of t i ≡ None → Low r ≡ seen_on short a low (path_by t i)
    unfolding seen_on
    look-end b = rw (by_end t down i h b, open_row, ← e)

    pub look-on : (q : ℕ) (x : Seen) → step_of t i ≡ Some q → x ≡ seen_on short a r (path_by t q) → x ≡ seen_on short a low (path_by t i)
    unfolding seen_on
    look-on q x b g = rw ((by_row t down i h q b).0, open_row, ← e) g

    pub next-look : (q : ℕ) → step_of t i ≡ Some q → (q < 64) × (r < 64)
    next-look q b = ((downhill-later t down i q h b).1, lower_in)

-- what a look down a path goes by
pub ruleset looks = (look_called, look-end, look-on, next-look, downhill-later)
