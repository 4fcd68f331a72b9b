-- However the months file is cut into blocks, the steps made on them are steps made on the file. Assumes nothing.
use mathlib.Core.Bool.{Bool, true, false}
use mathlib.Core.List.{List, [], ◌∷◌, ◌++◌, append_assoc, append-nil}
use mathlib.Core.Path.{◌≡◌, refl, sym, ap, ◌∙◌, subst}
use Prim.Native.Nat.{ℕ, ◌≤◌}
use native.Mathlib.Omega.{arith}
use lib.ListN.{length, length-append}
use lib.Seq.{take-append-le, drop-append-le}
use Rattle.general.specs.Tables.{All}
use Rattle.rules.specs.Basin.{Basin}
use Rattle.listing.specs.Run.{sheet_bytes, Step}
use Rattle.listing.specs.Steps.{StepMeets, Place, Made, after, Walk, texts_of, Call, Called, Calls, steps_of, CallsList}
use Rattle.listing.proofs.Steps.{steps-list}

module _ (b : Basin) where
  -- ---- walks one after another

  pub walk-join : (last : Bool) (from mid to : Place) (os os' : List Step) → Walk b last from os mid → Walk b last mid os' to → Walk b last from (os ++ os') to
  walk-join last from mid to [] os' w v = subst (λ (p : Place). Walk b last p os' to) (sym w) v
  walk-join last from mid to (o ∷ os) os' w v = (w.0, walk-join last (after b from o) mid to os os' w.1 v)

  -- ---- bytes that follow a block change nothing of the steps made on it

  abbrev pub followed : Place → List ℕ → Place
  followed p later = record { standing = p.standing; left = p.left ++ later; more = p.more }

  module _ (later : List ℕ) where
    -- a whole sheet of the block is one of the file, whether or not the file ends with it
    step-whole : (last : Bool) (from : Place) (o : Step) → Made b false from o → Made b last (followed from later) o
    step-whole last from o m =
        let h : sheet_bytes b ≤ length from.left = m.whole refl in
        record {
          going = m.going;
          whole = λ e. omega (arith, length-append from.left later);
          meets = subst (λ (l : List ℕ). StepMeets b from.standing l o) (sym (take-append-le (sheet_bytes b) from.left later h)) m.meets;
        }

    pub walk-whole : (last : Bool) (from to : Place) (os : List Step) → Walk b false from os to → Walk b last (followed from later) os (followed to later)
    walk-whole last from to [] w = ap (λ (p : Place). followed p later) w
    walk-whole last from to (o ∷ os) w =
        let h : sheet_bytes b ≤ length from.left = w.0.whole refl in (
          step-whole last from o w.0,
          subst (λ (l : List ℕ). Walk b last (record { standing = o.standing; left = l; more = o.more }) os (followed to later)) (sym (drop-append-le (sheet_bytes b) from.left later h))
              (walk-whole last (after b from o) to os w.1),
        )

  nothing-follows : (p : Place) → p ≡ followed p []
  nothing-follows p = λ z. record { standing = p.standing; left = sym (append-nil p.left) z; more = p.more }

  walk-in-file : (last : Bool) (later : List ℕ) (from to : Place) (os : List Step) → (last ≡ true → later ≡ []) → Walk b last from os to → Walk b true (followed from later) os (followed to later)
  walk-in-file false later from to os e w = walk-whole later true from to os w
  walk-in-file true later from to os e w =
      subst (λ (l : List ℕ). Walk b true (followed from l) os (followed to l)) (sym (e refl))
      (subst (λ (p : Place). Walk b true p os (followed to [])) (nothing-follows from) (subst (λ (p : Place). Walk b true from os p) (nothing-follows to) w))

  -- ---- the calls of a run

  calls-walk : (cs : List (Call × List ℕ)) (from to : Place) → Calls b from cs to → Walk b true from (steps_of cs) to
  unfolding steps_of
  calls-walk [] from to w = w
  calls-walk (c ∷ cs) from to w =
      let k : Called b from c.1 c.0 = w.0 in
      let here = walk-in-file c.0.last c.1 (record { standing = from.standing; left = c.0.block; more = from.more }) c.0.to c.0.steps k.none_later k.walk in
      walk-join true from (followed c.0.to c.1) to c.0.steps (steps_of cs)
      (subst (λ (l : List ℕ). Walk b true (record { standing = from.standing; left = l; more = from.more }) c.0.steps (followed c.0.to c.1)) (sym k.lent) here)
      (calls-walk cs (followed c.0.to c.1) to w.1)

  -- of calls of which none is said to be the last, each step was lent a whole sheet
  pub calls-on : (cs : List (Call × List ℕ)) (from to : Place) → All (λ (c : Call × List ℕ). c.0.last ≡ false) cs → Calls b from cs to → Walk b false from (steps_of cs) to
  unfolding steps_of
  calls-on [] from to h w = w
  calls-on (c ∷ cs) from to h w =
      let k : Called b from c.1 c.0 = w.0 in
      let start : Place = record { standing = from.standing; left = c.0.block; more = from.more } in
      let here = walk-whole c.1 false start c.0.to c.0.steps (subst (λ (t : Bool). Walk b t start c.0.steps c.0.to) h.0 k.walk) in
      walk-join false from (followed c.0.to c.1) to c.0.steps (steps_of cs)
      (subst (λ (l : List ℕ). Walk b false (record { standing = from.standing; left = l; more = from.more }) c.0.steps (followed c.0.to c.1)) (sym k.lent) here)
      (calls-on cs (followed c.0.to c.1) to h.1 w.1)

pub texts-join : (os os' : List Step) → texts_of (os ++ os') ≡ texts_of os ++ texts_of os'
unfolding texts_of
texts-join [] os' = refl
texts-join (o ∷ os) os' = ap (λ (l : List ℕ). o.text ++ l) (texts-join os os') ∙ sym (append_assoc o.text (texts_of os) (texts_of os'))

pub calls-list : CallsList
calls-list f months acc cs to w e = steps-list f months acc (steps_of cs) to (calls-walk _ cs _ to w) e
