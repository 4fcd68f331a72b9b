-- The texts of a run's steps are the listing. Assumes nothing.
use mathlib.Core.Bool.{Bool, true, false}
use mathlib.Core.List.{List, [], ◌∷◌, ◌++◌}
use mathlib.Core.Path.{◌≡◌, refl, sym, ap, ◌∙◌, subst}
use Prim.Native.Nat.{ℕ, zero, suc, ◌<◌, ◌≤◌}
use native.Mathlib.Omega.{arith}
use lib.ListN.{length, take, drop}
use Rattle.general.proofs.Tests.{absurd-bool, eqb_same}
use Rattle.rules.specs.Basin.{Basin, rows}
use Rattle.rules.specs.Answers.{or_else, unless}
use Rattle.rules.specs.Tally.{over_limit, over_answer}
use Rattle.records.specs.Records.{basin_of}
use Rattle.answers.proofs.Answers.{no-refusal}
use Rattle.sheets.specs.Sheets.{sheet_of}
use Rattle.listing.specs.Listing.{header}
use Rattle.listing.specs.Run.{sheet_bytes, part_refusal, Standing, Step, sheet_step, step_of, next_step, steps_text, begin, months_text, after_header, listing_of}
use Rattle.listing.specs.Steps.{Place, Walk, texts_of, StepsList, RefusalLists}

-- ---- which step a part makes

pub step-some : (b : Basin) (s : Standing) (part : List ℕ) → 0 < length part → step_of b s part ≡ sheet_step (part_refusal b part) b s (sheet_of (rows b) part)
unfolding step_of
step-some b s [] h = absurd (omega arith)
step-some b s (x ∷ part) h = refl

pub whole-refusal : (b : Basin) (part : List ℕ) → length part ≡ sheet_bytes b → part_refusal b part ≡ over_answer (over_limit (sheet_of (rows b) part))
unfolding part_refusal unless or_else
whole-refusal b part h = rw (h, eqb_same (sheet_bytes b))

-- ---- part after part

-- a part that is not empty leaves less of the file
drop-most : (n : ℕ) (l : List ℕ) → length (drop n l) ≤ length l
drop-most zero l = omega arith
drop-most (suc n) [] = omega arith
drop-most (suc n) (x ∷ l) = omega (arith, drop-most n l)

drop-less : (n : ℕ) (l : List ℕ) → (take n l ≡ [] → ⊥) → length (drop n l) < length l
drop-less zero l h = absurd (h refl)
drop-less (suc n) [] h = absurd (h refl)
drop-less (suc n) (x ∷ l) h = omega (arith, drop-most n l)

-- a step that goes on was lent a part
lent-some : (b : Basin) (s : Standing) (part : List ℕ) → (step_of b s part).more ≡ true → part ≡ [] → ⊥
unfolding step_of
lent-some b s part h e = absurd-bool h (ap (λ (p : List ℕ). (step_of b s p).more) e)

module _ (b : Basin) where
  -- what a step leaves to be told, where the run goes on
  on : (t : Bool) (k : ℕ) (s : Standing) (rest : List ℕ) (os : List Step) (to : Place) → to.more ≡ false
      → (t ≡ true → Walk b true (record { standing = s; left = rest; more = true }) os to → texts_of os ≡ steps_text k b s rest)
      → Walk b true (record { standing = s; left = rest; more = t }) os to → texts_of os ≡ elim t [ true ↦ steps_text k b s rest | false ↦ [] ]
  unfolding texts_of
  on true k s rest os to e ih w = ih refl w
  on false k s rest [] to e ih w = refl
  on false k s rest (o ∷ os) to e ih w = absurd-bool w.0.going refl

  told : (k : ℕ) (s : Standing) (rest : List ℕ) (os : List Step) (to : Place) → to.more ≡ false → length rest < k
      → Walk b true (record { standing = s; left = rest; more = true }) os to → texts_of os ≡ steps_text k b s rest
  unfolding steps_text next_step texts_of
  told zero s rest os to z h w = absurd (omega arith)
  told (suc k) s rest [] to z h w = absurd-bool (sym (ap (λ (p : Place). p.more) w)) z
  told (suc k) s rest (o ∷ os) to z h w =
      let st : Step = step_of b s (take (sheet_bytes b) rest) in
      let e : o ≡ st = w.0.meets in
      let r = on st.more k st.standing (drop (sheet_bytes b) rest) os to z
      (λ m q. told k st.standing (drop (sheet_bytes b) rest) os to z (omega (arith, h, drop-less (sheet_bytes b) rest (lent-some b s (take (sheet_bytes b) rest) m))) q)
      (subst (λ (x : Step). Walk b true (record { standing = x.standing; left = drop (sheet_bytes b) rest; more = x.more }) os to) e w.1) in
      λ z. (e z).text ++ r z

pub steps-list : StepsList
unfolding listing_of after_header months_text
steps-list f months acc os to r e = ap (λ (l : List ℕ). header ++ l) (told (basin_of f) (suc (length months)) (begin (basin_of f)) months os to e (omega arith) r) ∙ rw (no-refusal f acc)

pub refusal-lists : RefusalLists
unfolding listing_of after_header
refusal-lists f months a e = rw e
