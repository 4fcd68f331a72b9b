-- The entry that a look-up leads to. Assumes nothing.
use Rattle.std.specs.Prelude.{Option, None, Some}
use mathlib.Core.Path.{◌≡◌, refl, sym, ap, ◌∙◌}
use mathlib.Core.List.{List}
use Prim.Native.Nat.{ℕ, ◌<◌}
use Rattle.general.proofs.Search.{first-within}
use Rattle.entries.specs.Entries.{entry_count, no_name, is_named, first_named, or_first, place_for}

-- ---- as the code answers it

-- by a copy m of the name
module _ (look : List ℕ → Option ℕ) (n : List ℕ) {m : List ℕ} (em : m ≡ n) where
  pub looked-none : {f : Option ℕ} → f ≡ look m → f ≡ None → look n ≡ None
  looked-none e g = sym (e ∙ ap look em) ∙ g

  pub looked-at : {f : Option ℕ} {k : ℕ} → f ≡ look m → f ≡ Some k → look n ≡ Some k
  looked-at e g = sym (e ∙ ap look em) ∙ g

module _ (s n : List ℕ) where
  pub named-within : (e : ℕ) → first_named s n ≡ Some e → e < entry_count
  unfolding first_named
  named-within e f = (first-within (is_named s n) entry_count 0 e f).1

  pub place-named : (e : ℕ) → first_named s n ≡ Some e → place_for s n ≡ Some e
  unfolding place_for or_first
  place-named e f = rw f

  pub place-new : first_named s n ≡ None → place_for s n ≡ first_named s no_name
  unfolding place_for or_first
  place-new f = rw f

pub place-within : (s n : List ℕ) (e : ℕ) → place_for s n ≡ Some e → e < entry_count
place-within s n e f = go (first_named s n) refl
  where
    go : (o : Option ℕ) → first_named s n ≡ o → e < entry_count
    go None g = named-within s no_name e (sym (place-new s n g) ∙ f)
    go (Some k) g = named-within s n e (let h : Some k ≡ Some e = sym (place-named s n k g) ∙ f in g ∙ h)
