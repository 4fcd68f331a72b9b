-- Refusals, taken apart. Assumes nothing.
use Rattle.std.specs.Prelude.{Option, None, Some}
use mathlib.Core.Path.{◌≡◌, refl}
use mathlib.Core.Bool.{Bool, true, false}
use Prim.Native.Nat.{ℕ}
use native.Mathlib.Omega.{arith}
use Rattle.rules.specs.declared.Refusal.{Refusal}
use Rattle.rules.specs.Answers.{Answer, or_else, unless}

-- where nothing is turned down, neither the first nor what comes after is
pub or-first : (x y : Option Answer) → or_else x y ≡ None → x ≡ None
unfolding or_else
or-first None y e = refl
or-first (Some a) y e = e

pub or-second : (x y : Option Answer) → or_else x y ≡ None → y ≡ None
unfolding or_else
or-second None y e = e
or-second (Some a) y e = absurd (let z : ◌≡◌ {A = ℕ} 0 1 = cc in omega arith)

pub or-none : (y : Option Answer) → or_else None y ≡ y
unfolding or_else
or-none y = refl

-- what comes after is asked only where nothing was refused before
pub or_same : (v x y : Option Answer) → (v ≡ None → x ≡ y) → or_else v x ≡ or_else v y
unfolding or_else
or_same None x y h = h refl
or_same (Some a) x y h = refl

pub unless-none : (t : Bool) (r : Refusal) → unless t r ≡ None → t ≡ true
unfolding unless
unless-none true r e = refl
unless-none false r e = absurd (let z : ◌≡◌ {A = ℕ} 0 1 = cc in omega arith)
