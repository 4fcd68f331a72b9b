-- A block is listed call by call. Assumes nothing.
use mathlib.Core.Bool.{Bool}
use mathlib.Core.List.{List, [], ◌++◌}
use mathlib.Core.Path.{◌≡◌, refl, sym, subst}
use Prim.Native.Nat.{ℕ}
use lib.ListN.{drop}
use Rattle.records.specs.Records.{basin_of}
use Rattle.listing.specs.Steps.{Place, Walk}
use Rattle.listing.proofs.Blocks.{walk-join}
use Rattle.lister.specs.declared.Listing.{Listing}
use Rattle.lister.specs.Lister.{standing, place_in, BlockListed, Passed}

module _ (block : List ℕ) (last : Bool) where
  pub passed_none : (l : Listing) → Passed block last block l l
  passed_none l = record { steps = []; walk = refl }

  module _ {l l₁ : Listing} {left : List ℕ} (p : Passed block last left l l₁) where
    abbrev at_left : Place
    at_left = record { standing = standing l₁; left = left; more = l₁.more }

    -- a call on what is left, of a listing that stands as l₁ did
    pub passed-then : {l₂ l₃ : Listing} {used : ℕ} {left' : List ℕ} → l₂.file.now ≡ l.file.now → l₂.months ≡ l₁.months → l₂.board.now ≡ l₁.board.now → l₂.more ≡ l₁.more
        → BlockListed left last 0 l₂ l₃ used → left' ≡ drop used left → Passed block last left' l l₃
    passed-then {l₂} {l₃} {used} {left'} ef em eb eg w el =
        let b = basin_of l.file.now in
        let to : Place = record { standing = standing l₃; left = left'; more = l₃.more } in
        let from : place_in left l₂ 0 ≡ at_left = λ z. record { standing = record { months = em z; board = eb z }; left = left; more = eg z } in
        let on : Walk b last (place_in left l₂ 0) w.steps (place_in left l₃ used) = subst (λ (f : List ℕ). Walk (basin_of f) last (place_in left l₂ 0) w.steps (place_in left l₃ used)) ef w.walk in
        let on' : Walk b last at_left w.steps to =
        subst (λ (x : List ℕ). Walk b last at_left w.steps (record { standing = standing l₃; left = x; more = l₃.more })) (sym el)
        (subst (λ (x : Place). Walk b last x w.steps (place_in left l₃ used)) from on) in
        record { steps = p.steps ++ w.steps; walk = walk-join b last (place_in block l 0) at_left to p.steps w.steps p.walk on' }
