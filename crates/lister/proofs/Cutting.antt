-- A block is listed part by part, and its texts are those of a walk over its bytes. Assumes nothing.
use mathlib.Core.Bool.{Bool, true, false}
use mathlib.Core.List.{List, [], ◌∷◌, ◌++◌, append_assoc, append-nil}
use mathlib.Core.Path.{◌≡◌, refl, sym, ap, ◌∙◌, subst}
use Prim.Native.Nat.{ℕ, zero, suc, ◌+◌, ◌-◌, ◌≤◌, ◌<◌}
use native.Mathlib.Omega.{arith}
use lib.ListN.{length, take, drop, length-append, length-drop, drop_of_length-le}
use lib.Seq.{take_all, drop-drop, take-append_seam, drop-append_seam}
use Rattle.general.proofs.Tests.{absurd-bool}
use Rattle.rules.specs.Basin.{Basin}
use Rattle.records.specs.Records.{basin_of}
use Rattle.filecheck.proofs.Accepted.{accepted-facts}
use Rattle.lines.specs.Texts.{bytes_of, room_of}
use Rattle.lines.specs.Putting.{most_text}
use Rattle.listing.specs.Run.{sheet_bytes, Step}
use Rattle.listing.specs.Steps.{StepMeets, Place, after, Walk, texts_of}
use Rattle.listing.proofs.Blocks.{walk-join, texts-join}
use Rattle.lister.specs.declared.Listing.{Listing}
use Rattle.lister.specs.Lister.{standing, text_of, InOrder, Stepped, place_in, BlockListed, CanListBlock, SheetsListed, Moves}
use Rattle.lister.proofs.Lent.{kept_none, kept-then}
use Rattle.lister.proofs.Stepping.{short-ends}

-- ---- nothing, one part, one after another

module _ (block : List ℕ) (last : Bool) where
  pub block_none : (l : Listing) (u : ℕ) → InOrder l → u ≤ length block → BlockListed block last u l l u
  unfolding texts_of
  block_none l u i used = record { steps = []; walk = refl; put = sym (append-nil (bytes_of (text_of l))); in_order = i; used = used; counted = omega arith; kept = kept_none l }

  pub block_one : (l l' : Listing) (u v : ℕ) (part : List ℕ) → l.more ≡ true → (last ≡ false → sheet_bytes (basin_of l.file.now) ≤ length (drop u block))
      → part ≡ take (sheet_bytes (basin_of l.file.now)) (drop u block) → drop v block ≡ drop (sheet_bytes (basin_of l.file.now)) (drop u block) → v ≡ u + length part → v ≤ length block
      → Stepped part l l' → BlockListed block last u l l' v
  unfolding texts_of
  block_one l l' u v part going whole part-is left_is v-is used w = record {
    steps = o ∷ [];
    walk = (
      record { going = going; whole = whole; meets = subst (λ (x : List ℕ). StepMeets (basin_of l.file.now) (standing l) x o) part-is w.meets },
      λ z. record { standing = standing l'; left = sym left_is z; more = l'.more },
    );
    put = w.put.bytes ∙ ap (λ (x : List ℕ). bytes_of (text_of l) ++ x) (sym (append-nil w.added));
    in_order = w.in_order;
    used = used;
    counted = omega (arith, w.counted, v-is);
    kept = w.kept;
  }
    where
      o : Step
      o = record { text = w.added; standing = standing l'; more = l'.more }

  pub block-then : {l l₁ l₂ : Listing} {u v k : ℕ} → BlockListed block last u l l₁ v → BlockListed block last v l₁ l₂ k → BlockListed block last u l l₂ k
  block-then {l} {l₁} {l₂} {u} {v} {k} x y = record {
    steps = x.steps ++ y.steps;
    walk = walk-join (basin_of l.file.now) last (place_in block l u) (place_in block l₁ v) (place_in block l₂ k) x.steps y.steps x.walk
        (subst (λ (f : List ℕ). Walk (basin_of f) last (place_in block l₁ v) y.steps (place_in block l₂ k)) x.kept.file y.walk);
    put = y.put ∙ ap (λ (t : List ℕ). t ++ texts_of y.steps) x.put ∙ append_assoc (bytes_of (text_of l)) (texts_of x.steps) (texts_of y.steps) ∙ ap (λ (t : List ℕ). bytes_of (text_of l) ++ t) (sym (texts-join x.steps y.steps));
    in_order = y.in_order;
    used = y.used;
    counted = omega (arith, x.counted, y.counted);
    kept = kept-then x.kept y.kept;
  }

-- what holds of a block that others follow holds of the last
walk-last : (b : Basin) (from to : Place) (os : List Step) → Walk b false from os to → Walk b true from os to
walk-last b from to [] w = w
walk-last b from to (o ∷ os) w = (record { going = w.0.going; whole = λ e. absurd-bool refl e; meets = w.0.meets }, walk-last b (after b from o) to os w.1)

pub block_last : {block : List ℕ} {u v : ℕ} {l l' : Listing} → BlockListed block false u l l' v → BlockListed block true u l l' v
block_last {block} {u} {v} {l} {l'} w = record {
  steps = w.steps;
  walk = walk-last (basin_of l.file.now) (place_in block l u) (place_in block l' v) w.steps w.walk;
  put = w.put;
  in_order = w.in_order;
  used = w.used;
  counted = w.counted;
  kept = w.kept;
}

-- ---- the whole sheets of a block

-- a sheet x as it is cut from what is left of the block, and what is left then
pub record Cut (block rest x y : List ℕ) (u n v : ℕ) : Type 0 where
  pub sheet : x ≡ take n (drop u block)
  pub later : y ≡ drop v block
  pub within : v ≤ length block
  pub long : length x ≡ n

pub cut : {block rest x y : List ℕ} {u n v : ℕ} → u ≤ length block → rest ≡ drop u block → rest ≡ x ++ y → length x ≡ n → v ≡ u + n → Cut block rest x y u n v
cut {block} {rest} {x} {y} {u} {n} {v} h er ex en ev =
    let e : drop u block ≡ x ++ y = sym er ∙ ex in record {
      sheet = sym (take-append_seam x y) ∙ ap (λ (k : ℕ). take k (x ++ y)) en ∙ ap (take n) (sym e);
      later = sym (drop-append_seam x y) ∙ ap (λ (k : ℕ). drop k (x ++ y)) en ∙ ap (drop n) (sym e) ∙ drop-drop n u block ∙ ap (λ (k : ℕ). drop k block) (sym ev);
      within = omega (arith, ap length e, length-append x y, length-drop u block, en, ev, h);
      long = en;
    }

-- the sheets listed so far; the listing goes on
pub record Sofar (block : List ℕ) (l l₁ : Listing) (used : ℕ) : Type 0 where
  pub listed : BlockListed block false 0 l l₁ used
  pub going : l₁.more ≡ true
  pub none : used ≡ 0 → room_of (text_of l₁) ≡ room_of (text_of l)

module _ (block : List ℕ) (l : Listing) (c : CanListBlock block l) where
  pub some_bytes : 0 < sheet_bytes (basin_of l.file.now)
  some_bytes = omega (arith, (accepted-facts l.file.now c.step.in_order.accepted).connected.some_row)

  pub sofar-none : Sofar block l l 0
  sofar-none = record { listed = block_none block false l 0 c.step.in_order (omega arith); going = c.going; none = λ _. refl }

  module _ (l₁ : Listing) (used : ℕ) (s : Sofar block l l₁ used) where
    -- where the next sheet is not listed
    pub sheets-end : (sheet_bytes (basin_of l.file.now) + used ≤ length block → most_text ≤ room_of (text_of l₁) → ⊥) → SheetsListed block l l₁ used
    sheets-end n = record { listed = s.listed; sheet = λ h. go h used refl; none = s.none }
      where
        go : sheet_bytes (basin_of l.file.now) ≤ length block → (k : ℕ) → used ≡ k → 0 < k
        go h zero e = absurd (n (omega (arith, h, e)) (omega (arith, s.none e, c.step.room)))
        go h (suc k) e = omega arith

    module _ {rest x y : List ℕ} {v : ℕ} (k : Cut block rest x y used (sheet_bytes (basin_of l.file.now)) v) (e : v ≡ used + sheet_bytes (basin_of l.file.now)) (l₂ : Listing) (w : Stepped x l₁ l₂) where
      same : sheet_bytes (basin_of l₁.file.now) ≡ sheet_bytes (basin_of l.file.now)
      same = ap (λ (f : List ℕ). sheet_bytes (basin_of f)) s.listed.kept.file

      further : BlockListed block false 0 l l₂ v
      further = block-then block false s.listed
          (block_one block false l₁ l₂ used v x s.going (λ _. omega (arith, same, k.within, e, length-drop used block)) (k.sheet ∙ ap (λ (j : ℕ). take j (drop used block)) (sym same))
          (ap (λ (j : ℕ). drop j block) (omega (arith, e, same)) ∙ sym (drop-drop (sheet_bytes (basin_of l₁.file.now)) used block)) (omega (arith, e, k.long)) k.within w)

      pub sofar-more : l₂.more ≡ true → Sofar block l l₂ v
      sofar-more m = record { listed = further; going = m; none = λ z. absurd (omega (arith, z, e, some_bytes)) }

      pub sheets-ended : SheetsListed block l l₂ v
      sheets-ended = record { listed = further; sheet = λ _. omega (arith, e, some_bytes); none = λ z. absurd (omega (arith, z, e, some_bytes)) }

-- ---- the whole block

-- what follows the sheets, as it is cut
pub part-rest : (block : List ℕ) (u : ℕ) → take (length block - u) (drop u block) ≡ drop u block
part-rest block u = take_all (length block - u) (drop u block) (omega (arith, length-drop u block))

module _ (block : List ℕ) (l : Listing) (c : CanListBlock block l) (l₁ : Listing) (used : ℕ) (s : SheetsListed block l l₁ used) where
  abbrev Answered : Bool → Listing → ℕ → Type 0
  Answered last l' v = BlockListed block last 0 l l' v × Moves (basin_of l.file.now) block last l' v

  listed_as : (last : Bool) → BlockListed block last 0 l l₁ used
  listed_as true = block_last s.listed
  listed_as false = s.listed

  -- where what follows the sheets is not listed
  pub sheets-all : (last : Bool) → (last ≡ true → (sheet_bytes (basin_of l.file.now) + used ≤ length block → ⊥) → most_text ≤ room_of (text_of l₁) → l₁.more ≡ false) → Answered last l₁ used
  sheets-all last end = (
    listed_as last,
    record { sheet = s.sheet; end = λ e z. end e (λ h. omega (arith, z, s.sheet (omega (arith, h, z)))) (omega (arith, s.none z, c.step.room)) },
  )

  pub rest-listed : (last : Bool) → last ≡ true → l₁.more ≡ true → (sheet_bytes (basin_of l.file.now) + used ≤ length block → ⊥) → (part : List ℕ) → part ≡ drop used block → (l₂ : Listing) → Stepped part l₁ l₂ → Answered last l₂ (length block)
  rest-listed last last-is going short part part-is l₂ w = subst (λ (t : Bool). Answered t l₂ (length block)) (sym last-is) (
    block-then block true (block_last s.listed)
        (block_one block true l₁ l₂ used (length block) part going (λ e. absurd-bool refl e)
        (part-is ∙ sym (take_all (sheet_bytes (basin_of l₁.file.now)) (drop used block) (omega (arith, few))))
        (drop_of_length-le block {i = length block} (omega arith) ∙ sym (drop_of_length-le (drop used block) {i = sheet_bytes (basin_of l₁.file.now)} (omega (arith, few))))
        (omega (arith, ap length part-is, length-drop used block, s.listed.used)) (omega arith) w),
    record {
      sheet = λ h. omega (arith, h, some_bytes block l c);
      end = λ _ _. short-ends (basin_of l₁.file.now) (standing l₁) part (omega (arith, few, ap length part-is)) _ w.meets;
    },
  )
    where
      few : length (drop used block) < sheet_bytes (basin_of l₁.file.now)
      few = omega (arith, length-drop used block, short, s.listed.used, ap (λ (f : List ℕ). sheet_bytes (basin_of f)) s.listed.kept.file)
