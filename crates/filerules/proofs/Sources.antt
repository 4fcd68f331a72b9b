-- The rules that go by the reservoir that a right names, whose row has been looked up. Assumes nothing.
use Rattle.std.specs.Prelude.{Option, None, Some, MatchOption}
use Rattle.std.specs.Option.{option_eq}
use mathlib.Core.Path.{◌≡◌, sym, ap, ◌∙◌}
use mathlib.Core.Bool.{Bool, false}
use mathlib.Core.List.{List}
use Prim.Native.Nat.{ℕ, ◌<◌, ◌≤◌}
use borrow.Author.Tests.{lt-ltb, le-ltb}
use lib.Dec.{eqb}
use Rattle.general.specs.Tests.{◌and◌, has}
use Rattle.general.proofs.Tests.{by_eqb, eqb_same, eqb-other}
use Rattle.records.specs.Records.{reservoir_count, reservoir_record}
use Rattle.records.specs.Table.{path_by, TableFor, GoodRows}
use Rattle.records.proofs.Table.{walk_is}
use Rattle.filerules.specs.FileRules.{below_reservoir, at_reservoir}

eqb-turned : (m n : ℕ) → eqb m n ≡ eqb n m
eqb-turned m n = by_eqb m n (λ b. b ≡ eqb n m) (λ e. rw e (sym (eqb_same n))) (λ e. sym (eqb-other n m (λ g. e (sym g))))

module _ (rs : List ℕ) (v row : ℕ) (b : Bool) where
  abbrev pub Named : Option ℕ → Type 0
  Named o = MatchOption o (reservoir_count rs ≤ v) (λ x. (v < reservoir_count rs) × (x ≡ (reservoir_record rs v).row))

  pub below-read : (o : Option ℕ) → Named o → (st t : List ℕ) (P : ℕ → Type 0) → TableFor st t → GoodRows st rs
      → MatchOption o (b ≡ false) P → ((x : ℕ) → P x → b ≡ has row (path_by t x)) → b ≡ below_reservoir st rs v row
  unfolding below_reservoir ◌and◌
  below-read None e st t P k g h w = rw (le-ltb _ _ e) h
  below-read (Some x) e st t P k g h w = rw (lt-ltb _ _ e.0) (cc (w x h, walk_is st t k (reservoir_record rs v).row row (g.row_in v e.0)))

  pub at-read : (o : Option ℕ) → Named o → b ≡ option_eq eqb o (Some row) → b ≡ at_reservoir rs v row
  unfolding at_reservoir ◌and◌
  at-read None e h = rw (le-ltb _ _ e) h
  at-read (Some x) e h = rw (lt-ltb _ _ e.0) (h ∙ eqb-turned x row ∙ ap (eqb row) e.1)
