-- A list's front and what follows it. Assumes nothing.
use Rattle.std.proofs.Common.{◌≡◌, ℕ, ◌+◌, ◌-◌, ◌≤◌, List, ◌++◌, append_assoc, length, length-take-le, take, drop, sym, ap, ◌∙◌}
use Rattle.std.proofs.lemmas.List.{take_rest, take-append-drop, take-append-le}
use borrow.Rule.Slice.PartMut.{put_mid, post_of}
use lib.Seq.{take-append-add}

-- what was read goes on after the front that stays
pub front_and_read : (a k n : ℕ) (old read : List ℕ) → a ≤ length old → n ≤ length read → take a old ++ take n read ≡ take (a + n) (put_mid a k old read)
front_and_read a k n old read within fits =
    let after = post_of a k old in
    sym (ap (λ m. take (m + n) (put_mid a k old read)) (sym (length-take-le a old within)) ∙ take-append-add (take a old) (read ++ after) n
    ∙ ap (λ l. take a old ++ l) (take-append-le n read after fits))

-- what was written goes on after what was before, and the rest is still to come
pub written_and_rest : (all done rest : List ℕ) (n : ℕ) → all ≡ done ++ rest → all ≡ (done ++ take n rest) ++ take (length rest - n) (drop n rest)
written_and_rest all done rest n e =
    e ∙ ap (λ l. done ++ l) (sym (take-append-drop n rest)) ∙ sym (append_assoc done (take n rest) (drop n rest)) ∙ ap (λ l. (done ++ take n rest) ++ l) (sym (take_rest rest n))
