-- `entries::names::same_name` meets its contract.
use Rattle.std.proofs.Common.{arith, ap, List, ℕ}
use Rattle.std.proofs.lemmas.Bool.{eq-eqb, eqb-true}
use Rattle.std.proofs.lemmas.Bool.Decides.{Decides-eqb}
use Rattle.std.proofs.lemmas.Slice.Eq.{slice_eq-Decides}
use Rattle.std.proofs.lemmas.Grind.{same_number_lists}
use Rattle.general.proofs.Search.{all-make, all-at}
use Rattle.general.proofs.Tests.{tests_same}
use Rattle.numbers.specs.Bytes.{byte_at}
use Rattle.entries.specs.Entries.{name_length, same_name}
use Rattle.entries.proofs.names.same_name.Goals as goal

pub returns : goal.returns
unfolding same_name
returns c =
    let p = c.args.part in
    let n = c.args.name in
    let same = slice_eq-Decides Decides-eqb p n c.eq.result c.eq.ensures in
    tests_same c.eq.result (same_name p n)
    (λ e. all-make name_length _ (λ j o. eq-eqb _ _ (ap (λ (l : List ℕ). byte_at l j) (same.0 e))))
    (λ e. same.1 (same_number_lists p n (omega arith) (λ j o. eqb-true _ _ (all-at name_length _ e j (omega arith)))))
