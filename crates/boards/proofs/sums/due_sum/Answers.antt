-- `boards::sums::due_sum` meets its contract. Assumes nothing.
use Rattle.std.proofs.Common.{◌≡◌, ◌<◌, ◌≤◌, ◌∙◌, ◌-◌, ◌+◌, ◌*◌, ℕ, suc, List, sum, take, drop, get_or, length, rules, arith}
use Rattle.general.specs.Sums.{sum_to}
use Rattle.general.proofs.Sums.{sum-part, sum_to-rows, sum_to-same, sum_to-most}
use Rattle.places.specs.Board.{board_length, due_at}
use Rattle.places.proofs.BoardPlaces.{place_read}
use Rattle.boards.specs.Bodies.{Bounded}
use Rattle.boards.proofs.sums.due_sum.Goals as goal

-- all that is due at a row
abbrev due : List ℕ → ℕ → ℕ
due l w = sum_to 11 (λ k. due_at l w (suc k))

-- the dues of n rows, which stand next to each other
told : (l : List ℕ) (n m : ℕ) → length l ≡ board_length → n ≤ 64 → m ≡ 11 * n → sum (take m (drop 266 l)) ≡ sum_to n (due l)
told l n m size h e =
    rw e (sum-part l 266 (11 * n) (omega (arith, size)) ∙ sum_to-rows 11 n (λ j. get_or l (266 + j) 0)
    ∙ sum_to-same n _ (due l) (λ w _. sum_to-same 11 _ _ (λ k _. place_read l (omega arith))))

most : (l : List ℕ) (n : ℕ) → Bounded l → n ≤ 64 → sum_to n (due l) ≤ 30976000000000 * n
most l n b h = sum_to-most n 30976000000000 (due l) (λ w o. sum_to-most 11 2816000000000 (λ k. due_at l w (suc k)) (λ k p. b.dues w k (omega arith) p))

pub sum-requires-clause-fits : goal.sum-requires-clause-fits
sum-requires-clause-fits c =
    let n = c.args.n in
    let l = c.args.board.now in
    let m = c.dues_of.result - 266 in
    let fits : sum (take m (drop 266 l)) < 18446744073709551616 = omega (arith, told l n m (omega arith) (omega arith) (omega arith), most l n c.requires.1 (omega arith)) in
    search (rules, fits)

pub returns : goal.returns
returns c =
    let l = c.args.board.now in
    let m = c.dues_of.result - 266 in
    let e : c.sum.result ≡ sum (take m (drop 266 l)) = search rules in
    e ∙ told l c.args.n m (omega arith) (omega arith) (omega arith)
