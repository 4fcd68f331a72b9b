-- Lines that are put one after the other. Assumes nothing.
use mathlib.Core.List.{List, [], ◌∷◌, ◌++◌, append_assoc, append-nil}
use mathlib.Core.Path.{◌≡◌, refl, sym, ap, ◌∙◌}
use Prim.Native.Nat.{ℕ, zero, suc, ◌+◌, ◌-◌, ◌*◌, ◌≤◌, ◌<◌}
use native.Mathlib.Numerals.{add-one}
use native.Mathlib.Omega.{arith}
use lib.ListN.{length, get_or, take, drop, length-append, length-drop}
use Rattle.places.specs.Report.{flow_place, evaporation_place}
use Rattle.general.specs.Sums.{sum_to}
use Rattle.std.specs.Prelude.{sum}
use Rattle.std.proofs.lemmas.List.Sums.{fold-append}
use lib.Seq.{take-suc, length-take-le}
use Rattle.std.proofs.lemmas.List.{get_or-drop}
use Rattle.rules.specs.Basin.{Right}
use Rattle.records.specs.Records.{rows_of, reservoir_count, right_count, right_of, rights_of, bodies}
use Rattle.records.specs.declared.bodies.Bodies.{Bodies}
use Rattle.records.proofs.Decoded.{right_is, reservoirs-are, rights-are}
use Rattle.places.specs.Board.{storage_at, due_at}
use Rattle.boards.specs.Board.{storage_sum, due_sum}
use Rattle.records.proofs.Rows.{rows_are}
use Rattle.listing.specs.Listing.{right_line, right_lines, end_line, outflow_in, evaporation_in, month_text}
use Rattle.lines.specs.declared.text.Text.{Text}
use Rattle.lines.specs.Texts.{bytes_of, room_of}
use Rattle.lines.specs.Putting.{most_text, Put, PutAt}

-- ---- one after the other

-- nothing is added
pub put_none : {a : ℕ} (t : Text) → Put a [] t t
put_none t = record { bytes = sym (append-nil (bytes_of t)); room = omega arith; within = omega arith; same_list = refl }

-- a line said in another way, no longer than b
pub put_as : {a b : ℕ} {x y : List ℕ} {t u : Text} → x ≡ y → length y ≤ b → Put a x t u → Put b y t u
put_as {t} e h p = record {
  bytes = p.bytes ∙ ap (λ (l : List ℕ). bytes_of t ++ l) e;
  room = omega (arith, p.room, ap length e);
  within = h;
  same_list = p.same_list;
}

pub put_then : {a b : ℕ} {x y : List ℕ} {t u v : Text} → Put a x t u → Put b y u v → Put (a + b) (x ++ y) t v
put_then {x} {y} {t} p q = record {
  bytes = q.bytes ∙ ap (λ (l : List ℕ). l ++ y) p.bytes ∙ append_assoc (bytes_of t) x y;
  room = omega (arith, p.room, q.room, length-append x y);
  within = omega (arith, p.within, q.within, length-append x y);
  same_list = q.same_list ∙ p.same_list;
}

-- the list is as long as it was
pub list_kept : {a : ℕ} {x : List ℕ} {t u : Text} → Put a x t u → length (bytes_of u) + room_of u ≡ length (bytes_of t) + room_of t
list_kept {x} {t} p = omega (arith, p.room, ap length p.bytes, length-append (bytes_of t) x)

-- what is written stands at the start of the list, which a caller may lend to others then
pub in_list : (t : Text) {x : List ℕ} → bytes_of t ≡ x → take (length x) t.list.now ≡ x
unfolding bytes_of
in_list t e = ap (λ (k : ℕ). take k t.list.now) (sym (ap length e) ∙ length-take-le t.len t.list.now t.within) ∙ e

-- two texts are alike where their lists hold the same and as much is written
module _ (t u : Text) (list : u.list.now ≡ t.list.now) (len : u.len ≡ t.len) where
  pub same-bytes : bytes_of u ≡ bytes_of t
  unfolding bytes_of
  same-bytes = λ z. take (len z) (list z)

  pub same-room : room_of u ≡ room_of t
  unfolding room_of
  same-room = λ z. length (list z) - len z

-- A line that was put into a text u that is like t, whose list was lent to it: after it t' is like u'.
pub put_through : {a : ℕ} {x : List ℕ} {t u u' t' : Text} → u.list.now ≡ t.list.now → u.len ≡ t.len → Put a x u u' → t'.list.now ≡ u'.list.now → t'.len ≡ u'.len → t'.list.ghost_name ≡ t.list.ghost_name → Put a x t t'
put_through {x} {t} {u} {u'} {t'} e n p e' n' same = record {
  bytes = same-bytes u' t' e' n' ∙ p.bytes ∙ ap (λ (l : List ℕ). l ++ x) (same-bytes t u e n);
  room = omega (arith, p.room, same-room u' t' e' n', same-room t u e n);
  within = p.within;
  same_list = same;
}

pub len-is : (t : Text) → length (bytes_of t) ≡ t.len
unfolding bytes_of
len-is t = length-take-le t.len t.list.now t.within

-- what was put into a text stands in its list
pub put_at : {a : ℕ} {x : List ℕ} (t u : Text) → Put a x t u → PutAt t.len x t.list.now u.list.now u.len
unfolding bytes_of
put_at {x} t u p = record { put = p.bytes; ends = omega (arith, len-is t, len-is u, ap length p.bytes, length-append (bytes_of t) x) }

-- the list is as long as what is written and the room together
pub list-long : (t : Text) → length t.list.now ≡ length (bytes_of t) + room_of t
unfolding bytes_of room_of
list-long t = omega (arith, t.within, length-take-le t.len t.list.now t.within)

-- a word and the byte after it, and then the rest of the line
pub word-then : {a b : ℕ} {l : List ℕ} {t u v : Text} (w : List ℕ) (x : ℕ) → Put a (w ++ (x ∷ [])) t u → Put b l u v → Put (a + b) (w ++ (x ∷ l)) t v
word-then {l} w x p q =
    let all = put_then p q in
    let e = append_assoc w (x ∷ []) l in
    put_as e (omega (arith, all.within, ap length e)) all

-- ---- the rights' lines

module _ (month : ℕ) (rights report : List ℕ) (t : Text) where
  abbrev so_far : ℕ → List ℕ
  so_far = right_lines month (rights_of rights) report

  pub lines_none : Put 0 (so_far 0) t t
  unfolding right_lines
  lines_none = put_none t

  pub lines_more : (i : ℕ) (u v : Text) → i < right_count rights → Put (126 * i) (so_far i) t u → Put 126 (right_line month (right_of rights i) report i) u v → Put (126 * (i + 1)) (so_far (i + 1)) t v
  unfolding right_lines
  lines_more i u v h p q =
      let all = put_then p q in
      let e : so_far i ++ right_line month (right_of rights i) report i ≡ so_far (i + 1) =
      rw (add-one i) (ap (λ (x : Right). so_far i ++ right_line month x report i) (sym (right_is rights i h))) in
      put_as e (omega (arith, all.within, ap length e)) all

-- ---- the month

-- n numbers from a place on, by their places
part-sum : (l : List ℕ) (first n : ℕ) → first + n ≤ length l → sum (take n (drop first l)) ≡ sum_to n (λ v. get_or l (first + v) 0)
unfolding sum_to
part-sum l first zero h = refl
part-sum l first (suc n) h =
    ap sum (take-suc (drop first l) n 0 (omega (arith, length-drop first l))) ∙ fold-append (λ (a x : ℕ). a + x) 0 (take n (drop first l)) (get_or (drop first l) n 0 ∷ [])
    ∙ (λ z. part-sum l first n (omega arith) z + get_or-drop first l n 0 z)

bounded-sum : (n m : ℕ) (f : ℕ → ℕ) → ((v : ℕ) → v < n → f v ≤ m) → sum_to n f ≤ m * n
unfolding sum_to
bounded-sum zero m f h = omega arith
bounded-sum (suc n) m f h = omega (arith, bounded-sum n m f (λ v k. h v (omega arith)), h n (omega arith))

-- what few reservoirs lost is a small number
module _ (l : List ℕ) (first n : ℕ) (h : first + n ≤ length l) where
  same-part : take (first + n - first) (drop first l) ≡ take n (drop first l)
  same-part = let e : first + n - first ≡ n = omega arith in ap (λ (k : ℕ). take k (drop first l)) e

  pub few-lost : n ≤ 8 → ((v : ℕ) → v < n → get_or l (first + v) 0 ≤ 2000000000) → sum (take (first + n - first) (drop first l)) < 18446744073709551616
  few-lost few small = omega (arith, few, ap sum same-part, part-sum l first n h, bounded-sum n 2000000000 (λ v. get_or l (first + v) 0) small)

  pub lost-at : sum (take (first + n - first) (drop first l)) ≡ sum_to n (λ v. get_or l (first + v) 0)
  lost-at = ap sum same-part ∙ part-sum l first n h

module _ (w : Bodies) (ps report board : List ℕ) (month x y z : ℕ) {t u v : Text} where
  pub month-put : Put 32256 (right_lines month (rights_of w.rights.now) report (right_count w.rights.now)) t u
      → x ≡ sum_to (reservoir_count w.reservoirs.now) (λ v. get_or report (evaporation_place (right_count w.rights.now) (rows_of w.stations.now) v) 0)
      → y ≡ sum_to (reservoir_count w.reservoirs.now) (storage_at board)
      → z ≡ sum_to (rows_of w.stations.now) (λ u. sum_to 11 (λ j. due_at board u (suc j)))
      → Put 109 (end_line month (get_or report (flow_place (right_count w.rights.now) (rows_of w.stations.now - 1)) 0) x y z) u v
      → Put most_text (month_text (bodies w.stations.now w.reservoirs.now ps w.rights.now) month report board) t v
  unfolding month_text outflow_in evaporation_in bodies storage_sum due_sum
  month-put put ex ey ez end =
      let all = put_then put end in
      let lines : List ℕ = right_lines month (rights_of w.rights.now) report (right_count w.rights.now) in
      let outflow : ℕ = get_or report (flow_place (right_count w.rights.now) (rows_of w.stations.now - 1)) 0 in
      let e : lines ++ end_line month outflow x y z ≡ month_text (bodies w.stations.now w.reservoirs.now ps w.rights.now) month report board =
      rw (rights-are w.rights.now, reservoirs-are w.reservoirs.now, rows_are w.stations.now) (λ i. lines ++ end_line month outflow (ex i) (ey i) (ez i)) in
      put_as e (omega (arith, all.within, ap length e)) all
