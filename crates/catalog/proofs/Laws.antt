-- The walk to a board's start, one row of a list, the three parts of a board's text, and the call's three answers.
use mathlib.Core.Path.{◌≡◌, refl}
use mathlib.Core.Logic.{◌⊎◌, inl, inr}
use mathlib.Core.List.{List, [], ◌++◌, append-nil}
use Prim.Native.Nat.{ℕ, suc, ◌+◌, ◌-◌, ◌*◌, ◌≤◌, ◌<◌, min}
use native.Mathlib.Nat.{zero-add, mul-suc, mul-le-mul_left}
use native.Mathlib.Omega.{arith}
use lib.ListN.{length, get_or, take, drop, drop_of_length-le}
use lib.Seq.{sets, sets-eq, drop-drop, drop-length}
use borrow.Author.Tests.{le-leb, lt-leb}
use Rattle.lists.specs.Choice.{pick}
use Rattle.text.specs.Text.{line_text, lines_text}
use Rattle.lists.proofs.Laws.{lt_or_ge, rest_part}
use Rattle.text_writer.proofs.Writing.{TextLeft, left_part, left_none}
use Rattle.catalog.specs.Catalog.{boards, span, boards_from, table_row, board_text, catalog_text, catalog_call, catalogued}

-- one turn of the walk to a board's start, which stops at the end of the list
module _ (t : List ℕ) (k i at next : ℕ) (l : i < k) (p : next ≡ at + span (take (length t - at) (drop at t))) (whole : List ℕ)
    (h : boards_from (k - i) (drop at t) ≡ whole) where
  passed : boards_from (k - (i + 1)) (drop next t) ≡ whole
  unfolding boards_from
  passed = let e : k - i ≡ suc (k - (i + 1)) = omega arith in rw (p, rest_part t at, ← drop-drop (span (drop at t)) at t) (rw e at h)

  pub boards_turned : (to : ℕ) → to ≡ min (length t) next → boards_from (k - (i + 1)) (drop to t) ≡ whole
  boards_turned to e = go (lt_or_ge next (length t))
    where
      go : (next < length t) ⊎ (length t ≤ next) → boards_from (k - (i + 1)) (drop to t) ≡ whole
      go (inl less) = let q : to ≡ next = omega arith in rw q passed
      go (inr most) = let q : to ≡ length t = omega arith in rw (q, drop-length t) (rw (drop_of_length-le t most) at passed)

pub boards_reached : (rest : List ℕ) (k i : ℕ) → k ≤ i → (whole : List ℕ) → boards_from (k - i) rest ≡ whole → rest ≡ whole
unfolding boards_from
boards_reached rest k i l whole h = let e : k - i ≡ 0 = omega arith in rw e at h

-- row i of n rows: it ends where they end or before, and is what the code lends
pub row_fits : (w i n : ℕ) → i < n → w * i + w ≤ w * n
row_fits w i n l = let m : w * suc i ≤ w * n = mul-le-mul_left w (omega arith) in omega (arith, mul-suc w i)

-- the three parts of a board's text, one behind the other
module _ (t buf b1 b2 b3 : List ℕ) (p1 p2 p3 e n : ℕ) where
  pub board_written : e ≡ get_or t 1 0 → n ≡ get_or t 2 0
      → p1 ≡ 0 + length (line_text 66 (take 4 t)) → b1 ≡ sets buf 0 (line_text 66 (take 4 t))
      → p2 ≡ p1 + length (lines_text 67 (table_row 3 (take (length t - 4) (drop 4 t))) 0 e)
      → b2 ≡ sets b1 p1 (lines_text 67 (table_row 3 (take (length t - 4) (drop 4 t))) 0 e)
      → p3 ≡ p2 + length (lines_text 87 (table_row 2 (take (length t - (4 + 3 * e)) (drop (4 + 3 * e) t))) 0 n)
      → b3 ≡ sets b2 p2 (lines_text 87 (table_row 2 (take (length t - (4 + 3 * e)) (drop (4 + 3 * e) t))) 0 n)
      → (p3 ≡ length (board_text t)) × (b3 ≡ sets buf 0 (board_text t))
  unfolding board_text
  board_written he hn q1 e1 q2 e2 q3 e3 =
      let edges = lines_text 67 (table_row 3 (drop 4 t)) 0 (get_or t 1 0) in
      let terminals = lines_text 87 (table_row 2 (drop (4 + 3 * get_or t 1 0) t)) 0 (get_or t 2 0) in
      let l0 : TextLeft buf (sets buf 0 (board_text t)) 0 (length (board_text t)) (board_text t) = record { size = zero-add _; gives = refl } in
      let l1 = left_part (line_text 66 (take 4 t)) (edges ++ terminals) b1 p1 l0 e1 q1 in
      let l2 = left_part edges terminals b2 p2 l1 (rw (rest_part t 4, he) at e2) (rw (rest_part t 4, he) at q2) in
      let rest = rest_part t (4 + 3 * e) in
      left_none (left_part terminals [] b3 p3 (rw append-nil l2) (rw (rest, he, hn) at e3) (rw (rest, he, hn) at q3))

-- stores from the start of a buffer on, where it is long enough
pub sets_front : (xs buf : List ℕ) → length xs ≤ length buf → sets buf 0 xs ≡ xs ++ drop (length xs) buf
sets_front xs buf fits = rw zero-add at (sets-eq xs buf 0 (rw zero-add fits))

-- the call's three answers
module _ (k : ℕ) (buf : List ℕ) where
  abbrev the_text : List ℕ
  the_text = catalog_text k

  pub call_none : boards ≤ k → (record { answer = 2; used = 0 } ≡ catalog_call k (length buf)) × (buf ≡ catalogued k buf)
  unfolding catalog_call catalogued pick
  call_none h = let e = le-leb boards k h in (rw e, rw e)

  module _ (h : k < boards) where
    pub call_short : length buf < length the_text → (record { answer = 8; used = 0 } ≡ catalog_call k (length buf)) × (buf ≡ catalogued k buf)
    unfolding catalog_call catalogued pick
    call_short less = let e = lt-leb boards k h in let f = lt-leb (length the_text) (length buf) less in (rw (e, f), rw (e, f))

    pub call_done : length the_text ≤ length buf → (n : ℕ) (out : List ℕ) → n ≡ length the_text → out ≡ the_text ++ drop (length the_text) buf
        → (record { answer = 0; used = n } ≡ catalog_call k (length buf)) × (out ≡ catalogued k buf)
    unfolding catalog_call catalogued pick
    call_done fits n out p q = let e = lt-leb boards k h in let f = le-leb (length the_text) (length buf) fits in (rw (e, f, p), rw (e, f) q)
