-- Writing a text part by part: stores behind each other are the stores of the whole, so what is left to write into the buffer as it is now
-- gives what the whole text gives, written into the first buffer.
use mathlib.Core.Path.{◌≡◌, refl, sym, ◌∙◌}
use mathlib.Core.Bool.{true, false}
use mathlib.Core.List.{List, [], ◌∷◌, ◌++◌, append-nil}
use Prim.Native.Nat.{ℕ, suc, ◌+◌, ◌-◌, ◌<◌, ◌≤◌}
use native.Mathlib.Numerals.{add-one, towards_suc}
use native.Mathlib.Nat.{add-zero, zero-add}
use native.Mathlib.Omega.{arith}
use lib.Dec.{ltb}
use lib.ListN.{length, get_or, set, drop, length-append, drop_of_length-le}
use lib.Seq.{sets, sets-eq, drop-cons}
use Rattle.lists.specs.Choice.{pick}
use Rattle.decimal.specs.Decimal.{decimal}
use Rattle.text.specs.Text.{numbers_text, line_text, lines_text, head_row, edge_row, terminal_row, text_of}
use borrow.Author.Tests.{leb-true, le-leb, lt-leb}
use Rattle.lists.proofs.Laws.{both_left, both_right}
use Rattle.board.specs.declared.Network.{Network}
use Rattle.board.specs.Limits.{max_edges, max_terminals}
use Rattle.text_rules.specs.Rules.{lawful}
use Rattle.text.specs.Results.{writable, write_text_in, written_in}
use Rattle.text.proofs.Ends.{end_after}

pub sets_append : (xs l ys : List ℕ) (i : ℕ) → sets l i (xs ++ ys) ≡ sets (sets l i xs) (i + length xs) ys
sets_append [] l ys i = rw add-zero
sets_append (x ∷ xs) l ys i = sets_append xs (set l i x) ys (suc i) ∙ (let e : suc i + length xs ≡ i + suc (length xs) = omega arith in rw e)

-- what is left of a text that is written from a place on: its length, and what the buffer comes to
pub record TextLeft (buf total : List ℕ) (to end : ℕ) (rest : List ℕ) : Type 0 where
  pub size : to + length rest ≡ end
  pub gives : sets buf to rest ≡ total

-- a part of it is written
pub left_part : {buf total : List ℕ} {to end : ℕ} (part rest next : List ℕ) (after : ℕ) → TextLeft buf total to end (part ++ rest)
    → next ≡ sets buf to part → after ≡ to + length part → TextLeft next total after end rest
left_part {buf} {total} {to} part rest next after l e p = record {
  size = omega (arith, l.size, length-append part rest);
  gives = rw (e, p) (sym (sets_append part buf rest to) ∙ l.gives);
}

-- nothing is left
pub left_none : {buf total : List ℕ} {to end : ℕ} → TextLeft buf total to end [] → (to ≡ end) × (buf ≡ total)
left_none l = (omega (arith, l.size), l.gives)

-- one number of a line, with its end
pub numbers_cut : (values : List ℕ) (i : ℕ) → i < length values
    → numbers_text (drop i values) ≡ decimal (get_or values i 0) ++ (pick (ltb 0 (length values - i - 1)) 44 10 ∷ numbers_text (drop (suc i) values))
unfolding numbers_text
numbers_cut values i h = rw (drop-cons values i 0 h, end_after values (length values) i refl h)

-- one line of a run
pub lines_cut : (x : ℕ) (row : ℕ → List ℕ) (n i : ℕ) → i < n → lines_text x row i (n - i) ≡ line_text x (row i) ++ lines_text x row (i + 1) (n - (i + 1))
unfolding lines_text
lines_cut x row n i h = let e : n - i ≡ suc (n - suc i) = omega arith in rw (add-one i, e)

pub lines_none : (x : ℕ) (row : ℕ → List ℕ) (n i : ℕ) → n ≤ i → lines_text x row i (n - i) ≡ []
unfolding lines_text
lines_none x row n i h = let e : n - i ≡ 0 = omega arith in rw e

-- the letter and the comma are written
pub line-begun : (x at : ℕ) (vs buf b1 b2 : List ℕ) → b1 ≡ set buf at x → b2 ≡ set b1 (at + 1) 44 → sets b2 (at + 2) (numbers_text vs) ≡ sets buf at (line_text x vs)
unfolding line_text
line-begun x at vs buf b1 b2 e f = simp (f, e, towards_suc)

pub line-length : (x at : ℕ) (vs : List ℕ) → at + 2 + length (numbers_text vs) ≡ at + length (line_text x vs)
unfolding line_text
line-length x at vs = omega arith

-- one round of the line's loop, from what the code knows
pub line_turned : (values : List ℕ) (i : ℕ) → i < length values → {buf total : List ℕ} {to end : ℕ} → TextLeft buf total to end (numbers_text (drop i values))
    → (b1 b2 : List ℕ) (p e : ℕ) → b1 ≡ sets buf to (decimal (get_or values i 0)) → p ≡ to + length (decimal (get_or values i 0))
    → e ≡ pick (ltb 0 (length values - i - 1)) 44 10 → b2 ≡ set b1 p e → TextLeft b2 total (p + 1) end (numbers_text (drop (i + 1) values))
line_turned values i h {buf} {total} {to} {end} l b1 b2 p e e1 e0 en e2 =
    let whole : TextLeft buf total to end (decimal (get_or values i 0) ++ (e ∷ numbers_text (drop (suc i) values))) = rw (en, ← numbers_cut values i h) l in
    let digits = left_part (decimal (get_or values i 0)) (e ∷ numbers_text (drop (suc i) values)) b1 p whole e1 e0 in
    rw (add-one i) (left_part (e ∷ []) (numbers_text (drop (suc i) values)) b2 (p + 1) digits e2 refl)

pub line_done : (values : List ℕ) (i : ℕ) → length values ≤ i → {buf total : List ℕ} {to end : ℕ} → TextLeft buf total to end (numbers_text (drop i values))
    → (to ≡ end) × (buf ≡ total)
unfolding numbers_text
line_done values i h l = left_none (rw (drop_of_length-le values h) at l)

-- one round of a loop over lines: vs are the numbers of its row
pub lines_turned : (x : ℕ) (row : ℕ → List ℕ) (n i : ℕ) → i < n → {buf total : List ℕ} {to end : ℕ} → TextLeft buf total to end (lines_text x row i (n - i))
    → (vs b : List ℕ) (p : ℕ) → vs ≡ row i → b ≡ sets buf to (line_text x vs) → p ≡ to + length (line_text x vs)
    → TextLeft b total p end (lines_text x row (i + 1) (n - (i + 1)))
lines_turned x row n i h l vs b p v e q =
    left_part (line_text x (row i)) (lines_text x row (i + 1) (n - (i + 1))) b p (rw (lines_cut x row n i h) at l) (rw v at e) (rw v at q)

pub lines_done : (x : ℕ) (row : ℕ → List ℕ) (n i : ℕ) → n ≤ i → {buf total : List ℕ} {to end : ℕ} → TextLeft buf total to end (lines_text x row i (n - i))
    → (to ≡ end) × (buf ≡ total)
lines_done x row n i h l = left_none (rw (lines_none x row n i h) at l)

-- the three parts of a text, one behind the other
module _ (net : Network) (buf b1 b2 b3 : List ℕ) (p1 p2 p3 : ℕ) where
  pub text_written : p1 ≡ 0 + length (line_text 66 (head_row net)) → b1 ≡ sets buf 0 (line_text 66 (head_row net))
      → p2 ≡ p1 + length (lines_text 67 (edge_row net) 0 net.edges) → b2 ≡ sets b1 p1 (lines_text 67 (edge_row net) 0 net.edges)
      → p3 ≡ p2 + length (lines_text 87 (terminal_row net) 0 net.terminals) → b3 ≡ sets b2 p2 (lines_text 87 (terminal_row net) 0 net.terminals)
      → (p3 ≡ length (text_of net)) × (b3 ≡ sets buf 0 (text_of net))
  unfolding text_of
  text_written q1 e1 q2 e2 q3 e3 =
      let edges = lines_text 67 (edge_row net) 0 net.edges in
      let terminals = lines_text 87 (terminal_row net) 0 net.terminals in
      let l0 : TextLeft buf (sets buf 0 (text_of net)) 0 (length (text_of net)) (text_of net) = record { size = zero-add _; gives = refl } in
      let l1 = left_part (line_text 66 (head_row net)) (edges ++ terminals) b1 p1 l0 e1 q1 in
      let l2 = left_part edges terminals b2 p2 l1 e2 q2 in
      left_none (left_part terminals [] b3 p3 (rw append-nil l2) e3 q3)

-- what the counts of a writable board allow
pub writable_counts : (stage : ℕ) (net : Network) → writable stage net ≡ true → (net.edges ≤ max_edges) × (net.terminals ≤ max_terminals)
unfolding writable lawful
writable_counts stage net h =
    let counts = both_left _ _ (both_right _ _ h) in
    let rest = both_right _ _ counts in
    (leb-true _ _ (both_right _ _ (both_left _ _ rest)), leb-true _ _ (both_right _ _ (both_left _ _ (both_right _ _ rest))))

-- the writer's three answers
module _ (stage : ℕ) (net : Network) (buf : List ℕ) where
  pub write_closed : writable stage net ≡ false → (record { answer = 29; used = 0 } ≡ write_text_in stage net (length buf)) × (buf ≡ written_in stage net buf)
  unfolding write_text_in written_in pick
  write_closed h = (rw h, rw h)

  module _ (h : writable stage net ≡ true) where
    pub write_short : length buf < length (text_of net) → (record { answer = 8; used = 0 } ≡ write_text_in stage net (length buf)) × (buf ≡ written_in stage net buf)
    unfolding write_text_in written_in pick
    write_short less = let e = lt-leb (length (text_of net)) (length buf) less in (rw (h, e), rw (h, e))

    pub write_done : (n : ℕ) (out : List ℕ) → length (text_of net) ≤ length buf → n ≡ length (text_of net) → out ≡ sets buf 0 (text_of net)
        → (record { answer = 0; used = n } ≡ write_text_in stage net (length buf)) × (out ≡ written_in stage net buf)
    unfolding write_text_in written_in pick
    write_done n out fits p q =
        let e = le-leb (length (text_of net)) (length buf) fits in
        let all = sets-eq (text_of net) buf 0 (rw zero-add fits) in
        (rw (h, e, p), rw (h, e) (q ∙ (rw zero-add at all)))
