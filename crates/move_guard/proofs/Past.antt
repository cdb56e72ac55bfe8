-- Past the edges and past the terminals a place is intact just where all its numbers are 0.
use mathlib.Core.Path.{◌≡◌, refl, sym, ◌∙◌, ap}
use mathlib.Core.Bool.{Bool, true, false}
use mathlib.Core.List.{List}
use Prim.Native.Nat.{ℕ, ◌≤◌}
use native.Mathlib.Omega.{arith}
use lib.Dec.{leb, ltb, eqb}
use lib.ListN.{get_or}
use borrow.Author.Tests.{eqb-true, eqb-false, le-ltb, lt-leb}
use Rattle.lists.specs.Choice.{pick, both}
use Rattle.lists.specs.Lists.{all}
use Rattle.lists.proofs.Laws.{Known, was_true, was_false, known, all_same}
use Rattle.board.specs.Limits.{max_total}
use Rattle.move_guard.specs.Guard.{edge_numbers_intact, edge_lists_intact, terminal_numbers_intact, terminal_lists_intact, edge_blank_in, terminal_blank_in}

-- tests joined to the left and to the right
three : (a b c d : Bool) → both (both a (both b c)) d ≡ both a (both b (both c d))
unfolding both
three true true c d = refl
three true false c d = refl
three false b c d = refl

two : (a b c : Bool) → both (both a b) c ≡ both a (both b c)
unfolding both
two true b c = refl
two false b c = refl

-- where the flow of the text is 0, the other flows are intact just where they are 0
no_flow : (text acyclic flow : ℕ)
    → both (eqb text 0) (both (leb acyclic text) (pick (eqb acyclic 0) (eqb flow 0) (leb flow max_total))) ≡ both (eqb text 0) (both (eqb acyclic 0) (eqb flow 0))
unfolding both pick
no_flow text acyclic flow = go (known (eqb text 0)) (known (eqb acyclic 0))
  where
    go : Known (eqb text 0) → Known (eqb acyclic 0)
        → both (eqb text 0) (both (leb acyclic text) (pick (eqb acyclic 0) (eqb flow 0) (leb flow max_total))) ≡ both (eqb text 0) (both (eqb acyclic 0) (eqb flow 0))
    go (was_false n) known-acyclic = rw n
    go (was_true t) (was_true z) = rw (eqb-true text 0 t, eqb-true acyclic 0 z)
    go (was_true t) (was_false n) =
        let above = eqb-false acyclic 0 n in
        rw (eqb-true text 0 t, lt-leb acyclic 0 (omega (arith, above)), n)

pub past_edge : (edges vertices tail head text acyclic flow i : ℕ) → edges ≤ i
    → edge_numbers_intact (ltb i edges) tail head text acyclic flow vertices ≡ both (eqb tail 0) (both (eqb head 0) (both (eqb text 0) (both (eqb acyclic 0) (eqb flow 0))))
unfolding pick
past_edge edges vertices tail head text acyclic flow i h =
    rw (le-ltb i edges h) (three (eqb tail 0) (eqb head 0) (eqb text 0) _ ∙ ap (λ (r : Bool). both (eqb tail 0) (both (eqb head 0) r)) (no_flow text acyclic flow))

pub past_terminal : (terminals vertices home demand place j : ℕ) → terminals ≤ j
    → terminal_numbers_intact (ltb j terminals) home demand place vertices ≡ both (eqb home 0) (both (eqb demand 0) (eqb place 0))
unfolding pick
past_terminal terminals vertices home demand place j h = rw (le-ltb j terminals h) (two (eqb home 0) (eqb demand 0) (eqb place 0))

-- the same of all places from one on
pub past_edges : (edges vertices : ℕ) (tails heads texts acyclic flows : List ℕ) (i k : ℕ) → edges ≤ i
    → all (edge_blank_in tails heads texts acyclic flows) i k ≡ all (edge_lists_intact edges vertices tails heads texts acyclic flows) i k
past_edges edges vertices tails heads texts acyclic flows i k h =
    all_same _ _ i k (λ e from to. sym (past_edge edges vertices (get_or tails e 0) (get_or heads e 0) (get_or texts e 0) (get_or acyclic e 0) (get_or flows e 0) e (omega (arith, h, from))))

pub past_terminals : (terminals vertices : ℕ) (homes demands places : List ℕ) (j k : ℕ) → terminals ≤ j
    → all (terminal_blank_in homes demands places) j k ≡ all (terminal_lists_intact terminals vertices homes demands places) j k
past_terminals terminals vertices homes demands places j k h =
    all_same _ _ j k (λ t from to. sym (past_terminal terminals vertices (get_or homes t 0) (get_or demands t 0) (get_or places t 0) t (omega (arith, h, from))))
