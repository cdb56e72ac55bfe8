-- The hint's move is the first move of a finish. The record that the hint gives says the solver's move back, and the solver's moves lead from a board to one end, in
-- one number of moves: so from the board after the first of them they lead to the same end, in one move less.
use mathlib.Core.Path.{◌≡◌, refl, sym, ap, ◌∙◌}
use mathlib.Core.Bool.{true, false, true≢false}
use Prim.Native.Nat.{ℕ, zero, suc}
use native.Mathlib.Omega.{arith}
use lib.Dec.{eqb}
use borrow.Author.Tests.{eq-eqb}
use Rattle.lists.proofs.Laws.{pick_yes, pick_no}
use Rattle.board.specs.Whole.{Board}
use Rattle.solve_next.specs.Choosing.{all_home, acted, next_act, no_advice, advice_of, act_of}
use Rattle.solve_next.specs.Hints.{hint_refusal, next_advice_in, next_advice, hint_call}
use Rattle.move_guard.proofs.Facts.{intact_vertices, playing-intact}
use Rattle.solve_next.proofs.Advised.{advice_act}
use Rattle.solve_finish.specs.Finishes.{ended, finish_call}
use Rattle.theorem_keep.proofs.Standing.{Standing, standing-playing}
use Rattle.theorem_list.specs.Complete.{SolvedBy, OneFurther}
use Rattle.theorem_list.proofs.Acts.{act_standing}
use Rattle.theorem_list.proofs.Next.{next_accepted}
use Rattle.theorem_list.proofs.Finish.{next, finish_completes, hint_taken}

-- the solver's moves lead to one end, in one number of moves
pub solved_once : (j k : ℕ) (b c d : Board) → SolvedBy j b c → SolvedBy k b d → (j ≡ k) × (c ≡ d)
solved_once zero zero b c d s t = (refl, sym s.1 ∙ t.1)
solved_once zero (suc k) b c d s t = absurd (true≢false (sym s.0 ∙ t.0))
solved_once (suc j) zero b c d s t = absurd (true≢false (sym t.0 ∙ s.0))
solved_once (suc j) (suc k) b c d s t = let r = solved_once j k (next b) c d s.2 t.2 in (ap suc r.0, r.1)

-- every terminal is at the source there, and it is a board of play
pub solved_end : (k : ℕ) (b c : Board) → Standing b → SolvedBy k b c → (all_home c ≡ true) × Standing c
solved_end zero b c st s = rw (← s.1) (s.0, st)
solved_end (suc k) b c st s = solved_end k (next b) c (act_standing b (next_act b) st s.1) s.2

-- with a terminal away there is a first move
first_off : (k : ℕ) (b c : Board) → all_home b ≡ false → SolvedBy k b c → (j : ℕ) × (k ≡ suc j) × SolvedBy j (next b) c
first_off zero b c away s = absurd (true≢false (sym s.0 ∙ away))
first_off (suc k) b c away s = (k, refl, s.2)

module _ (b : Board) (st : Standing b) where
  pub hint_given_lem : (hint_call b).advice ≡ next_advice b
  unfolding hint_call
  hint_given_lem = pick_yes (eqb (hint_refusal b) 0) (next_advice b) no_advice (eq-eqb (hint_refusal b) 0 (hint_taken b st))

  -- with every terminal at the source the hint gives none
  pub hint_none : all_home b ≡ true → (hint_call b).advice ≡ no_advice
  unfolding next_advice_in
  hint_none home = hint_given_lem ∙ pick_yes (all_home b) _ _ home

  module _ (away : all_home b ≡ false) where
    pub hint_advice : (hint_call b).advice ≡ advice_of (next_act b)
    unfolding next_advice_in
    hint_advice = hint_given_lem ∙ pick_no (all_home b) _ _ away

    pub hint_act : act_of (hint_call b).advice ≡ next_act b
    hint_act = ap act_of hint_advice ∙ advice_act b.network b.flows b.marks b.places (omega (arith, intact_vertices b (playing-intact b (standing-playing b st)))) (st.inv.flows_size ∙ st.within.flows_size)

    next_standing : Standing (next b)
    next_standing = act_standing b (next_act b) st (next_accepted b st away)

    one_further : OneFurther b (next b)
    one_further =
        let whole = finish_completes b st in
        let rest = finish_completes (next b) next_standing in
        let off = first_off (finish_call b).count b whole.last away whole.solved in
        let same = solved_once off.0 (finish_call (next b)).count (next b) whole.last rest.last off.2 rest.solved in
        record {
          accepted = whole.accepted;
          accepted_further = rest.accepted;
          board = whole.over ∙ ap (ended b.moves) same.1 ∙ ap (ended b.moves) (sym rest.over);
          count = omega (arith, off.1, same.0);
        }

    pub hint_first : OneFurther b (acted b (act_of (hint_call b).advice))
    hint_first = rw hint_act one_further
