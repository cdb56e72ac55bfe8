-- The solver's move on a board in play, case by case. Where a carry is open, the terminal found has one over the chosen edge, so the carry is accepted unless the
-- terminal is at the source; and then the run ends, be it that all are at the source or that the carry is refused. Where none is open, the run ends where all are
-- at the source, and else the cycle found is turned.
use mathlib.Core.Path.{◌≡◌, refl, sym, ap, ◌∙◌}
use mathlib.Core.Bool.{true, false}
use mathlib.Core.Logic.{◌≢◌}
use Prim.Native.Nat.{ℕ, zero, suc, ◌-◌, ◌<◌}
use native.Mathlib.Omega.{arith}
use lib.Dec.{eqb}
use borrow.Author.Tests.{lt-ltb, eqb-true, eq-eqb, ne_eqb}
use Rattle.lists.proofs.Laws.{Known, was_true, was_false, known, pick_yes, pick_no, both_left, both_right, both_true, all_from}
use Rattle.board.specs.Whole.{Board}
use Rattle.board.specs.Whole.{Played}
use Rattle.move_guard.specs.Parts.{flow, marked, demand, place}
use Rattle.move_guard.specs.Guard.{playing}
use Rattle.move_guard.proofs.Answers.{answered_yes, answered_no}
use Rattle.move_carry.specs.Opens.{flow_fits, enters, open_terminal, some_open, is_home, is_home_in, is_open_in}
use Rattle.move_carry.specs.Carries.{on_board, carry_refusal, carried, carry_refusal_in, on_board_in}
use Rattle.move_turn.specs.Turns.{turn_refusal, turned}
use Rattle.solve_next.specs.Choosing.{all_home, judge, acted, next_cycle, next_act, all_home_in}
use Rattle.solve_next.proofs.Advised.{next_carry, next_turn}
use Rattle.solve_finish.specs.Finishes.{stepped, stepped_on}
use Rattle.solve_finish.proofs.Stepping.{stepped_home, away, not-playing}
use Rattle.solve_carry.specs.Search.{chosen_edge}
use Rattle.solve_carry.proofs.Resumed.{Chosen, chosen}

-- the carry is open, and its terminal and edge are on the board
abbrev ChosenOn : Board → ℕ → ℕ → Type 0
ChosenOn b i e = Chosen b.network b.flows b.marks b.places i e

chosen_on : (b : Board) → some_open b ≡ true → ChosenOn b (open_terminal b) (chosen_edge b (open_terminal b))
chosen_on b some = chosen b.network b.flows b.marks b.places some

module _ (b : Board) where
  -- an open carry is accepted, but for a terminal at the source
  open_accepted : (i e : ℕ) → playing b ≡ true → ChosenOn b i e → place b i ≢ b.network.source → carry_refusal b i e ≡ 0
  unfolding carry_refusal_in is_home_in on_board_in is_open_in
  open_accepted i e play c out =
      pick_yes (playing b) _ _ play
      ∙ pick_yes (on_board b i e) _ _ (both_true _ _ (lt-ltb _ _ c.terminal) (lt-ltb _ _ c.edge))
      ∙ pick_no (eqb (place b i) b.network.source) _ _ (ne_eqb _ _ out)
      ∙ pick_yes (enters b i e) _ _ (both_left _ _ c.opens)
      ∙ pick_yes (flow_fits (marked b e) (flow b e) (demand b i)) _ _ (both_right _ _ c.opens)

  source_refused : (i e : ℕ) → playing b ≡ true → ChosenOn b i e → place b i ≡ b.network.source → carry_refusal b i e ≡ 21
  unfolding carry_refusal_in is_home_in on_board_in
  source_refused i e play c home =
      pick_yes (playing b) _ _ play
      ∙ pick_yes (on_board b i e) _ _ (both_true _ _ (lt-ltb _ _ c.terminal) (lt-ltb _ _ c.edge))
      ∙ pick_yes (eqb (place b i) b.network.source) _ _ (eq-eqb _ _ home)

  not_home : (i : ℕ) → i < b.network.terminals → place b i ≢ b.network.source → all_home b ≡ false
  unfolding all_home_in is_home_in
  not_home i low out = go (known (all_home b))
    where
      go : Known (all_home b) → all_home b ≡ false
      go (was_true t) = absurd (out (eqb-true _ _ (all_from (is_home b) b.network.terminals i t low)))
      go (was_false t) = t

  -- no move is made where all are at the source, or where the next one is refused
  pub home_stops : all_home b ≡ true → (stepped b).answer ≢ 0
  home_stops h q =
      let n : 28 ≡ (stepped b).answer = ap (λ (p : Played). p.answer) (stepped_home b h) in
      omega (arith, q, n)

  refused_stops : judge b (next_act b) ≢ 0 → (stepped b).answer ≢ 0
  refused_stops r q = go (known (all_home b))
    where
      go : Known (all_home b) → ⊥
      go (was_true t) = home_stops t q
      go (was_false t) =
          r (sym (ap (λ (p : Played). p.answer) (sym (away b t) ∙ answered_no (judge b (next_act b)) b (acted b (next_act b)) r)) ∙ q)

  pub closed_stops : playing b ≡ false → (stepped b).answer ≢ 0
  closed_stops p = refused_stops (λ q. omega (arith, q, not-playing b (next_act b) p))

  module _ (play : playing b ≡ true) (some : some_open b ≡ true) where
    pub step_stuck : place b (open_terminal b) ≡ b.network.source → (stepped b).answer ≢ 0
    step_stuck home = refused_stops (rw (next_carry b some) (λ q. omega (arith, q, source_refused (open_terminal b) (chosen_edge b (open_terminal b)) play (chosen_on b some) home)))

    pub chosen_carry_accepted : place b (open_terminal b) ≢ b.network.source → carry_refusal b (open_terminal b) (chosen_edge b (open_terminal b)) ≡ 0
    chosen_carry_accepted out = open_accepted (open_terminal b) (chosen_edge b (open_terminal b)) play (chosen_on b some) out

    pub step_carry : place b (open_terminal b) ≢ b.network.source
        → stepped b ≡ record { answer = 0; board = carried b (open_terminal b) (chosen_edge b (open_terminal b)) }
    step_carry out =
        sym (away b (not_home (open_terminal b) (chosen_on b some).terminal out))
        ∙ rw (next_carry b some) (answered_yes _ b (carried b (open_terminal b) (chosen_edge b (open_terminal b))) (chosen_carry_accepted out))

  module _ (none : some_open b ≡ false) where
    pub step_turn : all_home b ≡ false → turn_refusal b (next_cycle b) ≡ 0 → stepped b ≡ record { answer = 0; board = turned b (next_cycle b) }
    step_turn out free = sym (away b out) ∙ rw (next_turn b none) (answered_yes _ b (turned b (next_cycle b)) free)

    pub step_refused : turn_refusal b (next_cycle b) ≢ 0 → (stepped b).answer ≢ 0
    step_refused r = refused_stops (rw (next_turn b none) r)

-- a run of n moves at most, from its first one on
pub on_stops : (n : ℕ) (b : Board) → (stepped b).answer ≢ 0 → stepped_on n b ≡ b
unfolding stepped_on
on_stops zero b s = refl
on_stops (suc n) b s = rw (ne_eqb (stepped b).answer 0 s, stepped_on)

pub on_goes : (n : ℕ) (b next : Board) → 0 < n → stepped b ≡ record { answer = 0; board = next } → stepped_on n b ≡ stepped_on (n - 1) next
unfolding stepped_on
on_goes zero b next h e = absurd (omega arith)
on_goes (suc n) b next h e =
    let made : (stepped b).answer ≡ 0 = ap (λ (p : Played). p.answer) e in
    let less : suc n - 1 ≡ n = omega arith in
    rw (less, made, stepped_on) (ap (λ (p : Played). stepped_on n p.board) e)
