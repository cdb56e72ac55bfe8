-- Why the move by the parts of a board is the solver's move on the board: the searches over the parts read the board's own lists, so they find its terminal, its
-- edge and its cycle. Where a carry is open, it is made or the run ends; where none is, the run ends with all at the source, or the turn is made or refused.
use mathlib.Core.Path.{◌≡◌, refl, sym, ◌∙◌, subst}
use mathlib.Core.Bool.{true, false}
use mathlib.Core.Logic.{◌⊎◌, inl, inr, ◌≢◌}
use mathlib.Core.List.{List}
use Prim.Native.Nat.{ℕ, ◌+◌, ◌-◌}
use native.Mathlib.Omega.{arith}
use lib.Dec.{leb, eqb}
use lib.ListN.{length, length-set}
use borrow.Author.Tests.{eqb-true, eqb-false}
use Rattle.lists.specs.Choice.{pick, both}
use Rattle.lists.proofs.Laws.{Known, was_true, was_false, known, eq_or_ne, pick_yes, pick_no}
use Rattle.board.specs.Limits.{max_edges, max_terminals, max_moves}
use Rattle.board.specs.Whole.{Board}
use Rattle.graph_flows.specs.Trails.{Step}
use Rattle.move_guard.specs.Parts.{flow, demand, place}
use Rattle.move_guard.specs.Guard.{playing}
use Rattle.move_guard.specs.Moved.{moved, unchanged}
use Rattle.move_guard.specs.Moved.{Change}
use Rattle.move_carry.specs.Opens.{open_terminal, some_open}
use Rattle.move_carry.specs.Carries.{carried_in}
use Rattle.move_cycle.specs.Steps.{gather}
use Rattle.move_cycle.proofs.Shifting.{shifted_length}
use Rattle.move_turn.specs.Turns.{turn_refusal, turned, turn_refusal_in, turned_in, turn_change}
use Rattle.move_turn.proofs.Changes.{change_accepted, change_refused}
use Rattle.solve_next.specs.Choosing.{Act, all_home, next_cycle, next_act}
use Rattle.solve_next.proofs.Advised.{next_carry, next_turn}
use Rattle.solve_finish.specs.Finishes.{stepped}
use Rattle.solve_finish.specs.Run.{all_small, carry_step, step_for, step_change}
use Rattle.solve_finish.proofs.Staying.{carry_stays, turn_stays}
use Rattle.solve_finish.proofs.Making.{home_stops, step_stuck, chosen_carry_accepted, step_carry, step_turn, step_refused}
use Rattle.solve_carry.specs.Search.{chosen_edge}

-- a change is the solver's move on a board
pub record FollowsChange (b : Board) (c : Change) : Type 0 where
  pub refused : c.answer ≢ 0 → (stepped b).answer ≢ 0
  pub made : c.answer ≡ 0 → stepped b ≡ record { answer = 0; board = moved b c.flows c.marks c.places c.entry }
  pub stays : c.answer ≡ 0
      → playing (moved b c.flows c.marks c.places c.entry) ≡ both (leb (b.moves + 1) max_moves) (all_small c.flows)
  pub size : length c.flows ≡ length b.flows

-- what a move of the solver changes on a board follows it
abbrev Followed : Board → Act → Type 0
Followed b x = FollowsChange b (step_for b.network b.flows b.marks b.places x)

module _ (b : Board) where
  -- a move that is not made
  stops : (n : ℕ) → n ≢ 0 → (stepped b).answer ≢ 0 → FollowsChange b (unchanged n b.flows b.marks b.places)
  stops n some s = record { refused = λ h. s; made = λ z. absurd (some z); stays = λ z. absurd (some z); size = refl }

  module _ (play : playing b ≡ true) (long : length b.flows ≡ max_edges) (wide : length b.network.demands ≡ max_terminals) where
    follows_carry : some_open b ≡ true → FollowsChange b (carry_step b.network b.flows b.marks b.places (open_terminal b) (chosen_edge b (open_terminal b)))
    unfolding carry_step carried_in
    follows_carry some = go (known (eqb (place b (open_terminal b)) b.network.source))
      where
        go : Known (eqb (place b (open_terminal b)) b.network.source)
            → FollowsChange b
            (pick (eqb (place b (open_terminal b)) b.network.source) (unchanged 21 b.flows b.marks b.places)
            (carried_in b.network b.flows b.marks b.places (open_terminal b) (chosen_edge b (open_terminal b))))
        go (was_true t) = rw (pick_yes _ _ _ t) (stops 21 (λ z. omega (arith, z)) (step_stuck b play some (eqb-true _ _ t)))
        go (was_false t) =
            rw (pick_no _ _ _ t)
            (record {
              refused = λ h. absurd (h refl);
              made = λ z. step_carry b play some (eqb-false _ _ t);
              stays = λ z. carry_stays b play (open_terminal b) (chosen_edge b (open_terminal b)) (chosen_carry_accepted b play some (eqb-false _ _ t));
              size = length-set b.flows (chosen_edge b (open_terminal b)) (flow b (chosen_edge b (open_terminal b)) - demand b (open_terminal b));
            })

    turn_made_lem : (w : List Step) → turn_refusal b w ≡ 0 → stepped b ≡ record { answer = 0; board = turned b w }
        → FollowsChange b (turned_in b.network b.flows b.marks b.places w)
    unfolding turned_in
    turn_made_lem w free s = record {
      refused = λ h. absurd (h refl);
      made = λ z. s;
      stays = λ z. turn_stays b play w free long wide;
      size = shifted_length _ (gather false 0 w) (gather true 0 w) b.flows;
    }

    follows_turn : some_open b ≡ false → all_home b ≡ false → FollowsChange b (turn_change true false b.network b.flows b.marks b.places (next_cycle b))
    follows_turn none out = turn (eq_or_ne (turn_refusal b w) 0)
      where
        w : List Step
        w = next_cycle b

        number : turn_refusal_in true false b.network b.flows w ≡ turn_refusal b w
        number = rw (play, none)

        turn : (turn_refusal b w ≡ 0) ⊎ (turn_refusal b w ≢ 0) → FollowsChange b (turn_change true false b.network b.flows b.marks b.places w)
        turn (inl z) = rw (change_accepted true false b.network b.flows b.marks b.places w (number ∙ z)) (turn_made_lem w z (step_turn b none out z))
        turn (inr n) = rw (change_refused true false b.network b.flows b.marks b.places w (λ q. n (sym number ∙ q))) (stops _ (λ q. n (sym number ∙ q)) (step_refused b none n))

    pub follows : FollowsChange b (step_change b.network b.flows b.marks b.places)
    unfolding step_change
    follows = go (known (all_home b)) (known (some_open b))
      where
        go : Known (all_home b) → Known (some_open b)
            → FollowsChange b
            (pick (all_home b) (unchanged 28 b.flows b.marks b.places) (step_for b.network b.flows b.marks b.places (next_act b)))
        go (was_true t) o = rw (pick_yes _ _ _ t) (stops 28 (λ z. omega (arith, z)) (home_stops b t))
        go (was_false t) (was_true o) = rw (pick_no _ _ _ t) (subst (Followed b) (sym (next_carry b o)) (follows_carry o))
        go (was_false t) (was_false o) = rw (pick_no _ _ _ t) (subst (Followed b) (sym (next_turn b o)) (follows_turn o t))
