-- Where the search for an open carry goes on after the solver's move: at the terminal of a carry, since it was the lowest open one (`carry_resumes`), and at the
-- first terminal after a turn.
use mathlib.Core.Path.{◌≡◌, sym, subst}
use mathlib.Core.Bool.{Bool, true, false}
use mathlib.Core.List.{List}
use mathlib.Core.Logic.{◌⊎◌, inl, inr, ◌≢◌}
use Prim.Native.Nat.{ℕ}
use native.Mathlib.Omega.{arith}
use Rattle.lists.specs.Choice.{pick}
use Rattle.lists.proofs.Laws.{Known, was_true, was_false, known, eq_or_ne, pick_yes, pick_no}
use Rattle.board.specs.declared.Network.{Network}
use Rattle.graph_flows.specs.Trails.{Step}
use Rattle.move_guard.specs.Moved.{Change}
use Rattle.move_guard.specs.Bounds.{InBounds}
use Rattle.move_carry.specs.Opens.{open_terminal_in, some_open_in}
use Rattle.move_carry.specs.Carries.{carried_in}
use Rattle.move_turn.specs.Turns.{turn_refusal_in, turned_in, turn_change}
use Rattle.move_turn.proofs.Changes.{change_accepted, change_refused}
use Rattle.solve_carry.specs.Search.{chosen_edge_in}
use Rattle.solve_carry.specs.Inner.{Resumes}
use Rattle.solve_carry.proofs.Resumed.{carry_resumes, resumes_first}
use Rattle.solve_next.specs.Choosing.{relocate, augment, next_cycle_in, next_act_in}
use Rattle.solve_finish.specs.Run.{carry_step, step_for, step_change, resumption}

module _ (net : Network) (flows : List ℕ) (marks : ℕ) (places : List ℕ) (bounds : InBounds net flows places) where
  -- after a change whose number is 0
  abbrev Goes : Change → Type 0
  Goes c = c.answer ≡ 0 → Resumes net c.flows c.marks c.places (resumption c.entry.step)

  goes-pick : (t : Bool) (x y : Change) → Goes x → Goes y → Goes (pick t x y)
  unfolding pick
  goes-pick true x y hx hy = hx
  goes-pick false x y hx hy = hy

  goes_carry : some_open_in net flows marks places ≡ true
      → let i = open_terminal_in net flows marks places in
      Goes (carry_step net flows marks places i (chosen_edge_in net flows marks places i))
  unfolding carry_step carried_in resumption
  goes_carry some = goes-pick _ _ _ (λ z. absurd (omega (arith, z))) (λ z. carry_resumes net flows marks places bounds.needs (omega (arith, bounds.edges, bounds.all)) some)

  goes_turn : (w : List Step) → Goes (turn_change true false net flows marks places w)
  unfolding turned_in resumption
  goes_turn w = go (eq_or_ne (turn_refusal_in true false net flows w) 0)
    where
      go : (turn_refusal_in true false net flows w ≡ 0) ⊎ (turn_refusal_in true false net flows w ≢ 0) → Goes (turn_change true false net flows marks places w)
      go (inl z) = rw (change_accepted true false net flows marks places w z) (λ q. resumes_first _ _ _ _)
      go (inr n) = rw (change_refused true false net flows marks places w n) (λ q. absurd (n q))

  step_resumes : Goes (step_change net flows marks places)
  unfolding step_change next_act_in
  step_resumes = goes-pick _ _ _ (λ z. absurd (omega (arith, z))) (go (known (some_open_in net flows marks places)))
    where
      go : Known (some_open_in net flows marks places) → Goes (step_for net flows marks places (next_act_in net flows marks places))
      go (was_true o) =
          rw (pick_yes (some_open_in net flows marks places) (relocate (open_terminal_in net flows marks places) (chosen_edge_in net flows marks places (open_terminal_in net flows marks places))) (augment (next_cycle_in net flows)) o)
          (goes_carry o)
      go (was_false o) =
          rw (pick_no (some_open_in net flows marks places) (relocate (open_terminal_in net flows marks places) (chosen_edge_in net flows marks places (open_terminal_in net flows marks places))) (augment (next_cycle_in net flows)) o)
          (goes_turn (next_cycle_in net flows))

  -- in the code's shape: the move made, and the terminal that it tells
  pub resumes_made : (c : Change) (i : ℕ) → c ≡ step_change net flows marks places → c.answer ≡ 0 → i ≡ resumption c.entry.step → Resumes net c.flows c.marks c.places i
  resumes_made c i e z q = rw q (subst Goes (sym e) step_resumes z)
