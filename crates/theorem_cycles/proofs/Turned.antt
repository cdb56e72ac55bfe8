-- A turn keeps the invariant: the new marks hold with the flows of before, and with the flows after it, since no more edges are positive and what rose is marked
-- and still fits; each vertex balances as before, and places, routes and loads stay.
use mathlib.Core.Path.{◌≡◌, ◌∙◌}
use mathlib.Core.Bool.{true, false}
use mathlib.Core.Logic.{◌⊎◌, inl, inr, ◌≢◌}
use mathlib.Core.List.{List}
use Prim.Native.Nat.{ℕ, ◌*◌, ◌<◌, ◌≤◌}
use native.Mathlib.Nat.{mul-le-mul_right}
use native.Mathlib.Omega.{arith}
use lib.ListN.{length, get_or, set, length-set, get_or-eq_default}
use lib.Seq.{get_or-set_same, get_or-set_other}
use Rattle.lists.proofs.Laws.{lt_or_ge, eq_or_ne}
use Rattle.board.specs.Record.{blank}
use Rattle.board.specs.Whole.{Turn, Entry, Board}
use Rattle.graph_flows.specs.Trails.{Step}
use Rattle.move_guard.specs.Parts.{flow, head, demand}
use Rattle.move_cycle.specs.Steps.{gather}
use Rattle.move_edges.specs.Marking.{fresh}
use Rattle.move_cycle.specs.Amounts.{amount}
use Rattle.move_turn.specs.Turns.{turned, turned_in}
use Rattle.move_cycle.proofs.Raising.{amount_small}
use Rattle.theorem_cycles.specs.Invariant.{amount_of, Invariant, Marked, At, SmallAmounts}
use Rattle.theorem_cycles.proofs.Flowing.{small_flows}
use Rattle.theorem_cycles.specs.Allowed.{Turnable}
use Rattle.theorem_cycles.proofs.TurnedMarks.{Now, unmarked_now, now_one_out, now_down_closed, now_across_closed, now_all_fit, now_one_misfit, now_load_positive, now_load}
use Rattle.theorem_cycles.proofs.TurnedFlows.{flows_now, now_length, positive_before, fit_after, unmarked_lower, balance_after}
use Rattle.theorem_cycles.proofs.TurnedRoutes.{route_after, load_after, largest_after}

module _ (b : Board) (w : List Step) (inv : Invariant b) (t : Turnable b w) where
  entry : Entry
  entry = record { step = Turn (record { amount = amount b w; down = gather false 0 w; up = gather true 0 w; marked = fresh b }) }

  -- no amount is above what the terminals need together
  amount_least : (m : ℕ) → SmallAmounts b m → amount b w ≤ length b.network.demands * m
  amount_least m small = amount_small b w (length b.network.demands * m) (small_flows b inv m small.demands) (λ i. one_of i (lt_or_ge i (length b.network.demands)))
    where
      one_of : (i : ℕ) → (i < length b.network.demands) ⊎ (length b.network.demands ≤ i) → demand b i ≤ length b.network.demands * m
      one_of i (inl h) =
          let some : 1 ≤ length b.network.demands = omega arith in
          omega (arith, small.demands i, mul-le-mul_right m some)
      one_of i (inr h) = omega (arith, get_or-eq_default b.network.demands 0 h)

  pub turned_small : (m : ℕ) → b.moves < length b.journal → SmallAmounts b m → SmallAmounts (turned b w) m
  unfolding turned_in entry
  turned_small m room small = record { demands = small.demands; amounts = λ i. go i (eq_or_ne i b.moves) }
    where
      go : (i : ℕ) → (i ≡ b.moves) ⊎ (i ≢ b.moves)
          → amount_of (get_or (set b.journal b.moves entry) i blank).step ≤ length b.network.demands * m
      go i (inl q) = rw (q, get_or-set_same b.journal b.moves entry blank room) (amount_least m small)
      go i (inr n) = rw (get_or-set_other b.journal b.moves i entry blank n) (small.amounts i)

  -- a positive marked edge of the board after, on the board before
  before : (e : ℕ) → Marked (turned b w) e → Now b e
  unfolding turned_in
  before e m = record { mark = m.mark; above = positive_before b w inv t e m.above }

  at_before : (i v : ℕ) → At (turned b w) i v → At b i v
  unfolding turned_in
  at_before i v a = record { terminal = a.terminal; here = a.here }

  misfit_after : (e e' i j : ℕ) → Marked (turned b w) e → Marked (turned b w) e' → head b e' ≡ head b e → At (turned b w) i (head b e)
      → At (turned b w) j (head b e) → (i ≡ j → ⊥) → (get_or (flows_now b w) e 0 ≤ demand b i) ⊎ (get_or (flows_now b w) e' 0 ≤ demand b j)
  misfit_after e e' i j m m' p a a' d =
      go (now_one_misfit b inv t.none_open e e' i j (before e m) (before e' m') p (at_before i _ a) (at_before j _ a') d)
    where
      go : (flow b e ≤ demand b i) ⊎ (flow b e' ≤ demand b j) → (get_or (flows_now b w) e 0 ≤ demand b i) ⊎ (get_or (flows_now b w) e' 0 ≤ demand b j)
      go (inl l) = inl (fit_after b w inv t e i (before e m).above (at_before i _ a) l)
      go (inr l) = inr (fit_after b w inv t e' j (before e' m').above (rw p (at_before j _ a')) l)

  pub turned_invariant : Invariant (turned b w)
  unfolding turned_in entry
  turned_invariant = record {
    sound = inv.sound;
    balanced = inv.balanced;
    acyclic = inv.acyclic;
    flows_size = now_length b w inv t ∙ inv.flows_size;
    places_size = inv.places_size;
    placed = inv.placed;
    unplaced = inv.unplaced;
    room = omega (arith, inv.room, length-set b.journal b.moves entry);
    blanks = λ i h. get_or-set_other b.journal b.moves i entry blank (λ q. omega (arith, q, h)) ∙ inv.blanks i (omega (arith, h));
    balance = λ v h n. omega (arith, inv.balance v h n, balance_after b w inv t v);
    support = λ e h. inv.support e (positive_before b w inv t e h);
    one_out = λ e g g' m p h p' h'. now_one_out b inv e g g' (before e m) p (positive_before b w inv t g h) p' (positive_before b w inv t g' h');
    down_closed = λ e g m p h. now_down_closed b inv e g (before e m) p (positive_before b w inv t g h);
    across_closed = λ e e' m p h. now_across_closed b inv e e' (before e m) p (positive_before b w inv t e' h);
    all_fit = λ e g i m p h a.
        fit_after b w inv t e i (before e m).above (at_before i _ a)
        (now_all_fit b inv t.none_open e g i (before e m) p (positive_before b w inv t g h) (at_before i _ a));
    one_misfit = misfit_after;
    load_unmarked = λ e m. omega (arith, unmarked_lower b w inv t e m, inv.load_unmarked e (unmarked_now b e m), load_after b w e);
    load_positive = λ e m. rw (load_after b w e) (now_load_positive b inv e (before e m));
    load_zero = λ e m z. rw (load_after b w e, largest_after b w e) (now_load b inv e m);
    routes = λ i h. rw (route_after b w i) (inv.routes i h);
    on_routes = λ i e h m. inv.on_routes i e h (rw (route_after b w i) at m);
  }
