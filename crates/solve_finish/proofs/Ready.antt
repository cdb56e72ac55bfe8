-- What the functions that a move calls lean on holds of the parts of a board in play; and what they give, put together, is the solver's move.
use mathlib.Core.Path.{◌≡◌, sym, ap, ◌∙◌, subst}
use mathlib.Core.Bool.{true}
use mathlib.Core.List.{List}
use mathlib.Core.Logic.{◌≢◌}
use Prim.Native.Nat.{ℕ, ◌≤◌}
use native.Mathlib.Omega.{arith}
use lib.ListN.{length}
use Rattle.lists.proofs.Laws.{Known, was_true, was_false, known, pick_yes, pick_no}
use Rattle.board.specs.Limits.{max_edges}
use Rattle.board.specs.declared.Network.{Network}
use Rattle.move_guard.specs.Moved.{unchanged}
use Rattle.move_guard.specs.Moved.{Change}
use Rattle.solve_next.specs.Advices.{Advice}
use Rattle.solve_next.specs.Choosing.{Act, relocate, augment, no_kind, no_advice, all_home_in, next_act_in, advice_of, act_of}
use Rattle.solve_next.specs.Views.{Advised, advice_told}
use Rattle.solve_next.specs.declared.Advice.TheVariants.{Carry, Turn}
use Rattle.solve_next.specs.Hints.{next_advice_in}
use Rattle.solve_next.proofs.Advised.{advice_act}
use Rattle.move_guard.specs.Bounds.{InBounds}
use Rattle.move_guard.proofs.Bounds.{playing_bounds}
use Rattle.solve_finish.specs.Run.{Made}
use Rattle.solve_finish.specs.Run.{all_small, step_for, step_change, InPlay, Makes}
use Rattle.solve_finish.proofs.Staying.{flows_small}

module _ (net : Network) (flows : List ℕ) (marks : ℕ) (places : List ℕ) (p : InPlay net flows marks places) where
  long : length p.board.flows ≡ max_edges
  long = rw p.its_flows p.long

  pub ready_small : all_small flows ≡ true
  ready_small = rw p.its_flows at (flows_small p.board p.play long)

  pub ready_bounds : InBounds net flows places
  ready_bounds =
      rw (p.its_network, p.its_flows, p.its_places) at (playing_bounds p.board p.play
      (record {
        tails = rw p.its_network p.sized.tails;
        heads = rw p.its_network p.sized.heads;
        demands = rw p.its_network p.sized.demands;
        long = long;
      }))

-- the move, by the next one that the code tells: none, a carry or a turn
some_kind : (x : Act) → (advice_of x).kind ≢ no_kind
some_kind (relocate i e) q = omega (arith, q)
some_kind (augment w) q = omega (arith, q)

module _ (net : Network) (flows : List ℕ) (marks : ℕ) (places : List ℕ) (r : Made) where
  pub step_none : no_advice ≡ next_advice_in net flows marks places → Makes (unchanged 28 flows marks places) r → Makes (step_change net flows marks places) r
  unfolding step_change next_advice_in
  step_none none m = go (known (all_home_in net.terminals net.source places))
    where
      go : Known (all_home_in net.terminals net.source places) → Makes (step_change net flows marks places) r
      go (was_true t) = subst (λ (c : Change). Makes c r) (sym (pick_yes _ _ _ t)) m
      go (was_false t) = absurd (some_kind (next_act_in net flows marks places) (ap (λ (x : Advice). x.kind) (sym (none ∙ pick_no _ _ _ t))))

  pub step_made : net.vertices ≤ max_edges → length flows ≡ max_edges → (a : Advised) → advice_told a ≡ next_advice_in net flows marks places
      → Makes (step_for net flows marks places (act_of (advice_told a))) r → Makes (step_change net flows marks places) r
  unfolding step_change next_advice_in
  step_made few all a told m = go (known (all_home_in net.terminals net.source places))
    where
      some_told : (b : Advised) → (advice_told b).kind ≢ no_kind
      some_told (Carry c) q = omega (arith, q)
      some_told (Turn w) q = omega (arith, q)

      go : Known (all_home_in net.terminals net.source places) → Makes (step_change net flows marks places) r
      go (was_true t) = absurd (some_told a (ap (λ (x : Advice). x.kind) (told ∙ pick_yes _ _ _ t)))
      go (was_false t) =
          let is = ap act_of (told ∙ pick_no _ _ _ t) ∙ advice_act net flows marks places few all in
          subst (λ (c : Change). Makes c r) (ap (step_for net flows marks places) is ∙ sym (pick_no _ _ _ t)) m
