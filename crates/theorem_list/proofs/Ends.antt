-- A board with every terminal at the source. A route then starts at the source, and ranks in the acyclic flow rise along its edges, so every vertex it comes to
-- later has a rank above and none comes twice. An edge in use has the demand of a user as its largest at least, which is 1 or more: that makes the bound strict
-- where the edge is unmarked, and where it is marked it was strict all the time.
use mathlib.Core.Path.{◌≡◌, refl, ap}
use mathlib.Core.Bool.{true, false}
use mathlib.Core.Logic.{◌⊎◌, inl, inr}
use mathlib.Core.List.{List, [], ◌∷◌}
use Prim.Native.Nat.{ℕ, ◌+◌, ◌<◌, ◌≤◌}
use native.Mathlib.Omega.{arith}
use lib.ListN.{get_or}
use borrow.Author.Tests.{eqb-true}
use Rattle.lists.specs.Members.{has, Distinct}
use Rattle.lists.proofs.Laws.{Known, was_true, was_false, known, lt_or_ge, all_from, pick_yes}
use Rattle.lists.proofs.Totals.{most_at}
use Rattle.lists.proofs.Pigeon.{has_here, has_later, both_missed}
use Rattle.board.specs.Whole.{Board}
use Rattle.graph_flows.specs.Trails.{Trail, go, downs}
use Rattle.move_guard.specs.Parts.{flow, acyclic_flow, marked, demand, place}
use Rattle.solve_next.specs.Choosing.{all_home, all_home_in}
use Rattle.solve_finish.specs.Finishes.{ended}
use Rattle.report_routes.specs.Routes.{route, share, load, largest}
use Rattle.theorem_cycles.specs.Invariant.{Invariant}
use Rattle.theorem_cycles.specs.Potential.{level}
use Rattle.theorem_cycles.proofs.Potential.{acyclic_rises}
use Rattle.theorem_list.specs.Complete.{vertices_along, Simple, InUse}
use Rattle.move_carry.specs.Opens.{is_home, is_home_in}

-- vertices along edges that all rise in level
module _ (tails heads : List ℕ) (level : ℕ → ℕ) where
  abbrev Rising : List ℕ → Type 0
  Rising es = (e : ℕ) → has e es ≡ true → level (get_or tails e 0) < level (get_or heads e 0)

  -- a vertex below the first is not among them
  below_missed : {v c : ℕ} (es : List ℕ) → Trail tails heads v (downs es) c → Rising es → (x : ℕ) → level x < level v → has x (vertices_along heads v es) ≡ false
  unfolding has
  below_missed {v} [] t rises x l = both_missed x v [] (λ q. omega (arith, l, ap level q)) refl
  below_missed {v} (e ∷ es) (go s p t) rises x l =
      both_missed x v (vertices_along heads (get_or heads e 0) es) (λ q. omega (arith, l, ap level q))
      (below_missed {v = get_or heads e 0} es t (λ g h. rises g (has_later g e es h)) x (omega (arith, l, ap level p, rises e (has_here e e es refl))))

  pub rising_once : {v c : ℕ} (es : List ℕ) → Trail tails heads v (downs es) c → Rising es → Distinct (vertices_along heads v es)
  unfolding has
  rising_once [] t rises = (refl, tt)
  rising_once {v} (e ∷ es) (go s p t) rises =
      let later : Rising es = λ g h. rises g (has_later g e es h) in
      let up : level v < level (get_or heads e 0) = omega (arith, ap level p, rises e (has_here e e es refl)) in
      (below_missed es t later v up, rising_once {v = get_or heads e 0} es t later)

module _ (b : Board) (inv : Invariant b) where
  pub home_facts : all_home b ≡ true → (i : ℕ) → i < b.network.terminals → place b i ≡ b.network.source
  unfolding all_home_in is_home_in
  home_facts all i h = eqb-true _ _ (all_from (is_home b) b.network.terminals i all h)

  pub simple_routes : all_home b ≡ true → (i : ℕ) → i < b.network.terminals → Simple b i
  simple_routes all i h =
      let led : Trail b.network.tails b.network.heads b.network.source (downs (route b i)) (get_or b.network.homes i 0) =
      rw (home_facts all i h) at (inv.routes i h) in
      record {
        trail = led;
        once = rising_once b.network.tails b.network.heads (level b) (route b i) led (λ e t. acyclic_rises b inv e (inv.on_routes i e h t));
      }

  -- a user's demand is at most the largest
  used : (e : ℕ) → InUse b e → 0 < largest b e
  unfolding largest
  used e u =
      let whole : share b e u.terminal ≡ demand b u.terminal = pick_yes _ _ _ u.holds in
      let most = most_at (share b e) 0 b.network.terminals u.terminal (omega arith) (omega (arith, u.on_board_lem)) in
      omega (arith, whole, most, inv.sound.demand u.terminal u.on_board_lem)

  pub strictly_below : (e : ℕ) → InUse b e → load b e < acyclic_flow b e + largest b e
  strictly_below e u = by_mark (known (marked b e))
    where
      by_flow : marked b e ≡ true → (0 < flow b e) ⊎ (flow b e ≤ 0) → load b e < acyclic_flow b e + largest b e
      by_flow m (inl l) = omega (arith, inv.load_positive e (record { mark = m; above = l }))
      by_flow m (inr l) = inv.load_zero e m (omega arith)

      by_mark : Known (marked b e) → load b e < acyclic_flow b e + largest b e
      by_mark (was_true m) = by_flow m (lt_or_ge 0 (flow b e))
      by_mark (was_false m) = omega (arith, inv.load_unmarked e m, used e u)

  -- the same once play is over: routes and loads are read off the journal, which stays
  pub ended_simple : (from : ℕ) → all_home b ≡ true → (i : ℕ) → i < b.network.terminals → Simple (ended from b) i
  unfolding route
  ended_simple from all i h = let s = simple_routes all i h in record { trail = s.trail; once = s.once }

  pub ended_below : (from e : ℕ) → InUse (ended from b) e → load (ended from b) e < acyclic_flow (ended from b) e + largest (ended from b) e
  unfolding route load largest
  ended_below from e u = strictly_below e (record { terminal = u.terminal; on_board_lem = u.on_board_lem; holds = u.holds })
