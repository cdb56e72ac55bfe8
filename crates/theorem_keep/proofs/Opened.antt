-- The board of a lawful network before the first move keeps the invariant: its flows are the text's with the cycles cancelled; nothing is marked, no route
-- holds an edge, and each terminal is at its vertex.
use mathlib.Core.Path.{◌≡◌, refl, sym, ap, ◌∙◌}
use mathlib.Core.Bool.{true, false, true≢false}
use mathlib.Core.List.{[]}
use Prim.Native.Nat.{ℕ, zero, suc}
use native.Mathlib.Nat.{div-eq_of_lt}
use native.Mathlib.Omega.{arith}
use lib.ListN.{length, get_or, replicate, length-replicate}
use lib.Pow.{pow_pos}
use Rattle.lists.specs.Members.{has}
use Rattle.lists.proofs.Laws.{pick_no}
use Rattle.lists.proofs.Totals.{total-none}
use Rattle.sets.specs.Sets.{has_bit}
use Rattle.board.specs.Limits.{max_moves, max_flow}
use Rattle.board.specs.Record.{blank}
use Rattle.board.specs.declared.Network.{Network}
use Rattle.board.specs.Whole.{Entry, Board}
use Rattle.text_rules.specs.Rules.{Lawful}
use Rattle.graph_flows.specs.Trails.{stay}
use Rattle.move_guard.specs.Parts.{marked}
use Rattle.load.specs.Load.{acyclic_of, opened}
use Rattle.report_routes.specs.Routes.{route_in, route, share, load}
use Rattle.theorem_cycles.specs.Invariant.{Invariant, amount_of, SmallAmounts}
use Rattle.theorem_cycles.proofs.Network.{long_acyclic, acyclic_of_balance}
use Rattle.theorem_keep.proofs.Kept.{demand_small}
use Rattle.theorem_keep.proofs.Bounds.{bound_fits}

module _ (net : Network) (law : Lawful net) where
  -- the board before the first move
  abbrev start : Board
  start = opened net (acyclic_of net)

  -- nothing is marked, and no route holds an edge
  unmarked : (e : ℕ) → marked start e ≡ false
  unfolding has_bit
  unmarked e = rw (div-eq_of_lt (pow_pos e)) refl

  no_mark : {A : Type 0} (e : ℕ) → marked start e ≡ true → A
  no_mark e m = absurd (true≢false (sym m ∙ unmarked e))

  route_empty : (i : ℕ) → route start i ≡ []
  unfolding route route_in
  route_empty i = refl

  no_share : (e i : ℕ) → share start e i ≡ 0
  unfolding has
  no_share e i = rw (route_empty i) (pick_no _ _ _ refl)

  load-none : (e : ℕ) → load start e ≡ 0
  unfolding load
  load-none e = total-none (share start e) 0 net.terminals (λ i h g. no_share e i)

  not_held : (e i : ℕ) → has e (route start i) ≡ true → ⊥
  unfolding has
  not_held e i h = true≢false (sym h ∙ rw (route_empty i) refl)

  -- every place of the journal is blank
  get_d_blank : (n i : ℕ) → get_or (replicate n blank) i blank ≡ blank
  get_d_blank zero i = refl
  get_d_blank (suc n) zero = refl
  get_d_blank (suc n) (suc i) = get_d_blank n i

  pub opened_places : length start.journal ≡ max_moves
  opened_places = length-replicate max_moves blank

  pub opened_small : SmallAmounts start max_flow
  opened_small = record {
    demands = demand_small net law.sound law.within;
    amounts = λ i. omega (arith, ap (λ (m : Entry). amount_of m.step) (get_d_blank max_moves i));
  }

  pub opened_invariant : Invariant start
  opened_invariant = record {
    sound = law.sound;
    balanced = law.balanced;
    acyclic = refl;
    flows_size = long_acyclic net law.sound;
    places_size = refl;
    placed = law.sound.home;
    unplaced = λ i h. (law.sound.no_terminal i h).0;
    room = omega (arith, opened_places, bound_fits net law.within);
    blanks = λ i h. get_d_blank max_moves i;
    balance = acyclic_of_balance net law.sound law.balanced;
    support = λ e h. h;
    one_out = λ e g g' m. no_mark e m.mark;
    down_closed = λ e g m. no_mark e m.mark;
    across_closed = λ e e' m. no_mark e m.mark;
    all_fit = λ e g i m. no_mark e m.mark;
    one_misfit = λ e e' i j m. no_mark e m.mark;
    load_unmarked = λ e m. omega (arith, load-none e);
    load_positive = λ e m. no_mark e m.mark;
    load_zero = λ e m. no_mark e m;
    routes = λ i h. rw (route_empty i) stay;
    on_routes = λ i e h m. absurd (not_held e i m);
  }
