-- A move on lists that are lent is the move by the parts of a board: no move looks at the text's flows and homes, so what holds of the network of a board in play
-- holds of the lists. A move that is not made changes nothing.
use mathlib.Core.Path.{◌≡◌, refl, sym, ap, subst}
use mathlib.Core.Bool.{Bool, true, false}
use mathlib.Core.List.{List}
use mathlib.Core.Logic.{◌⊎◌, inl, inr, ◌≢◌}
use Prim.Native.Nat.{ℕ}
use lib.ListN.{length, length-set}
use Rattle.lists.specs.Choice.{pick}
use Rattle.lists.proofs.Laws.{eq_or_ne}
use Rattle.board.specs.declared.Network.{Network}
use Rattle.graph_flows.specs.Trails.{Step}
use Rattle.move_guard.specs.Moved.{unchanged}
use Rattle.move_guard.specs.Moved.{Change}
use Rattle.move_edges.specs.Incidence.{Incident, PositiveSet}
use Rattle.move_guard.specs.Bounds.{InBounds}
use Rattle.move_carry.specs.declared.Frame.{Frame}
use Rattle.move_turn.specs.Turns.{turn_refusal_in, turned_in, turn_change}
use Rattle.move_carry.specs.Frames.{frame_of, bare_of}
use Rattle.move_carry.specs.Opens.{enters_in, is_open_in, open_edge_in, has_open_in, open_terminal_in, some_open_in}
use Rattle.move_carry.specs.Carries.{carried_in}
use Rattle.move_turn.specs.Lent.{Turnable}
use Rattle.move_turn.proofs.Changes.{change_accepted, change_refused, change_places}
use Rattle.move_turn.proofs.Lent.{bounds_turnable, turn_of_bare}
use Rattle.solve_carry.specs.Search.{marked_open_in, marked_edge_in, chosen_edge_in}
use Rattle.solve_carry.specs.Inner.{Resumes}
use Rattle.solve_carry.proofs.Resumed.{resumes_bare}
use Rattle.solve_next.specs.Choosing.{Act, relocate, augment, all_home_in, next_act_in}
use Rattle.solve_next.specs.Parts.{Movable}
use Rattle.solve_finish.specs.Run.{all_small, carry_step, step_for, step_change, InPlay, Makes, Going}
use Rattle.solve_finish.proofs.Ready.{ready_small, ready_bounds}

-- the moves on a network and on its bare one
for_bare : (net : Network) (flows : List ℕ) (marks : ℕ) (places : List ℕ) (x : Act) → step_for (bare_of net) flows marks places x ≡ step_for net flows marks places x
unfolding carry_step carried_in
for_bare net flows marks places (relocate i e) = refl
for_bare net flows marks places (augment w) = turn_of_bare net true false flows marks places w

pub step_of_bare : (net : Network) (flows : List ℕ) (marks : ℕ) (places : List ℕ) → step_change (bare_of net) flows marks places ≡ step_change net flows marks places
unfolding step_change next_act_in some_open_in open_terminal_in has_open_in open_edge_in is_open_in enters_in chosen_edge_in marked_edge_in marked_open_in
step_of_bare net flows marks places =
    ap (λ (c : Change). pick (all_home_in net.terminals net.source places) (unchanged 28 flows marks places) c)
    (for_bare net flows marks places (next_act_in net flows marks places))

bare_bounds : (net : Network) (flows places : List ℕ) → InBounds net flows places → InBounds (bare_of net) flows places
bare_bounds net flows places bounds = record {
  vertices = bounds.vertices;
  edges = bounds.edges;
  source = bounds.source;
  tailed = bounds.tailed;
  headed = bounds.headed;
  small = bounds.small;
  asked = bounds.asked;
  all = bounds.all;
  past = bounds.past;
  placed = bounds.placed;
  needs = bounds.needs;
}

module _ (frame : Frame) (tails heads demands leaving entering flows places : List ℕ)
    (g : Going frame tails heads demands leaving entering flows places) where
  abbrev play : InPlay g.net flows frame.marks places
  play = g.in_play

  pub going_small : all_small flows ≡ true
  going_small = ready_small _ _ _ _ g.in_play

  pub going_turns : Turnable frame tails heads demands leaving flows
  going_turns =
      subst (λ (n : Network). Turnable (frame_of n frame.marks frame.positive frame.resume) n.tails n.heads n.demands leaving flows) g.bare
      (bounds_turnable g.net flows places leaving frame.marks frame.positive frame.resume (ready_bounds _ _ _ _ g.in_play) g.leave g.is_positive)

  pub going_movable : Movable frame tails heads demands leaving entering flows places
  going_movable = record {
    bounds = subst (λ (n : Network). InBounds n flows places) g.bare (bare_bounds g.net flows places (ready_bounds _ _ _ _ g.in_play));
    leave = subst (λ (n : Network). Incident n.tails leaving) g.bare g.leave;
    enter = subst (λ (n : Network). Incident n.heads entering) g.bare g.enter;
    is_positive = g.is_positive;
    resumes = subst (λ (n : Network). Resumes n flows frame.marks places frame.resume) g.bare (resumes_bare g.net g.net.tails flows frame.marks places frame.resume g.resumes);
  }

-- a change whose number is not 0 keeps flows, marks and places
abbrev pub Keeps : List ℕ → ℕ → List ℕ → Change → Type 0
Keeps flows marks places c = c.answer ≢ 0 → (c.flows ≡ flows) × (c.marks ≡ marks) × (c.places ≡ places)

module _ (net : Network) (flows : List ℕ) (marks : ℕ) (places : List ℕ) where
  keeps-pick : (t : Bool) (x y : Change) → Keeps flows marks places x → Keeps flows marks places y → Keeps flows marks places (pick t x y)
  unfolding pick
  keeps-pick true x y hx hy = hx
  keeps-pick false x y hx hy = hy

  turn_keeps : (w : List Step) → Keeps flows marks places (turn_change true false net flows marks places w)
  unfolding turned_in
  turn_keeps w = go (eq_or_ne (turn_refusal_in true false net flows w) 0)
    where
      go : (turn_refusal_in true false net flows w ≡ 0) ⊎ (turn_refusal_in true false net flows w ≢ 0)
          → Keeps flows marks places (turn_change true false net flows marks places w)
      go (inl z) = rw (change_accepted true false net flows marks places w z) (λ n. absurd (n refl))
      go (inr s) = rw (change_refused true false net flows marks places w s) (λ n. (refl, refl, refl))

  -- a turn that is refused leaves the flows, so the positive edges are those before it
  pub turn_stopped : (w : List Step) (flows' : List ℕ) (positive number : ℕ) → unchanged number flows' marks places ≡ turn_change true false net flows marks places w
      → number ≢ 0 → PositiveSet flows positive → all_small flows ≡ true
      → Makes (turn_change true false net flows marks places w) (record { change = unchanged number flows' marks places; positive = positive; small = true })
  turn_stopped w flows' positive number e some is_positive small =
      let same : flows' ≡ flows = (subst (Keeps flows marks places) (sym e) (turn_keeps w) some).0 in
      record { changes = e; is_positive = rw same is_positive; smalls = sym (rw same small) }

  keeps_for : (x : Act) → Keeps flows marks places (step_for net flows marks places x)
  unfolding carry_step carried_in
  keeps_for (relocate i e) = keeps-pick _ _ _ (λ n. (refl, refl, refl)) (λ n. absurd (n refl))
  keeps_for (augment w) = turn_keeps w

  pub step_keeps : Keeps flows marks places (step_change net flows marks places)
  unfolding step_change
  step_keeps = keeps-pick _ _ _ (λ n. (refl, refl, refl)) (keeps_for (next_act_in net flows marks places))

  -- every change keeps the length of the places
  abbrev Long : Change → Type 0
  Long c = length c.places ≡ length places

  long_pick : (t : Bool) (x y : Change) → Long x → Long y → Long (pick t x y)
  unfolding pick
  long_pick true x y hx hy = hx
  long_pick false x y hx hy = hy

  long_for : (x : Act) → Long (step_for net flows marks places x)
  unfolding carry_step carried_in
  long_for (relocate i e) = long_pick _ _ _ refl (length-set places _ _)
  long_for (augment w) = ap length (change_places true false net flows marks places w)

  pub step_long : length (step_change net flows marks places).places ≡ length places
  unfolding step_change
  step_long = long_pick _ _ _ refl (long_for (next_act_in net flows marks places))
