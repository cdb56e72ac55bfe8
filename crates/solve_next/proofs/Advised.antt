-- What the next move in a record says: none where every terminal is at the source, else the carry found or the cycle. The cycle of a board in play has no more steps than
-- the board has vertices, so that all its codes have places, and a code says its step back: the record's number is that of the move.
use mathlib.Core.Path.{◌≡◌, refl, sym, ap, ap₂, ◌∙◌}
use mathlib.Core.Bool.{Bool, true, false}
use mathlib.Core.List.{List, []}
use Prim.Native.Nat.{ℕ, ◌≤◌}
use native.Mathlib.Omega.{arith}
use lib.ListN.{length, take}
use borrow.Author.Tests.{eq-eqb, ne_eqb}
use Rattle.lists.specs.Choice.{pick}
use Rattle.lists.proofs.Laws.{Known, was_true, was_false, known, pick_yes, pick_no}
use Rattle.board.specs.Limits.{max_edges}
use Rattle.board.specs.Whole.{Board}
use Rattle.board.specs.declared.Network.{Network}
use Rattle.graph_flows.specs.Trails.{Step}
use Rattle.move_guard.specs.Bounds.{InBounds}
use Rattle.move_edges.specs.Incidence.{Incident, PositiveSet}
use Rattle.move_carry.specs.Frames.{frame_of, net_of, bare_of}
use Rattle.move_carry.specs.declared.Frame.{Frame}
use Rattle.move_carry.specs.Opens.{enters_in, is_open_in, open_edge_in, has_open_in, open_terminal_in, some_open_in, open_terminal, some_open}
use Rattle.move_carry.specs.Carries.{on_board_in, carry_refusal_in}
use Rattle.move_carry.proofs.Lent.{carry_refusal_bare}
use Rattle.move_cycle.specs.Steps.{code_steps}
use Rattle.move_turn.specs.Turns.{turn_refusal_in}
use Rattle.solve_carry.specs.Search.{marked_open_in, marked_edge_in, chosen_edge_in, chosen_edge}
use Rattle.solve_carry.specs.Inner.{Searched, Resumes}
use Rattle.solve_carry.proofs.Finds.{bounds_searched}
use Rattle.solve_carry.proofs.Resumed.{resumes_first, resumes_bare}
use Rattle.solve_walk.specs.Walk.{packed}
use Rattle.solve_walk.specs.declared.Walk.{Walk}
use Rattle.solve_walk.specs.Inner.{walked}
use Rattle.solve_walk.specs.Chart.{Charted}
use Rattle.solve_walk.proofs.Packed.{cycle_walked, cycle_short}
use Rattle.solve_next.specs.Advices.{Advice}
use Rattle.solve_next.specs.Parts.{Movable, advice_number_in}
use Rattle.solve_next.specs.Choosing.{relocate, augment, carry_kind, all_home_in, judge_in, next_cycle_in, next_cycle, next_act_in, next_act, no_advice, advice_of, act_of}
use Rattle.solve_next.specs.Hints.{next_advice_in}
use Rattle.solve_next.specs.Views.{advice_told}
use Rattle.solve_next.specs.declared.Advice.TheVariants.{Carry, Turn}
use Rattle.board.specs.declared.Relocation.{Relocation}

-- the move of a record, by its kind
pub act_carry : (a : Advice) → a.kind ≡ carry_kind → act_of a ≡ relocate a.terminal a.edge
unfolding act_of
act_carry a h = pick_yes _ _ _ (eq-eqb a.kind carry_kind h)

pub act_turn : (a : Advice) → (a.kind ≡ carry_kind → ⊥) → act_of a ≡ augment (code_steps (take a.count a.steps))
unfolding act_of
act_turn a h = pick_no _ _ _ (ne_eqb a.kind carry_kind h)

-- the next move, by whether a carry is open
pub next_carry : (b : Board) → some_open b ≡ true → next_act b ≡ relocate (open_terminal b) (chosen_edge b (open_terminal b))
unfolding next_act_in
next_carry b h = pick_yes _ _ _ h

pub next_turn : (b : Board) → some_open b ≡ false → next_act b ≡ augment (next_cycle b)
unfolding next_act_in
next_turn b h = pick_no _ _ _ h

module _ (net : Network) (flows : List ℕ) (marks : ℕ) (places : List ℕ) where
  -- no move, the move that the search finds, and the cycle
  pub advice_none : all_home_in net.terminals net.source places ≡ true → no_advice ≡ next_advice_in net flows marks places
  unfolding next_advice_in
  advice_none h = sym (pick_yes _ _ _ h)

  module _ (away : all_home_in net.terminals net.source places ≡ false) where
    pub advice_carry : (c : Relocation)
        → (some_open_in net flows marks places ≡ true) × (c.terminal ≡ open_terminal_in net flows marks places)
        × (c.edge ≡ chosen_edge_in net flows marks places (open_terminal_in net flows marks places))
        → advice_told (Carry c) ≡ next_advice_in net flows marks places
    unfolding next_advice_in next_act_in
    advice_carry c f = sym (pick_no _ _ _ away ∙ ap advice_of (pick_yes _ _ _ f.0 ∙ sym (ap₂ relocate f.1 f.2)))

    pub advice_turn : (w : Walk) → some_open_in net flows marks places ≡ false → w ≡ packed (next_cycle_in net flows)
        → advice_told (Turn w) ≡ next_advice_in net flows marks places
    unfolding next_advice_in next_act_in
    advice_turn w none ew = rw ew (sym (pick_no _ _ _ away ∙ ap advice_of (pick_no _ _ _ none)))

  -- the record of the next move says the move back
  module _ (few : net.vertices ≤ max_edges) (all : length flows ≡ max_edges) where
    pub cycle_held : walked (packed (next_cycle_in net flows)) ≡ next_cycle_in net flows
    cycle_held = cycle_walked _ _ _ _ _ few (omega (arith, all))

    pub advice_act : act_of (advice_of (next_act_in net flows marks places)) ≡ next_act_in net flows marks places
    unfolding next_act_in
    advice_act = go (known (some_open_in net flows marks places))
      where
        go : Known (some_open_in net flows marks places) → act_of (advice_of (next_act_in net flows marks places)) ≡ next_act_in net flows marks places
        go (was_true h) = rw (pick_yes (some_open_in net flows marks places) (relocate (open_terminal_in net flows marks places) (chosen_edge_in net flows marks places (open_terminal_in net flows marks places))) (augment (next_cycle_in net flows)) h) (act_carry _ refl)
        go (was_false h) =
            rw (pick_no (some_open_in net flows marks places) (relocate (open_terminal_in net flows marks places) (chosen_edge_in net flows marks places (open_terminal_in net flows marks places))) (augment (next_cycle_in net flows)) h)
            (act_turn _ (λ q. omega (arith, q)) ∙ ap augment cycle_held)

  -- of a board in play
  module _ (bounds : InBounds net flows places) where
    cycle_fits : length (next_cycle_in net flows) ≤ max_edges
    cycle_fits = omega (arith, bounds.vertices, cycle_short net.tails net.heads flows net.vertices net.source)

    pub advice_short : (next_advice_in net flows marks places).count ≤ max_edges
    unfolding next_advice_in next_act_in
    advice_short = go (known (all_home_in net.terminals net.source places)) (known (some_open_in net flows marks places))
      where
        go : Known (all_home_in net.terminals net.source places) → Known (some_open_in net flows marks places)
            → (pick (all_home_in net.terminals net.source places) no_advice
            (advice_of (pick (some_open_in net flows marks places) (relocate (open_terminal_in net flows marks places) (chosen_edge_in net flows marks places (open_terminal_in net flows marks places))) (augment (next_cycle_in net flows))))).count ≤ max_edges
        go (was_true h) o = rw (pick_yes (all_home_in net.terminals net.source places) _ _ h) (omega arith)
        go (was_false h) (was_true o) = rw (pick_no (all_home_in net.terminals net.source places) _ _ h, pick_yes (some_open_in net flows marks places) _ _ o) (omega arith)
        go (was_false h) (was_false o) = rw (pick_no (all_home_in net.terminals net.source places) _ _ h, pick_no (some_open_in net flows marks places) _ _ o) cycle_fits

    -- its number is that of the move
    pub advice_number : all_home_in net.terminals net.source places ≡ false
        → advice_number_in net flows marks places (next_advice_in net flows marks places) ≡ judge_in true net flows marks places (next_act_in net flows marks places)
    unfolding advice_number_in next_advice_in next_act_in pick
    advice_number away = rw away (go (known (some_open_in net flows marks places)))
      where
        go : Known (some_open_in net flows marks places)
            → advice_number_in net flows marks places (advice_of (next_act_in net flows marks places)) ≡ judge_in true net flows marks places (next_act_in net flows marks places)
        go (was_true o) = rw o
        go (was_false o) = rw o (ap₂ (λ (p : Bool) (w : List Step). turn_refusal_in true p net flows w) (sym o) (cycle_held (omega (arith, bounds.vertices)) bounds.all))

-- with the sets, what the search and the walk ask for
module _ (frame : Frame) (tails heads demands leaving entering flows places : List ℕ) (m : Movable frame tails heads demands leaving entering flows places) where
  pub movable_searched : Searched (net_of frame [] heads demands) entering flows frame.positive places
  movable_searched = bounds_searched (net_of frame tails heads demands) flows places entering frame.marks frame.positive m.bounds m.enter m.is_positive

  pub movable_resumes : Resumes (net_of frame [] heads demands) flows frame.marks places frame.resume
  movable_resumes = resumes_bare (net_of frame tails heads demands) [] flows frame.marks places frame.resume m.resumes

  pub movable_charted : Charted tails heads flows leaving entering frame.positive
  movable_charted = record {
    leave = m.leave;
    enter = m.enter;
    is_positive = m.is_positive;
    all = m.bounds.all;
    tailed = m.bounds.tailed;
    headed = m.bounds.headed;
  }

  pub movable_few : frame.vertices ≤ max_edges
  movable_few = omega (arith, m.bounds.vertices)

-- the lists of a board in play, with their sets
pub board_movable : (b : Board) (leaving entering : List ℕ) (positive : ℕ) → InBounds b.network b.flows b.places → Incident b.network.tails leaving
    → Incident b.network.heads entering → PositiveSet b.flows positive
    → Movable (frame_of b.network b.marks positive 0) b.network.tails b.network.heads b.network.demands leaving entering b.flows b.places
board_movable b leaving entering positive bounds leave enter is_positive = record {
  bounds = record {
    vertices = bounds.vertices;
    edges = bounds.edges;
    source = bounds.source;
    tailed = bounds.tailed;
    headed = bounds.headed;
    small = bounds.small;
    asked = bounds.asked;
    all = bounds.all;
    past = bounds.past;
    placed = bounds.placed;
    needs = bounds.needs;
  };
  leave = leave;
  enter = enter;
  is_positive = is_positive;
  resumes = resumes_first _ _ _ _;
}

-- no move looks at the text's flows and homes
module _ (net : Network) (flows : List ℕ) (marks : ℕ) (places : List ℕ) where
  pub advice_bare : next_advice_in (bare_of net) flows marks places ≡ next_advice_in net flows marks places
  unfolding next_advice_in next_act_in chosen_edge_in marked_edge_in marked_open_in some_open_in open_terminal_in has_open_in open_edge_in is_open_in enters_in
  advice_bare = refl

  pub number_bare : (a : Advice) → advice_number_in (bare_of net) flows marks places a ≡ advice_number_in net flows marks places a
  unfolding advice_number_in carry_refusal_in on_board_in enters_in turn_refusal_in
  number_bare a = refl

  -- of the frame of a board
  module _ (frame : Frame) (positive : ℕ) (is : frame ≡ frame_of net marks positive 0) where
    pub advice_framed : next_advice_in (net_of frame net.tails net.heads net.demands) flows frame.marks places ≡ next_advice_in net flows marks places
    advice_framed = rw is advice_bare

    pub number_framed : (a : Advice)
        → advice_number_in (net_of frame net.tails net.heads net.demands) flows frame.marks places a ≡ advice_number_in net flows marks places a
    number_framed a = rw is (number_bare a)

-- the number of the code's move
module _ (frame : Frame) (tails heads demands flows places : List ℕ) where
  pub number_carry : (r : Relocation)
      → carry_refusal_in true (net_of frame [] heads demands) flows frame.marks places r.terminal r.edge
      ≡ advice_number_in (net_of frame tails heads demands) flows frame.marks places (advice_told (Carry r))
  unfolding advice_number_in pick
  number_carry r = carry_refusal_bare true (net_of frame tails heads demands) flows frame.marks frame.positive places r.terminal r.edge

  pub number_turn : (w : Walk)
      → turn_refusal_in true false (net_of frame tails heads []) flows (walked w)
      ≡ advice_number_in (net_of frame tails heads demands) flows frame.marks places (advice_told (Turn w))
  unfolding advice_number_in turn_refusal_in pick
  number_turn w = refl
