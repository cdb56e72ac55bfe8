-- The hint. On a board of play it is not refused, and its record says the solver's move, which is accepted; so the old rule holds of it. The numbers of an accepted move
-- are those of terminals and edges, so its line is short and is read back; and the solver's cycle has no more steps than the board has vertices.
use mathlib.Core.Path.{◌≡◌, refl, sym, ap, ◌∙◌}
use mathlib.Core.Bool.{true, false}
use mathlib.Core.Logic.{inl, inr}
use mathlib.Core.List.{List, [], ◌∷◌}
use Prim.Native.Nat.{ℕ, zero, suc, ◌<◌, ◌≤◌}
use native.Mathlib.Omega.{arith}
use lib.Dec.{eqb}
use lib.ListN.{length}
use borrow.Author.Tests.{eq-eqb}
use Rattle.lists.specs.Choice.{pick, both}
use Rattle.lists.specs.Inner.{Below}
use Rattle.lists.proofs.Laws.{Known, was_true, was_false, known, pick_yes, pick_no}
use Rattle.board.specs.Limits.{max_vertices, max_edges}
use Rattle.board.specs.Whole.{Board}
use Rattle.graph_flows.specs.Trails.{Step, In, edge_of, edges_of}
use Rattle.move_carry.specs.Opens.{open_terminal, some_open}
use Rattle.solve_walk.proofs.Packed.{cycle_short}
use Rattle.solve_next.specs.Choosing.{Act, relocate, augment, no_kind, all_home, judge, acted, next_cycle, next_act, advice_of, act_of}
use Rattle.solve_next.specs.Hints.{hint_call}
use Rattle.solve_next.proofs.Advised.{next_carry, next_turn}
use Rattle.solve_finish.specs.Finishes.{ended, finish_call}
use Rattle.report_routes.specs.Routes.{route, load}
use Rattle.report.specs.Reports.{report_text}
use Rattle.play_lines.specs.Orders.{other, fields_of, is_letter, by_fields, order_of}
use Rattle.play_lines.specs.MoveLines.{move_line, hint_line, longest_hint}
use Rattle.play_lines.proofs.MovesRead.{ShortMove, move_read}
use Rattle.play_lines.proofs.MovesShort.{SmallMove, move_line_short}
use Rattle.theorem_keep.proofs.Carriable.{carry_facts}
use Rattle.theorem_keep.proofs.Turnable.{turn_facts}
use Rattle.theorem_keep.proofs.Standing.{Standing}
use Rattle.theorem_list.specs.Complete.{SolvedBy}
use Rattle.theorem_list.proofs.Acts.{act_standing}
use Rattle.theorem_list.proofs.Ends.{home_facts}
use Rattle.theorem_list.proofs.Finish.{finish_completes, hint_taken}
use Rattle.theorem_list.proofs.Next.{next_accepted}
use Rattle.theorem_list.proofs.Stands.{act_accepted}
use Rattle.theorem_list.proofs.HintFirst.{solved_once, solved_end, hint_none, hint_advice, hint_act, hint_first}
use Rattle.promises.specs.Hints.{offers, ReadBack, FedBack, HintedOut, AboutHints}
use Rattle.promises.proofs.Plays.{play_standing}
use Rattle.solve_carry.specs.Search.{chosen_edge}

-- a record of a move is of some kind
some_kind : (x : Act) → eqb (advice_of x).kind no_kind ≡ false
some_kind (relocate i e) = refl
some_kind (augment w) = refl

-- steps over edges below n
below_all : (n : ℕ) (w : List Step) → ((s : Step) → In s w → edge_of s < n) → Below n (edges_of w)
below_all n [] h = tt
below_all n (s ∷ w) h = (h s (inl refl), below_all n w (λ t i. h t (inr i)))

module _ (b : Board) (st : Standing b) where
  -- the numbers of an accepted move
  small_carry : (i e : ℕ) → judge b (relocate i e) ≡ 0 → SmallMove (relocate i e)
  small_carry i e h =
      let f = (carry_facts b i e h).1 in
      (omega (arith, f.terminal, st.within.terminals), omega (arith, f.edge, st.within.edges))

  short_move : (a : Act) → judge b a ≡ 0 → ShortMove a
  short_move (relocate i e) h = let s = small_carry i e h in (omega (arith, s.0), omega (arith, s.1))
  short_move (augment w) h = below_all 10000000 w (λ s i. omega (arith, (turn_facts b w h).1.inside s i, st.within.edges))

  -- those of the solver's move, and how many steps it has

  few_steps : length (next_cycle b) ≤ max_vertices
  few_steps =
      let net = b.network in
      omega (arith, st.within.vertices, cycle_short net.tails net.heads b.flows net.vertices net.source)

  small_turn : judge b (augment (next_cycle b)) ≡ 0 → SmallMove (augment (next_cycle b))
  small_turn h = (
    few_steps,
    below_all max_edges (next_cycle b) (λ s i. omega (arith, (turn_facts b (next_cycle b) h).1.inside s i, st.within.edges)),
  )

  small_next : all_home b ≡ false → SmallMove (next_act b)
  small_next away = go (known (some_open b)) (next_accepted b st away)
    where
      go : Known (some_open b) → judge b (next_act b) ≡ 0 → SmallMove (next_act b)
      go (was_true t) h = rw (next_carry b t) (small_carry (open_terminal b) (chosen_edge b (open_terminal b)) (rw (next_carry b t) at h))
      go (was_false t) h = rw (next_turn b t) (small_turn (rw (next_turn b t) at h))

  -- the line of the hint
  line-none : all_home b ≡ true → hint_line (hint_call b).advice ≡ 78 ∷ 10 ∷ []
  unfolding hint_line pick
  line-none home = rw (hint_none b st home)

  module _ (away : all_home b ≡ false) where
    kind : eqb (hint_call b).advice.kind no_kind ≡ false
    kind = rw (hint_advice b st away) (some_kind (next_act b))

    accepted : judge b (act_of (hint_call b).advice) ≡ 0
    accepted = rw (hint_act b st away) (next_accepted b st away)

    line_move : hint_line (hint_call b).advice ≡ move_line (act_of (hint_call b).advice)
    unfolding hint_line
    line_move = pick_no _ _ _ kind

    read_back : ReadBack b (act_of (hint_call b).advice)
    unfolding move_line
    read_back = record {
      line = line_move;
      read = move_read (act_of (hint_call b).advice) (short_move (act_of (hint_call b).advice) accepted);
      makes = (act_accepted b (act_of (hint_call b).advice) st accepted).called;
    }

  -- the rule
  rule : offers b (hint_call b).advice ≡ true
  unfolding offers pick
  rule = go (known (all_home b))
    where
      go : Known (all_home b) → offers b (hint_call b).advice ≡ true
      go (was_true t) = rw (hint_none b st t) t
      go (was_false t) = pick_no _ _ _ (kind t) ∙ eq-eqb _ 0 (accepted t)

  none_home : (hint_call b).advice.kind ≡ no_kind → all_home b ≡ true
  unfolding offers
  none_home q = sym (pick_yes (eqb (hint_call b).advice.kind no_kind) (all_home b) _ (eq-eqb _ _ q)) ∙ rule

  taken : (hint_call b).answer ≡ 0
  unfolding hint_call
  taken = hint_taken b st

  room : length (hint_line (hint_call b).advice) ≤ longest_hint
  room = go (known (all_home b))
    where
      go : Known (all_home b) → length (hint_line (hint_call b).advice) ≤ longest_hint
      go (was_true t) = rw (line-none t) (omega arith)
      go (was_false t) = rw (line_move t, hint_act b st t) (move_line_short (next_act b) (small_next t))

-- the solver's moves are the hints', one by one
fed_back : (k : ℕ) (b c : Board) → Standing b → SolvedBy k b c → FedBack k b c
fed_back zero b c st s = (hint_none b st s.0, s.1)
fed_back (suc k) b c st s = (
  read_back b st s.0,
  rw (hint_act b st s.0) (fed_back k (acted b (next_act b)) c (act_standing b (next_act b) st s.1) s.2),
)

-- the sheet does not say where the finish began
same_report : (m n : ℕ) (b : Board) → report_text (ended m b) ≡ report_text (ended n b)
unfolding report_text route load
same_report m n b = refl

hinted_out : (b : Board) → Standing b → HintedOut b
hinted_out b st =
    let whole = finish_completes b st in
    let c = whole.last in
    let reached = solved_end (finish_call b).count b c st whole.solved in
    let rest = finish_completes c reached.1 in
    let same = solved_once (finish_call c).count 0 c rest.last c rest.solved (reached.0, refl) in
    record {
      last = c;
      fed = fed_back (finish_call b).count b c st whole.solved;
      accepted = rest.accepted;
      none_made = same.0;
      same_sheet =
          ap report_text (rest.over ∙ ap (ended c.moves) same.1) ∙ same_report c.moves b.moves c ∙ ap report_text (sym whole.over);
    }

unread : order_of (78 ∷ []) ≡ other
unfolding order_of fields_of by_fields is_letter pick both
unread = refl

pub about_hints : AboutHints
about_hints = record {
  hint_rule = λ text b p. let st = play_standing text b p in (taken b st, rule b st);
  hint_none = λ text b p q. let st = play_standing text b p in home_facts b st.inv (none_home b st q);
  hint_first = λ text b p away. hint_first b (play_standing text b p) away;
  move_line_read = λ text b p away. read_back b (play_standing text b p) away;
  none-line = λ text b p home. line-none b (play_standing text b p) home;
  none_unread = unread;
  hinted_out = λ text b p. hinted_out b (play_standing text b p);
  hint_room = λ text b p. room b (play_standing text b p);
}
