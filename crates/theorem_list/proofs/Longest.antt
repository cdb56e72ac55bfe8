-- No report of a board of play is longer than `longest_report`. A route that comes to no vertex twice has fewer edges than there are vertices, and each is an edge of
-- the network, since places past the edges join vertex 0 with itself: at most 31 edges of two digits. The load of an edge in use is below its acyclic flow and
-- its largest demand together, so below 2,000,000, and that of any other is 0. Lines of numbers below 10 are a byte shorter: `R,16,64` is 8 bytes long, the routes
-- have ten lines of at most 100 and six of 101, the loads ten of 20 and fifty-four of 21.
use mathlib.Core.Path.{◌≡◌, sym, ap, ◌∙◌}
use mathlib.Core.Bool.{Bool, true, false, true≢false}
use mathlib.Core.Logic.{◌⊎◌, inl, inr}
use mathlib.Core.List.{List, [], ◌∷◌, ◌++◌}
use Prim.Native.Nat.{ℕ, ◌+◌, ◌^◌, ◌<◌, ◌≤◌, ◌*◌, ◌-◌}
use native.Mathlib.Omega.{arith}
use lib.ListN.{length, get_or, replicate, length-append}
use Rattle.lists.specs.Choice.{pick}
use Rattle.lists.specs.Members.{has, Distinct}
use Rattle.lists.specs.Inner.{Below}
use Rattle.lists.proofs.Laws.{Known, was_true, was_false, known, lt_or_ge, pick_no}
use Rattle.lists.proofs.Pigeon.{has_here}
use Rattle.lists.proofs.Totals.{total_some, most_within}
use Rattle.board.specs.Limits.{max_vertices, max_flow}
use Rattle.decimal.specs.Decimal.{max_digits}
use Rattle.text.specs.Sizes.{vertex_digits, edge_digits, terminal_digits, route_width, load_width, longest_report}
use Rattle.board.specs.Whole.{Board}
use Rattle.board.specs.declared.Network.{Network}
use Rattle.text_rules.specs.Rules.{Lawful}
use Rattle.text.specs.Text.{line_text, lines_text}
use Rattle.text.specs.Results.{read_text}
use Rattle.text.proofs.Lengths.{line_within, each_within, lines_parted}
use Rattle.load.specs.Load.{load_text}
use Rattle.load.proofs.Loads.{load_accepted, loaded-lawful}
use Rattle.graph_flows.specs.Trails.{Trail, go, downs}
use Rattle.move_guard.specs.Parts.{acyclic_flow}
use Rattle.solve_finish.specs.Finishes.{Finished}
use Rattle.solve_finish.specs.Finishes.{finish_call}
use Rattle.move_list.specs.Calls.{Call, game_of, played}
use Rattle.report_routes.specs.Routes.{route, share, load, largest}
use Rattle.report.specs.Reports.{route_row, load_row, report_text}
use Rattle.theorem_cycles.proofs.Network.{acyclic_of_below}
use Rattle.theorem_keep.proofs.Kept.{text_flow_small}
use Rattle.theorem_list.specs.Player.{is_over, standing_moves}
use Rattle.theorem_list.specs.Complete.{vertices_along, Simple, InUse, Complete}
use Rattle.theorem_list.proofs.EveryList.{every_list}
use Rattle.theorem_list.proofs.Reports.{played_acyclic}
use Rattle.theorem_list.proofs.Rooms.{distinct_few}

-- x or 0
pick_within : (t : Bool) (x m : ℕ) → x ≤ m → pick t x 0 ≤ m
unfolding pick
pick_within true x m h = h
pick_within false x m h = omega arith

-- ---- the edges of a route

-- the vertices along edges begin with the first
along_first : (heads : List ℕ) (x v : ℕ) (es : List ℕ) → x ≡ v → has v (vertices_along heads x es) ≡ true
along_first heads x v [] q = has_here v x [] (sym q)
along_first heads x v (e ∷ es) q = has_here v x (vertices_along heads (get_or heads e 0) es) (sym q)

-- a trail that comes to no vertex twice goes over edges of the network alone
edges_below : (net : Network) → Lawful net → {v c : ℕ} (es : List ℕ) → Trail net.tails net.heads v (downs es) c
    → Distinct (vertices_along net.heads v es) → Below net.edges es
edges_below net law [] t once = tt
edges_below net law {v} (e ∷ es) (go s p t) once = (by (lt_or_ge e net.edges), edges_below net law es t once.1)
  where
    by : (e < net.edges) ⊎ (net.edges ≤ e) → e < net.edges
    by (inl h) = h
    by (inr h) =
        let loop : get_or net.heads e 0 ≡ v = omega (arith, p, (law.sound.no_edge e h).0, (law.sound.no_edge e h).1) in
        absurd (true≢false (sym (along_first net.heads (get_or net.heads e 0) v es loop) ∙ once.0))

-- ---- the report of a board with simple routes and loads below the bound

module _ (c : Board) (law : Lawful c.network) (small : (e : ℕ) → acyclic_flow c e ≤ max_flow)
    (simple : (i : ℕ) → i < c.network.terminals → Simple c i)
    (below : (e : ℕ) → InUse c e → load c e < acyclic_flow c e + largest c e) where
  -- the line of terminal i, whose number has at most d digits
  route-line : (d i : ℕ) → 0 < d → i < 10 ^ d → i < c.network.terminals → length (line_text 77 (route_row c i)) ≤ d + (route_width - terminal_digits)
  route-line d i some digits h =
      let few = distinct_few c.network law.sound c.network.source (route c i) law.sound.source (simple i h).once in
      let on = edges_below c.network law (route c i) (simple i h).trail (simple i h).once in
      let edges = each_within edge_digits (max_vertices - 1) c.network.edges (route c i) (omega arith) (omega (arith, law.within.edges)) on (omega (arith, few, law.within.vertices)) in
      omega (arith, line_within 77 (d ∷ vertex_digits ∷ replicate (max_vertices - 1) edge_digits) (route_row c i) (some, digits, (omega arith, omega (arith, few, law.within.vertices), edges)))

  -- the largest demand over an edge, and its load
  largest_small : (e : ℕ) → largest c e ≤ max_flow
  unfolding largest
  largest_small e =
      most_within (share c e) max_flow 0 c.network.terminals
      (λ i a b. pick_within (has e (route c i)) (get_or c.network.demands i 0) max_flow (law.within.demand i (omega arith)))

  holding : (e i : ℕ) → 0 < share c e i → has e (route c i) ≡ true
  holding e i h = by (known (has e (route c i)))
    where
      by : Known (has e (route c i)) → has e (route c i) ≡ true
      by (was_true t) = t
      by (was_false t) = absurd (omega (arith, h, pick_no (has e (route c i)) (get_or c.network.demands i 0) 0 t))

  load_small : (e : ℕ) → load c e < 2 * max_flow
  unfolding load
  load_small e = by (lt_or_ge 0 (load c e))
    where
      by : (0 < load c e) ⊎ (load c e ≤ 0) → load c e < 2 * max_flow
      by (inl h) = total_some (share c e) 0 c.network.terminals h λ i a b p.
          let used : InUse c e = record { terminal = i; on_board_lem = omega arith; holds = holding e i p } in
          omega (arith, below e used, small e, largest_small e)
      by (inr h) = omega arith

  -- the line of edge e, whose number has at most d digits
  load_line : (d e : ℕ) → 0 < d → e < 10 ^ d → e < c.network.edges → length (line_text 76 (load_row c e)) ≤ d + (load_width - edge_digits)
  load_line d e some digits h =
      omega (arith, line_within 76 (d ∷ max_digits ∷ max_digits ∷ []) (load_row c e) (some, digits, omega (arith, small e, load_small e)))

  short_report : length (report_text c) ≤ longest_report
  unfolding report_text
  short_report =
      let first : List ℕ = line_text 82 (c.network.terminals ∷ c.network.edges ∷ []) in
      let routes : List ℕ = lines_text 77 (route_row c) 0 c.network.terminals in
      let loads : List ℕ = lines_text 76 (load_row c) 0 c.network.edges in
      let whole = length-append first (routes ++ loads) in
      let rest = length-append routes loads in
      let first_short = line_within 82 (terminal_digits ∷ edge_digits ∷ []) (c.network.terminals ∷ c.network.edges ∷ []) (omega (arith, law.within.terminals, law.within.edges)) in
      let routes-short =
      lines_parted 77 (route_row c) (route_width - 1) route_width 10 c.network.terminals
      (λ i h g. route-line 1 i (omega arith) (omega arith) h)
      (λ i h g. route-line terminal_digits i (omega arith) (omega (arith, law.within.terminals)) h) in
      let loads-short =
      lines_parted 76 (load_row c) (load_width - 1) load_width 10 c.network.edges
      (λ e h g. load_line 1 e (omega arith) (omega arith) h)
      (λ e h g. load_line edge_digits e (omega arith) (omega (arith, law.within.edges)) h) in
      omega (arith, law.within.terminals, law.within.edges)

-- ---- after every list of calls

-- a board that finish completed, from a lawful network with a small acyclic flow
complete_short : (b : Board) (f : Finished) → Complete b f → Lawful b.network → ((e : ℕ) → acyclic_flow b e ≤ max_flow) → length (report_text f.board) ≤ longest_report
complete_short b f done law small =
    short_report f.board (rw done.network law) (λ e. rw done.acyclic (small e))
    done.completed.simple done.completed.below

pub report_short : (text : List ℕ) (cs : List Call) → (load_text text).answer ≡ 0 → is_over (standing_moves text [] cs) ≡ false
    → length (report_text (finish_call (played (game_of (load_text text).board) cs).board).board) ≤ longest_report
report_short text cs loads on =
    let faithful = every_list text cs loads in
    let net : Network = (read_text text).network in
    let law : Lawful net = loaded-lawful text loads in
    let first = load_accepted text loads in
    let network : (played (game_of (load_text text).board) cs).board.network ≡ net = faithful.network ∙ ap (λ (b : Board). b.network) first in
    complete_short (played (game_of (load_text text).board) cs).board (finish_call (played (game_of (load_text text).board) cs).board) (faithful.goes_on on).finish (rw network law)
    (λ e. rw (played_acyclic text cs loads) (omega (arith, acyclic_of_below net law.sound e, text_flow_small net law.sound law.within e)))
