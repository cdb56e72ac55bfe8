-- The starred cases of document 01, from the definitions, by one theorem over one table.
use mathlib.Core.Bool.{Bool, true, false}
use mathlib.Core.List.{List, [], ◌∷◌}
use Prim.Native.Nat.{ℕ, suc}
use Prim.Native.Char.{code}
use Prim.Native.String.{String}
use lib.Dec.{T, eqb}
use lib.ListN.{take}
use Rattle.lists.specs.Choice.{pick, both}
use Rattle.lists.specs.Lists.{index_of, all, lowest, sum_at, keyed, total}
use Rattle.lists.specs.Members.{has}
use Rattle.sets.specs.Sets.{has_bit, with_bit, collect}
use Rattle.decimal.specs.Decimal.{number_of, value_from}
use Rattle.board.specs.Record.{closed_board}
use Rattle.board.specs.Whole.{Move, Carry, Turn, Board}
use Rattle.text.specs.Text.{ranged}
use Rattle.text.specs.Results.{read_text}
use Rattle.graph.specs.Graph.{opens, pass, passes, reached, leads, onward}
use Rattle.graph_cancel.specs.Cycles.{since, follow, on_cycle, cycle_vertex, cycle_from}
use Rattle.graph_cancel.specs.Lowering.{smallest, lowered, lower_cycle}
use Rattle.graph_cancel.specs.Cancelling.{cancelled, acyclic_flows}
use Rattle.graph_flows.specs.Trails.{Step, down, up}
use Rattle.load.specs.Load.{Loaded}
use Rattle.load.specs.Load.{load_text}
use Rattle.move_edges.specs.Singular.{leaves, leaving, straight}
use Rattle.move_guard.specs.Moved.{last_entry, answered}
use Rattle.move_guard.specs.Guard.{intact, loaded, playing}
use Rattle.move_carry.specs.Opens.{flow_fits, enters_in, is_open_in, open_edge_in, has_open_in, open_terminal_in, some_open_in, is_home_in}
use Rattle.move_carry.specs.Carries.{on_board_in, carry_refusal_in, carried_in, carry_call}
use Rattle.move_cycle.specs.Steps.{every, leads_back, is_cycle, gather}
use Rattle.move_edges.specs.Marking.{singular_in, fresh_in}
use Rattle.move_cycle.specs.Amounts.{smaller, lessened, raise_in, allowed_in, amount_in}
use Rattle.move_cycle.specs.Shifts.{shifted_at, shift_from, shifted}
use Rattle.move_turn.specs.Turns.{turn_refusal_in, turned_in, turn_call}
use Rattle.move_undo.specs.Undone.{taken_back, undo_refusal, undo_call}
use Rattle.solve_walk.specs.Walk.{touches, another, parts, first_met, down_walk, cycle_of}
use Rattle.solve_next.specs.Choosing.{all_home_in, next_act_in}
use Rattle.solve_finish.specs.Finishes.{Finished}
use Rattle.solve_finish.specs.Finishes.{stepped, stepped_on, played_out, finish_refusal, finish_call}
use Rattle.move_list.specs.Calls.{Call, carry, turn, undo, finish, game_of, played, answers}
use Rattle.report_routes.specs.Routes.{route_in, route, load}
use Rattle.solve_carry.specs.Search.{chosen_edge_in, marked_edge_in, marked_open_in}

-- a text in ASCII
unfoldable pub bytes : String → List ℕ
bytes String.[] = []
bytes (String.◌∷◌ c s) = code c ∷ bytes s

-- a board text and what loading it answers; the calls made then and what they answer; the flows then, and the amount of the last standing
-- move, 0 where it is no turn. The closed board has no edges. The routes and loads are those of the board once finish has completed it; a case
-- without routes is not finished.
pub record Case : Type 0 where
  pub text : String
  pub answer : ℕ
  pub calls : List Call
  pub given : List ℕ
  pub flows : List ℕ
  pub last : ℕ
  pub routes : List (List ℕ)
  pub loads : List ℕ

-- a case of loading alone
pub loading : String → ℕ → List ℕ → Case
loading text answer flows = record { text = text; answer = answer; calls = []; given = []; flows = flows; last = 0; routes = []; loads = [] }

-- a case of calls on an accepted board
pub calling : String → List Call → List ℕ → List ℕ → ℕ → Case
calling text calls given flows last = record { text = text; answer = 0; calls = calls; given = given; flows = flows; last = last; routes = []; loads = [] }

-- a case of finishing a loaded board
pub finishing : String → List ℕ → List (List ℕ) → List ℕ → Case
finishing text flows routes loads = record { text = text; answer = 0; calls = []; given = []; flows = flows; last = 0; routes = routes; loads = loads }

-- document 01's S, the board whose channels 1 and 2 drain to 0, and document 01's T
unfoldable pub board_s : String
board_s = "B,2,1,1,0\nC,0,1,5\nW,1,5\n"

unfoldable pub with_cycle : String
with_cycle = "B,3,3,1,0\nC,0,1,4\nC,1,2,3\nC,2,1,3\nW,1,4\n"

unfoldable pub board_t : String
board_t = "B,4,4,2,0\nC,0,1,3\nC,0,2,3\nC,1,3,3\nC,2,3,3\nW,3,2\nW,3,4\n"

-- "down 0, down 2, up 3, up 1"
around : List Step
around = down 0 ∷ down 2 ∷ up 3 ∷ up 1 ∷ []

-- S and S with other lines, the drained board, and T, whose finish is document 01's sheet; a finish taken back, on T and, with no move of its own, on S (document 02, E1)
pub cases : List Case
cases =
    finishing board_s (5 ∷ []) ((0 ∷ []) ∷ []) (5 ∷ [])
    ∷ loading "B,2,1,1,0\nC,1,1,5\nW,1,5\n" 3 []
    ∷ loading "B,2,1,1,0\nC,0,1,5\nW,0,5\n" 4 []
    ∷ loading "B,2,1,1,0\nC,0,1,4\nW,1,5\n" 5 []
    ∷ loading "B,2,1,1,0\nC,0,1,1000000\nW,1,1000000\n" 0 (1000000 ∷ [])
    ∷ loading "B,2,1,1,0\nC,0,1,1000001\nW,1,1000001\n" 2 []
    ∷ loading "B,2,1,1,0\nC,0,1,05\nW,1,5\n" 1 []
    ∷ loading with_cycle 0 (4 ∷ 0 ∷ 0 ∷ [])
    ∷ calling with_cycle (carry 0 0 ∷ turn (down 1 ∷ down 2 ∷ []) ∷ []) (0 ∷ 25 ∷ []) (0 ∷ 0 ∷ 0 ∷ []) 0
    ∷ calling board_t (carry 0 0 ∷ []) (22 ∷ []) (3 ∷ 3 ∷ 3 ∷ 3 ∷ []) 0
    ∷ calling board_t (carry 1 2 ∷ []) (23 ∷ []) (3 ∷ 3 ∷ 3 ∷ 3 ∷ []) 0
    ∷ calling board_t (carry 2 0 ∷ []) (6 ∷ []) (3 ∷ 3 ∷ 3 ∷ 3 ∷ []) 0
    ∷ calling board_t (undo ∷ []) (27 ∷ []) (3 ∷ 3 ∷ 3 ∷ 3 ∷ []) 0
    ∷ calling board_t (carry 0 2 ∷ carry 0 0 ∷ turn around ∷ []) (0 ∷ 0 ∷ 0 ∷ []) (0 ∷ 4 ∷ 0 ∷ 4 ∷ []) 1
    ∷ calling board_t (carry 0 2 ∷ carry 0 0 ∷ turn around ∷ undo ∷ []) (0 ∷ 0 ∷ 0 ∷ 0 ∷ []) (1 ∷ 3 ∷ 1 ∷ 3 ∷ []) 0
    ∷ calling board_t (carry 0 2 ∷ finish ∷ carry 0 0 ∷ finish ∷ undo ∷ []) (0 ∷ 0 ∷ 20 ∷ 20 ∷ 0 ∷ []) (3 ∷ 3 ∷ 1 ∷ 3 ∷ []) 0
    ∷ calling board_s (carry 0 0 ∷ finish ∷ undo ∷ undo ∷ undo ∷ []) (0 ∷ 0 ∷ 0 ∷ 0 ∷ 27 ∷ []) (5 ∷ []) 0
    ∷ finishing board_t (3 ∷ 3 ∷ 3 ∷ 3 ∷ []) ((0 ∷ 2 ∷ []) ∷ (1 ∷ 3 ∷ []) ∷ []) (2 ∷ 4 ∷ 2 ∷ 4 ∷ [])
    ∷ []

unfoldable pub same : List ℕ → List ℕ → Bool
same [] [] = true
same [] (y ∷ ys) = false
same (x ∷ xs) [] = false
same (x ∷ xs) (y ∷ ys) = both (eqb x y) (same xs ys)

amount_of : Move → ℕ
amount_of (Carry r) = 0
amount_of (Turn a) = a.amount

-- the board at the end
ends : Case → Board → Bool
ends x b = both (same (take b.network.edges b.flows) x.flows) (eqb (amount_of (last_entry b).step) x.last)

-- the routes of terminals i, i + 1, .., and the loads of edges e, e + 1, ..; no more of them
routed : Board → ℕ → List (List ℕ) → Bool
routed b i [] = eqb i b.network.terminals
routed b i (r ∷ rs) = both (same (route b i) r) (routed b (suc i) rs)

loads_from : Board → ℕ → List ℕ → Bool
loads_from b e [] = eqb e b.network.edges
loads_from b e (l ∷ ls) = both (eqb (load b e) l) (loads_from b (suc e) ls)

-- what finish gives, where the case has routes
completes : Case → Finished → Bool
completes x f = both (eqb f.answer 0) (both (routed f.board 0 x.routes) (loads_from f.board 0 x.loads))

finishes : Case → List (List ℕ) → Board → Bool
finishes x [] b = true
finishes x (r ∷ rs) b = completes x (finish_call b)

holds : Case → Loaded → Bool
holds x l =
    both (eqb l.answer x.answer)
    (both (same (answers (game_of l.board) x.calls) x.given)
    (both (ends x (played (game_of l.board) x.calls).board) (finishes x x.routes (played (game_of l.board) x.calls).board)))

-- every case of the table is as it says
pub hold : List Case → Bool
hold [] = true
hold (x ∷ xs) = both (holds x (load_text (bytes x.text))) (hold xs)

pub starred : T (hold cases)
unfolding load_text read_text bytes cases hold holds same both pick index_of number_of value_from ranged all lowest sum_at keyed closed_board
    opens pass passes reached leads onward since follow smallest lowered lower_cycle on_cycle cycle_vertex cycle_from cancelled acyclic_flows
    loading calling board_s with_cycle board_t around amount_of ends played answers answered intact loaded playing
    flow_fits enters_in is_open_in open_edge_in has_open_in open_terminal_in some_open_in on_board_in carry_refusal_in carried_in carry_call
    has_bit with_bit collect every leads_back is_cycle gather leaves leaving straight singular_in fresh_in
    smaller lessened raise_in allowed_in amount_in shifted_at shift_from shifted turn_refusal_in turned_in turn_call taken_back undo_refusal undo_call
    finishing routed loads_from completes finishes total has touches another parts first_met down_walk cycle_of is_home_in all_home_in marked_open_in marked_edge_in chosen_edge_in next_act_in
    stepped stepped_on played_out finish_refusal finish_call route_in route load
starred = tt
