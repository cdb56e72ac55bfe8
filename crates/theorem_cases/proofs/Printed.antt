-- What the programs print, computed from the definitions: for document 01's T the sheet that it shows, and a play with lines of every kind; for the board
-- whose channels 1 and 2 drain to 0, a sheet that shows them so (document 02, E4).
use mathlib.Core.Bool.{Bool}
use mathlib.Core.List.{◌++◌}
use Prim.Native.String.{String}
use lib.Dec.{T}
use Rattle.lists.specs.Choice.{pick, both, either}
use Rattle.lists.specs.Lists.{index_of, all, lowest, sum_at, keyed, total}
use Rattle.lists.specs.Members.{has}
use Rattle.sets.specs.Sets.{has_bit, with_bit, collect}
use Rattle.decimal.specs.Decimal.{number_of, value_from, decimal_from, decimal}
use Rattle.board.specs.Record.{closed_board}
use Rattle.text.specs.Text.{then, letter, field, ranged, numbers, line, header, numbers_text, line_text, lines_text}
use Rattle.text.specs.Results.{read_text}
use Rattle.graph.specs.Graph.{opens, pass, passes, reached, leads, onward}
use Rattle.graph_cancel.specs.Cycles.{since, follow, on_cycle, cycle_vertex, cycle_from}
use Rattle.graph_cancel.specs.Lowering.{smallest, lowered, lower_cycle}
use Rattle.graph_cancel.specs.Cancelling.{cancelled, acyclic_flows}
use Rattle.load.specs.Load.{load_text}
use Rattle.move_edges.specs.Singular.{leaves, leaving, straight}
use Rattle.move_guard.specs.Moved.{answered}
use Rattle.move_guard.specs.Guard.{intact, loaded, playing}
use Rattle.move_carry.specs.Opens.{flow_fits, enters_in, is_open_in, open_edge_in, has_open_in, open_terminal_in, some_open_in, is_home_in}
use Rattle.move_carry.specs.Carries.{on_board_in, carry_refusal_in, carried_in, carry_call}
use Rattle.move_cycle.specs.Steps.{code_step, code_steps, every, leads_back, is_cycle, gather}
use Rattle.move_edges.specs.Marking.{singular_in, fresh_in}
use Rattle.move_cycle.specs.Amounts.{smaller, lessened, raise_in, allowed_in, amount_in}
use Rattle.move_cycle.specs.Shifts.{shifted_at, shift_from, shifted}
use Rattle.move_turn.specs.Turns.{turn_refusal_in, turned_in, turn_call}
use Rattle.move_undo.specs.Undone.{taken_back, undo_refusal, undo_call}
use Rattle.solve_walk.specs.Walk.{touches, another, parts, first_met, down_walk, cycle_of}
use Rattle.solve_next.specs.Choosing.{all_home_in, next_act_in, act_of}
use Rattle.solve_finish.specs.Finishes.{stepped, stepped_on, played_out, finish_refusal, finish_call}
use Rattle.report_routes.specs.Routes.{route_in, route, load}
use Rattle.solve_next.specs.Hints.{hint_refusal, next_advice_in, hint_call}
use Rattle.report_routes.specs.Tables.{routes_fit}
use Rattle.report.specs.Reports.{report_text, started, unreported}
use Rattle.play_lines.specs.Orders.{fields_of, onto, is_letter, carry_of, turn_of, by_fields, order_of}
use Rattle.play_lines.specs.MoveLines.{steps_text, move_line, hint_line}
use Rattle.sheet_output.specs.Outputs.{report_of, finish_output, sheet_output}
use Rattle.sheet_output.specs.Inputs.{first_lines, lines_of, lines_wanted, board_part, moves_part}
use Rattle.play_session.specs.Replies.{replied, reply_text, replies_from, play_output}
use Rattle.theorem_cases.proofs.Cases.{bytes, with_cycle, board_t, same}
use Rattle.solve_carry.specs.Search.{chosen_edge_in, marked_edge_in, marked_open_in}

-- document 01's sheet
sheet_t : String
sheet_t = "R,2,4\nM,0,2,0,2\nM,1,2,1,3\nL,0,3,2\nL,1,3,4\nL,2,3,2\nL,3,3,4\n"

sheet_with_cycle : String
sheet_with_cycle = "R,1,3\nM,0,1,0\nL,0,4,4\nL,1,0,0\nL,2,0,0\n"

-- a hint, two carries, the turn, an undo and a hint; a channel too large for a step, lines of another form, the empty turn; a finish, a carry that it refuses, an undo,
-- the hint again, the finish again, and a line without its line feed
lines : String
lines = "H\nK,0,2\nK,0,0\nT,0,D,2,D,3,U,1,U\nU\nH\nT,128,D\nK,0\nN\nT\nF\nK,1,3\nU\nH\nF\nF"

answers_t : String
answers_t = "0\nK,0,2\n0\n0\n0\n0\n0\nT,0,D,2,D,3,U,1,U\n6\n1\n1\n7\n0\n"

behind_finish : String
behind_finish = "20\n0\n0\nT,0,D,2,D,3,U,1,U\n0\n"

pub as_shown : Bool
as_shown =
    both (same (sheet_output (bytes board_t)) (bytes sheet_t))
    (both (same (sheet_output (bytes with_cycle)) (bytes sheet_with_cycle))
    (both (same (play_output (bytes board_t ++ bytes lines)) (bytes answers_t ++ (bytes sheet_t ++ (bytes behind_finish ++ (bytes sheet_t ++ bytes "1\n")))))
    (same (play_output (bytes with_cycle ++ bytes "K,0,0\nH\n")) (bytes "0\n0\nN\n"))))

pub printed : T as_shown
unfolding as_shown lines answers_t behind_finish play_output replies_from reply_text replied hint_refusal next_advice_in hint_call act_of code_step code_steps steps_text move_line hint_line board_part moves_part first_lines lines_wanted lines_of header line letter
    field numbers then fields_of onto is_letter carry_of turn_of by_fields order_of same bytes with_cycle board_t sheet_t sheet_with_cycle sheet_output finish_output report_of report_text
    started unreported routes_fit route route_in load decimal decimal_from numbers_text line_text lines_text load_text read_text both pick index_of number_of
    value_from ranged all lowest sum_at keyed closed_board opens pass passes reached leads onward since follow smallest lowered lower_cycle on_cycle
    cycle_vertex cycle_from cancelled acyclic_flows answered intact loaded playing flow_fits enters_in is_open_in open_edge_in has_open_in open_terminal_in some_open_in on_board_in
    carry_refusal_in carried_in carry_call has_bit with_bit collect every leads_back is_cycle gather leaves leaving straight singular_in fresh_in
    smaller lessened raise_in allowed_in amount_in shifted_at shift_from shifted turn_refusal_in turned_in turn_call taken_back undo_refusal undo_call total has touches another parts
    first_met down_walk cycle_of is_home_in all_home_in marked_open_in marked_edge_in chosen_edge_in next_act_in stepped stepped_on played_out finish_refusal finish_call
    either
printed = tt
