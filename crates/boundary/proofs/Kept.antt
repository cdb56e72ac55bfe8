-- A refused call gives the board as it was: each of the four calls that change a game.
use mathlib.Core.Path.{ap}
use mathlib.Core.List.{List}
use Prim.Native.Nat.{ℕ}
use Rattle.board.specs.Whole.{Board, Played}
use Rattle.graph_flows.specs.Trails.{Step}
use Rattle.move_carry.specs.Carries.{carry_refusal, carried, carry_call}
use Rattle.move_turn.specs.Turns.{turn_refusal, turned, turn_call}
use Rattle.move_undo.specs.Undone.{undo_refusal, undo_call}
use Rattle.solve_finish.specs.Finishes.{Finished, finish_call}
use Rattle.move_list.proofs.Refused.{refused_same, finish_same}
use Rattle.boundary.proofs.Calls.{Keeps}

pub carry_keeps : (i e : ℕ) → Keeps (λ b. carry_call b i e)
unfolding carry_call
carry_keeps i e b s = refused_same (carry_refusal b i e) b (carried b i e) s

pub turn_keeps : (w : List Step) → Keeps (λ b. turn_call b w)
unfolding turn_call
turn_keeps w b s = refused_same (turn_refusal b w) b (turned b w) s

pub undo_keeps : Keeps undo_call
unfolding undo_call
undo_keeps b s = refused_same (undo_refusal b) b _ s

-- a finish as the number and the board that it gives
abbrev pub ended_by : Finished → Played
ended_by f = record { answer = f.answer; board = f.board }

abbrev pub ending : Board → Played
ending b = ended_by (finish_call b)

pub finish_keeps : Keeps ending
finish_keeps b s = ap (λ (f : Finished). f.board) (finish_same b s)
