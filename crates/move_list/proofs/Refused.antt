-- A refused call gives the board as it was.
use mathlib.Core.Path.{◌≡◌, refl, sym, ap, ◌∙◌}
use mathlib.Core.Logic.{◌≢◌}
use Prim.Native.Nat.{ℕ}
use lib.Dec.{eqb}
use Rattle.lists.proofs.Laws.{Known, was_true, was_false, known, pick_yes, pick_no}
use Rattle.board.specs.Whole.{Board, Played}
use Rattle.move_guard.specs.Moved.{answered}
use Rattle.move_carry.specs.Carries.{carry_refusal, carried, carry_call}
use Rattle.move_turn.specs.Turns.{turn_refusal, turned, turn_call}
use Rattle.move_undo.specs.Undone.{undo_refusal, undo_call}
use Rattle.solve_finish.specs.Finishes.{Finished, finish_refusal, finish_call}
use Rattle.move_list.specs.Calls.{Call, carry, turn, undo, hint, finish, Game, game_of, made}

pub refused_same : (n : ℕ) (b next : Board) → (answered n b next).answer ≢ 0 → (answered n b next).board ≡ b
unfolding answered
refused_same n b next h = go (known (eqb n 0))
  where
    go : Known (eqb n 0) → (answered n b next).board ≡ b
    go (was_true t) = absurd (h (ap (λ (p : Played). p.answer) (pick_yes (eqb n 0) _ _ t)))
    go (was_false t) = ap (λ (p : Played). p.board) (pick_no (eqb n 0) _ _ t)

pub finish_same : (b : Board) → (finish_call b).answer ≢ 0 → finish_call b ≡ record { answer = (finish_call b).answer; count = 0; board = b }
unfolding finish_call
finish_same b h = go (known (eqb (finish_refusal b) 0))
  where
    go : Known (eqb (finish_refusal b) 0) → finish_call b ≡ record { answer = (finish_call b).answer; count = 0; board = b }
    go (was_true t) = absurd (h (ap (λ (f : Finished). f.answer) (pick_yes (eqb (finish_refusal b) 0) _ _ t)))
    go (was_false t) =
        let same = pick_no (eqb (finish_refusal b) 0) _ _ t in
        same ∙ (λ j. record { answer = ap (λ (f : Finished). f.answer) (sym same) j; count = 0; board = b })

pub call_same : (g : Game) (c : Call) → (made g c).answer ≢ 0 → (made g c).game ≡ g
unfolding carry_call turn_call undo_call
call_same g (carry i e) h = ap game_of (refused_same (carry_refusal g.board i e) g.board (carried g.board i e) h)
call_same g (turn w) h = ap game_of (refused_same (turn_refusal g.board w) g.board (turned g.board w) h)
call_same g undo h = ap game_of (refused_same (undo_refusal g.board) g.board _ h)
call_same g hint h = refl
call_same g finish h = ap (λ (f : Finished). game_of f.board) (finish_same g.board h)
