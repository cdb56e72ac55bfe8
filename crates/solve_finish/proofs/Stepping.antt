-- The solver's move as a call, by the definition: none is made where every terminal is at the source, and on a board that is not in play every move is refused
-- with 20. And the answer of a finish, by its tests one after the other.
use mathlib.Core.Path.{◌≡◌, sym}
use mathlib.Core.Bool.{true, false}
use Prim.Native.Nat.{ℕ, ◌-◌}
use Rattle.lists.specs.Choice.{pick}
use Rattle.lists.proofs.Laws.{pick_yes, pick_no}
use Rattle.board.specs.Whole.{Board}
use Rattle.board.specs.Whole.{Played}
use Rattle.move_guard.specs.Guard.{playing}
use Rattle.move_guard.specs.Moved.{answered}
use Rattle.solve_next.specs.Choosing.{Act, relocate, augment, all_home, judge, acted, next_act}
use Rattle.solve_finish.specs.Finishes.{stepped, played_out, finish_refusal, ended, finish_call}
use Rattle.move_carry.specs.Carries.{carry_refusal_in}
use Rattle.move_carry.specs.Opens.{is_home_in}
use Rattle.move_turn.specs.Turns.{turn_refusal_in}

-- a move made as a call
abbrev pub call : Board → Act → Played
call b x = answered (judge b x) b (acted b x)

module _ (b : Board) where
  pub stepped_home : all_home b ≡ true → record { answer = 28; board = b } ≡ stepped b
  unfolding stepped
  stepped_home h = sym (pick_yes _ _ _ h)

  pub away : all_home b ≡ false → call b (next_act b) ≡ stepped b
  unfolding stepped
  away h = sym (pick_no _ _ _ h)

  pub not-playing : (x : Act) → playing b ≡ false → judge b x ≡ 20
  unfolding carry_refusal_in is_home_in turn_refusal_in
  not-playing (relocate i e) p = pick_no _ _ _ p
  not-playing (augment w) p = pick_no _ _ _ p

-- the call's answer
module _ (b : Board) where
  refusal : 20 ≡ finish_refusal b → record { answer = 20; count = 0; board = b } ≡ finish_call b
  unfolding finish_call pick
  refusal h = rw (← h)

  pub finish_closed : playing b ≡ false → record { answer = 20; count = 0; board = b } ≡ finish_call b
  unfolding finish_refusal
  finish_closed p = refusal (sym (pick_no _ _ _ p))

  pub finish_stuck : playing b ≡ true → all_home (played_out b) ≡ false → record { answer = 20; count = 0; board = b } ≡ finish_call b
  unfolding finish_refusal pick
  finish_stuck p h = refusal (rw (p, h))

  pub finish_made : (last end : Board) (count : ℕ) → playing b ≡ true → last ≡ played_out b → all_home last ≡ true → count ≡ last.moves - b.moves
      → end ≡ ended b.moves last → record { answer = 0; count = count; board = end } ≡ finish_call b
  unfolding finish_refusal finish_call pick
  finish_made last end count p l h c e = rw (p, ← l, h, c, e)
