-- What the functions ensure, put together, is demand 3: the answers and the hints are the player's, and the finish completes the board, or is refused on one that is
-- finished, all by the theorem about every list of calls.
use mathlib.Core.Path.{◌≡◌, sym, ap, ◌∙◌}
use mathlib.Core.List.{List}
use Prim.Native.Nat.{ℕ}
use native.Mathlib.Omega.{arith}
use lib.Seq.{sets}
use Rattle.board.specs.Whole.{Board}
use Rattle.load.specs.Load.{load_text}
use Rattle.solve_next.specs.Advices.{Suggestion}
use Rattle.move_list.specs.Calls.{Call, game_of, played, answers, hints_of, noted}
use Rattle.theorem_list.specs.Faithful.{Faithful}
use Rattle.solve_finish.proofs.Stepping.{finish_closed}
use Rattle.theorem_list.proofs.EveryList.{every_list, off_stage}
use Rattle.playthrough.specs.Through.{Outcome}
use Rattle.playthrough.specs.Through.{outcome, Held, Holds}

pub held : (text : List ℕ) (cs : List Call) (given given' hints hints' : List ℕ) (r : Outcome) → r ≡ outcome text cs
    → given' ≡ sets given 0 (answers (game_of (load_text text).board) cs) → hints' ≡ noted hints 0 (hints_of (game_of (load_text text).board) cs)
    → Holds text cs given given' hints hints' r
held text cs given given' hints hints' r e g h loads = rw e here
  where
    after : Board
    after = (played (game_of (load_text text).board) cs).board

    u : Faithful text cs after
    u = every_list text cs loads

    here : Held text cs given given' hints hints' (outcome text cs)
    here = record {
      faithful = u;
      answers-written = g ∙ ap (λ (xs : List ℕ). sets given 0 xs) u.same_answers;
      hints_written = h ∙ ap (λ (hs : List Suggestion). noted hints 0 hs) u.same_hints;
      finished = λ h. (u.goes_on h).finish;
      refused = λ h. sym (finish_closed after (off_stage after (λ q. omega (arith, q, (u.over h).finished))));
    }
