-- The call `finish`: document 01, "Moves".
use Rattle.std.specs.Prelude.{true, false, ℕ, zero, suc, ◌-◌, eqb}
use Rattle.lists.specs.Choice.{pick, unless}
use Rattle.board.specs.Limits.{max_moves}
use Rattle.board.specs.Record.{finished_stage}
use Rattle.board.specs.Whole.{Board}
use Rattle.board.specs.Whole.{Played}
use Rattle.move_guard.specs.Guard.{playing}
use Rattle.move_guard.specs.Moved.{answered}
use Rattle.solve_next.specs.Choosing.{all_home, judge, acted, next_act}

-- what a finish gives: 0, how many moves it made, and the board at the end; or the number that it is refused with, and the board as it was
pub record Finished : Type 0 where
  pub answer : ℕ
  pub count : ℕ
  pub board : Board

-- the solver's next move made as a call; 28 where every terminal is at the source and none is left to make
unfoldable pub stepped : Board → Played
stepped b = pick (all_home b) (record { answer = 28; board = b }) (answered (judge b (next_act b)) b (acted b (next_act b)))

-- such moves as long as they are accepted, k of them at most
unfoldable pub stepped_on : ℕ → Board → Board
stepped_on zero b = b
stepped_on (suc k) b = elim (eqb (stepped b).answer 0) [ true ↦ stepped_on k (stepped b).board | false ↦ b ]

-- "plays to the end": no board takes more moves than the journal has places
unfoldable pub played_out : Board → Board
played_out b = stepped_on max_moves b

-- "Finish: 20". A board that cannot be played to the end was never loaded: see the theorem about every list of calls
unfoldable pub finish_refusal : Board → ℕ
finish_refusal b = unless (playing b) 20 (unless (all_home (played_out b)) 20 0)

-- play is over; the moves of the finish start behind those that stood before it
abbrev pub ended : ℕ → Board → Board
ended from b = record {
  stage = finished_stage;
  network = b.network;
  acyclic = b.acyclic;
  flows = b.flows;
  marks = b.marks;
  places = b.places;
  journal = b.journal;
  moves = b.moves;
  finish_from = from;
}

-- the call, which "answers how many moves it made"; a refusal gives the number alone
unfoldable pub finish_call : Board → Finished
finish_call b =
    pick (eqb (finish_refusal b) 0)
    (record { answer = 0; count = (played_out b).moves - b.moves; board = ended b.moves (played_out b) })
    (record { answer = finish_refusal b; count = 0; board = b })
