-- A board of play keeps what the theorem about every list says of it, and so does the board at whose end a finish stops. A board after calls is in play where no finish
-- stands; else it is what a finish gives on the board of the moves before, which those moves, called again, lead to.
use mathlib.Core.Path.{◌≡◌, refl, sym, ap, ◌∙◌}
use mathlib.Core.Bool.{true, false}
use mathlib.Core.Logic.{◌⊎◌, inl, inr}
use mathlib.Core.List.{List, []}
use Prim.Native.Nat.{ℕ}
use native.Mathlib.Omega.{arith}
use Rattle.lists.proofs.Laws.{Known, was_true, was_false, known}
use Rattle.board.specs.Record.{play_stage, finished_stage}
use Rattle.board.specs.Whole.{Board}
use Rattle.text.specs.Results.{read_text}
use Rattle.load.specs.Load.{acyclic_of, load_text}
use Rattle.move_list.specs.Calls.{Call, Game, game_of, played}
use Rattle.solve_finish.specs.Finishes.{Finished}
use Rattle.solve_finish.specs.Finishes.{played_out, ended}
use Rattle.theorem_keep.proofs.Standing.{Standing}
use Rattle.theorem_list.specs.Player.{Item, is_over, afresh, standing_moves, calls_again}
use Rattle.theorem_list.specs.Faithful.{Faithful}
use Rattle.theorem_list.proofs.Stands.{none, going, stands_standing, stands_follows}
use Rattle.theorem_list.proofs.EveryList.{every_list, all_stood}
use Rattle.theorem_list.proofs.Finish.{over, finish_result}
use Rattle.theorem_list.proofs.Reports.{played-standing, played_acyclic, finished_from}
use Rattle.promises.specs.Plays.{OfPlay, OfFinish}

-- no finish stands on a board in play
open_stage : (text : List ℕ) (cs : List Call) → (load_text text).answer ≡ 0 → (played (game_of (load_text text).board) cs).board.stage ≡ play_stage
    → is_over (standing_moves text [] cs) ≡ false
open_stage text cs loads h = go (known (is_over (standing_moves text [] cs)))
  where
    go : Known (is_over (standing_moves text [] cs)) → is_over (standing_moves text [] cs) ≡ false
    go (was_true t) = absurd (omega (arith, h, ((every_list text cs loads).over t).finished))
    go (was_false t) = t

module _ (text : List ℕ) (b : Board) (p : OfPlay text b) where
  pub play_open : is_over (standing_moves text [] p.calls) ≡ false
  play_open = open_stage text p.calls p.accepted (ap (λ (c : Board). c.stage) (sym p.after) ∙ p.in_play)

  pub play_standing : Standing b
  play_standing = rw p.after (played-standing text p.calls p.accepted play_open)

  pub play_faithful : Faithful text p.calls b
  play_faithful = rw p.after (every_list text p.calls p.accepted)

-- the board that a finish gave: one of play, whose play is over
module _ (text : List ℕ) (f : Board) (p : OfFinish text f) where
  pub before_standing : Standing p.before
  before_standing = play_standing text p.before p.play

  pub last_standing : Standing (played_out p.before)
  last_standing = (over p.before before_standing).standing

  pub finish_ended : f ≡ ended p.before.moves (played_out p.before)
  finish_ended = p.given ∙ ap (λ (r : Finished). r.board) (finish_result p.before before_standing)

  pub finish_stage : f.stage ≡ finished_stage
  finish_stage = ap (λ (b : Board). b.stage) finish_ended

  pub finish_network : f.network ≡ (load_text text).board.network
  finish_network = ap (λ (b : Board). b.network) finish_ended ∙ (over p.before before_standing).network ∙ (play_faithful text p.before p.play).network

  pub finish_acyclic : f.acyclic ≡ acyclic_of (read_text text).network
  finish_acyclic =
      ap (λ (b : Board). b.acyclic) finish_ended ∙ (over p.before before_standing).acyclic ∙ ap (λ (b : Board). b.acyclic) p.play.after
      ∙ played_acyclic text p.play.calls p.play.accepted

-- the board after any calls
module _ (text : List ℕ) (cs : List Call) (loads : (load_text text).answer ≡ 0) where
  abbrev after : Board
  after = (played (game_of (load_text text).board) cs).board

  ms : List Item
  ms = standing_moves text [] cs

  goes_on : is_over ms ≡ false → OfPlay text after
  unfolding ms
  goes_on on = record { accepted = loads; calls = cs; after = refl; in_play = (played-standing text cs loads on).stage }

  is_over_lem : is_over ms ≡ true → OfFinish text after
  unfolding ms
  is_over_lem h =
      let f = finished_from text ms (all_stood text loads [] cs (going none)) h in
      let again = ap (λ (g : Game). g.board) (sym (stands_follows text loads f.before f.moves).again) in
      record {
        before = afresh text f.before;
        play = record {
          accepted = loads;
          calls = calls_again f.before;
          after = again;
          in_play = (stands_standing text loads f.before f.moves).stage;
        };
        given = (every_list text cs loads).board ∙ f.given;
      }

  pub every_board : OfPlay text (played (game_of (load_text text).board) cs).board ⊎ OfFinish text (played (game_of (load_text text).board) cs).board
  every_board = go (known (is_over ms))
    where
      go : Known (is_over ms) → OfPlay text after ⊎ OfFinish text after
      go (was_true t) = inr (is_over_lem t)
      go (was_false t) = inl (goes_on t)
