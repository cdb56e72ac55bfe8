-- A board reached by play keeps the invariant, so it is intact and its routes have room in their rows: all that it lacks for a report is that play is over. Finish
-- plays on by accepted moves, so the board at its end keeps the invariant too, and to end play changes nothing that the two tests look at.
use mathlib.Core.Path.{◌≡◌, refl, sym, ap, ◌∙◌}
use mathlib.Core.Bool.{true, false, true≢false}
use mathlib.Core.List.{List, []}
use Prim.Native.Nat.{ℕ, ◌≤◌}
use native.Mathlib.Omega.{arith}
use lib.Dec.{eqb}
use borrow.Author.Tests.{le-leb, eq-eqb, ne_eqb}
use Rattle.lists.proofs.Laws.{pick_yes, pick_no, both_true}
use Rattle.board.specs.Record.{play_stage, finished_stage}
use Rattle.board.specs.Whole.{Board}
use Rattle.text.specs.Results.{read_text}
use Rattle.load.specs.Load.{acyclic_of, load_text}
use Rattle.load.proofs.Loads.{load_accepted}
use Rattle.move_guard.specs.Guard.{intact, loaded}
use Rattle.move_guard.proofs.Facts.{playing-intact}
use Rattle.report_routes.specs.Routes.{route}
use Rattle.report_routes.specs.Tables.{routes_fit}
use Rattle.report.specs.Reports.{started, unreported, report_text}
use Rattle.sheet_output.specs.Outputs.{report_of, finish_output, sheet_output}
use Rattle.solve_finish.specs.Finishes.{Finished}
use Rattle.solve_finish.specs.Finishes.{played_out, ended, finish_call}
use Rattle.move_list.specs.Calls.{Call, game_of, played}
use Rattle.theorem_keep.proofs.Standing.{Standing, loaded-standing, standing-playing}
use Rattle.theorem_list.specs.Player.{Item, ending, is_over, afresh, standing_moves}
use Rattle.theorem_list.proofs.Finish.{finish_result, finish_completes}
use Rattle.theorem_list.proofs.Finish as finishing
use Rattle.theorem_list.proofs.Stands.{afresh_more, Stands, none, Stood, going, over, stands_open, stands_standing}
use Rattle.theorem_list.proofs.EveryList.{every_list, all_stood}
use Rattle.theorem_list.proofs.Unfinished.{stood_stands}
use Rattle.theorem_list.specs.Reported.{Reported, ReportedAfter, Printed}
use Rattle.theorem_list.proofs.Rooms.{routes_fit_lem}

-- the test of a board, from its parts
all-started : (b : Board) → play_stage ≤ b.stage → b.stage ≤ finished_stage → intact b ≡ true → routes_fit b ≡ true → started b ≡ true
unfolding started loaded
all-started b from to whole room = both_true _ _ (both_true _ _ (both_true _ _ (le-leb _ _ from) (le-leb _ _ to)) whole) room

-- a board of play, and the same once play is over
module _ (b : Board) (st : Standing b) where
  standing-intact : intact b ≡ true
  standing-intact = playing-intact b (standing-playing b st)

  standing-unreported : unreported b ≡ 28
  unfolding unreported
  standing-unreported =
      let loaded = all-started b (omega (arith, st.stage)) (omega (arith, st.stage)) standing-intact (routes_fit_lem b st.inv st.within) in
      pick_yes (started b) _ 29 loaded ∙ pick_no (eqb b.stage finished_stage) 0 28 (ne_eqb b.stage finished_stage (λ q. omega (arith, st.stage, q)))

  ended_reported : (from : ℕ) → unreported (ended from b) ≡ 0
  unfolding unreported intact routes_fit route
  ended_reported from =
      let loaded = all-started (ended from b) (omega arith) (omega arith) standing-intact (routes_fit_lem b st.inv st.within) in
      pick_yes (started (ended from b)) _ 29 loaded ∙ pick_yes (eqb finished_stage finished_stage) 0 28 (eq-eqb finished_stage finished_stage refl)

pub finished_reported : (b : Board) → Standing b → unreported (finish_call b).board ≡ 0
finished_reported b st = rw (finish_result b st) (ended_reported (played_out b) (finishing.over b st).standing b.moves)

-- a finish that is accepted and leaves a report prints it
report_printed : (f : Finished) → f.answer ≡ 0 → unreported f.board ≡ 0 → finish_output f ≡ report_text f.board
unfolding finish_output report_of
report_printed f taken there = pick_yes (eqb f.answer 0) _ _ (eq-eqb _ 0 taken) ∙ pick_yes (eqb (unreported f.board) 0) _ _ (eq-eqb _ 0 there)

-- the board after any calls is one of play where no finish stands
pub played-standing : (text : List ℕ) (cs : List Call) → (load_text text).answer ≡ 0 → is_over (standing_moves text [] cs) ≡ false
    → Standing (played (game_of (load_text text).board) cs).board
played-standing text cs loads on =
    let ms : List Item = standing_moves text [] cs in
    rw (every_list text cs loads).board (stands_standing text loads ms (stood_stands text ms (all_stood text loads [] cs (going none)) on))

-- where one stands, it is what finish gives on the board of the moves before
pub record FinishedFrom (text : List ℕ) (ms : List Item) : Type 0 where
  pub before : List Item
  pub moves : Stands text before
  pub given : afresh text ms ≡ (finish_call (afresh text before)).board

pub finished_from : (text : List ℕ) (ms : List Item) → Stood text ms → is_over ms ≡ true → FinishedFrom text ms
finished_from text ms (going s) h = absurd (true≢false (sym h ∙ stands_open text ms s))
finished_from text all (over ms s q) h = record { before = ms; moves = s; given = ap (afresh text) q ∙ afresh_more text ms ending }

module _ (text : List ℕ) (cs : List Call) (loads : (load_text text).answer ≡ 0) where
  abbrev after : Board
  after = (played (game_of (load_text text).board) cs).board

  in_play : is_over (standing_moves text [] cs) ≡ false → Reported after
  in_play on =
      let st = played-standing text cs loads on in
      record {
        before = standing-unreported after st;
        complete = ((every_list text cs loads).goes_on on).finish;
        after = finished_reported after st;
      }

  finished : is_over (standing_moves text [] cs) ≡ true → unreported after ≡ 0
  finished h =
      let f = finished_from text (standing_moves text [] cs) (all_stood text loads [] cs (going none)) h in
      rw ((every_list text cs loads).board, f.given) (finished_reported (afresh text f.before) (stands_standing text loads f.before f.moves))

  pub every_report : ReportedAfter text cs (played (game_of (load_text text).board) cs).board
  every_report = record { goes_on = in_play; over = finished }

  -- the acyclic flow stays that of the text
  pub played_acyclic : (played (game_of (load_text text).board) cs).board.acyclic ≡ acyclic_of (read_text text).network
  played_acyclic = (every_list text cs loads).acyclic ∙ ap (λ (b : Board). b.acyclic) (load_accepted text loads)

pub sheet_printed : (text : List ℕ) → (load_text text).answer ≡ 0 → Printed text (load_text text).board
unfolding sheet_output
sheet_printed text loads =
    let st = loaded-standing text loads in
    let done = finish_completes (load_text text).board st in
    record {
      complete = done;
      printed =
          pick_yes (eqb (load_text text).answer 0) _ _ (eq-eqb _ 0 loads)
          ∙ report_printed (finish_call (load_text text).board) done.accepted (finished_reported (load_text text).board st);
    }
