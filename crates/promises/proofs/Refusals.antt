-- Refusals. A board that is not in play, closed or finished, is refused with 20 by the first test of each call but undo, which asks that it was loaded. A board of play keeps the invariant, which has all that
-- the calls ask besides; and to end play changes nothing that they look at but the stage.
use mathlib.Core.Path.{◌≡◌, refl, sym, ap, ◌∙◌}
use mathlib.Core.Bool.{Bool, true, false}
use mathlib.Core.Logic.{◌≢◌}
use mathlib.Core.List.{List, [], ◌++◌}
use Prim.Native.Nat.{ℕ, ◌≤◌}
use native.Mathlib.Omega.{arith}
use lib.Dec.{eqb}
use lib.ListN.{length, drop}
use borrow.Author.Tests.{eq-eqb, ne_eqb, eqb-true, le-leb}
use Rattle.lists.specs.Choice.{pick, both}
use Rattle.lists.proofs.Laws.{Known, was_true, was_false, known, pick_yes, pick_no, both_true}
use Rattle.board.specs.Record.{play_stage, finished_stage, closed_board}
use Rattle.board.specs.Whole.{Board}
use Rattle.graph_flows.specs.Trails.{Step}
use Rattle.text_rules.specs.Rules.{lawful}
use Rattle.text_rules.proofs.Meaning.{lawful_tested}
use Rattle.text.specs.Results.{writable, write_text, written, write_text_in, written_in}
use Rattle.text.specs.Results.{Written}
use Rattle.load.specs.Load.{load_text}
use Rattle.load.proofs.Loads.{load_refused}
use Rattle.move_guard.specs.Guard.{intact, loaded, playing}
use Rattle.move_guard.specs.Moved.{answered}
use Rattle.move_guard.proofs.Answers.{answered_no}
use Rattle.move_guard.proofs.Facts.{playing-intact}
use Rattle.move_carry.specs.Carries.{carry_refusal, carried, carry_call, carry_refusal_in}
use Rattle.move_turn.specs.Turns.{turn_refusal, turned, turn_call, turn_refusal_in}
use Rattle.move_undo.specs.Undone.{undo_refusal, undo_call}
use Rattle.move_list.proofs.Refused.{finish_same, call_same}
use Rattle.move_list.specs.Calls.{Call, undo, game_of, played}
use Rattle.solve_next.specs.Choosing.{no_advice}
use Rattle.solve_next.specs.Hints.{hint_refusal, hint_call}
use Rattle.solve_finish.specs.Finishes.{played_out, ended, finish_refusal, finish_call}
use Rattle.report_routes.specs.Routes.{route}
use Rattle.report_routes.specs.Tables.{routes_fit}
use Rattle.report.specs.Reports.{started, unreported, report_text, sheet_refusal, sheet_call, sheeted}
use Rattle.catalog.specs.Catalog.{catalog_call, catalogued}
use Rattle.theorem_keep.proofs.Standing.{Standing, standing-lawful, standing-playing}
use Rattle.theorem_list.specs.Player.{Item, says_to, standing_moves}
use Rattle.theorem_list.proofs.Finish.{finish_taken, hint_taken}
use Rattle.theorem_list.proofs.Stands.{none, going}
use Rattle.theorem_list.proofs.EveryList.{same, all_stood, every_list, off_stage}
use Rattle.theorem_list.proofs.Rooms.{routes_fit_lem}
use Rattle.promises.specs.Plays.{OfPlay, OfFinish}
use Rattle.promises.specs.Refusals.{Refuses20, Refuses29, Whole, AboutRefusals}
use Rattle.promises.proofs.Plays.{play_standing, last_standing, finish_ended, finish_stage}
use Rattle.move_carry.specs.Opens.{is_home_in}

-- ---- a board that is not in play
module _ (b : Board) (shut : playing b ≡ false) where
  -- a call whose number is 20
  stays : (n : ℕ) (next : Board) → n ≡ 20 → answered n b next ≡ record { answer = 20; board = b }
  stays n next h = answered_no n b next (λ q. omega (arith, h, q)) ∙ (λ j. record { answer = h j; board = b })

  pub no_carry : (i e : ℕ) → carry_call b i e ≡ record { answer = 20; board = b }
  unfolding carry_call carry_refusal_in is_home_in
  no_carry i e = stays (carry_refusal b i e) (carried b i e) (pick_no (playing b) _ 20 shut)

  pub no_turn : (w : List Step) → turn_call b w ≡ record { answer = 20; board = b }
  unfolding turn_call turn_refusal_in
  no_turn w = stays (turn_refusal b w) (turned b w) (pick_no (playing b) _ 20 shut)

  pub hint_number : hint_refusal b ≡ 20
  unfolding hint_refusal
  hint_number = pick_no (playing b) _ 20 shut

  no_hint : hint_call b ≡ record { answer = 20; advice = no_advice }
  unfolding hint_call pick
  no_hint = rw hint_number

  finish_number : finish_refusal b ≡ 20
  unfolding finish_refusal
  finish_number = pick_no (playing b) _ 20 shut

  pub no_finish : finish_call b ≡ record { answer = 20; count = 0; board = b }
  unfolding finish_call
  no_finish =
      pick_no (eqb (finish_refusal b) 0) _ _ (ne_eqb (finish_refusal b) 0 (λ q. omega (arith, finish_number, q)))
      ∙ (λ j. record { answer = finish_number j; count = 0; board = b })

  refuses_20 : Refuses20 b
  refuses_20 = record { carry = no_carry; turn = no_turn; hint = no_hint; finish = no_finish }

-- ---- undo
pub undo_shut : (b : Board) → loaded b ≡ false → undo_call b ≡ record { answer = 20; board = b }
unfolding undo_call undo_refusal
undo_shut b shut =
    let number : undo_refusal b ≡ 20 = pick_no (loaded b) _ 20 shut in
    answered_no (undo_refusal b) b _ (λ q. omega (arith, number, q)) ∙ (λ j. record { answer = number j; board = b })

-- after any calls it is the player's number, 27 or 0
undo_number : (t : Bool) → pick {A = ℕ} t 27 0 ≢ 20
unfolding pick
undo_number true = λ q. omega (arith, q)
undo_number false = λ q. omega (arith, q)

undo_said : (text : List ℕ) (ms : List Item) → says_to text ms undo ≢ 20
unfolding says_to
undo_said text ms = undo_number (eqb (length ms) 0)

undo_open : (text : List ℕ) (cs : List Call) → (load_text text).answer ≡ 0 → (undo_call (played (game_of (load_text text).board) cs).board).answer ≢ 20
undo_open text cs loads =
    let ms : List Item = standing_moves text [] cs in
    let q = same text loads ms undo (all_stood text loads [] cs (going none)) in
    rw (every_list text cs loads).board (λ z. undo_said text ms (sym q.answer ∙ z))

-- ---- the closed board
closed_off : playing closed_board ≡ false
unfolding closed_board
closed_off = off_stage closed_board (λ q. omega (arith, q))

not-writable : writable closed_board.stage closed_board.network ≡ false
unfolding closed_board writable both
not-writable = refl

not_reported : unreported closed_board ≡ 29
unfolding closed_board unreported started loaded both pick
not_reported = refl

closed_writer : (buf : List ℕ) → (write_text closed_board (length buf) ≡ record { answer = 29; used = 0 }) × (written closed_board buf ≡ buf)
unfolding write_text_in written_in pick
closed_writer buf = (rw not-writable, rw not-writable)

closed_sheet : (buf : List ℕ) → (sheet_call closed_board (length buf) ≡ record { answer = 29; used = 0 }) × (sheeted closed_board buf ≡ buf)
unfolding sheet_call sheeted sheet_refusal pick
closed_sheet buf = (rw not_reported, rw not_reported)

refuses_29 : Refuses29 closed_board
refuses_29 = record { sheet = closed_sheet; writer = closed_writer }

-- ---- what the calls ask besides
staged-loaded : (b : Board) → play_stage ≤ b.stage → b.stage ≤ finished_stage → intact b ≡ true → loaded b ≡ true
unfolding loaded
staged-loaded b from to whole = both_true _ _ (both_true _ _ (le-leb _ _ from) (le-leb _ _ to)) whole

staged-writable : (b : Board) → play_stage ≤ b.stage → b.stage ≤ finished_stage → lawful b.network ≡ true → writable b.stage b.network ≡ true
unfolding writable
staged-writable b from to law = both_true _ _ (both_true _ _ (le-leb _ _ from) (le-leb _ _ to)) law

module _ (b : Board) (st : Standing b) where
  whole : Whole b
  whole = record {
    intact = staged-loaded b (omega (arith, st.stage)) (omega (arith, st.stage)) (playing-intact b (standing-playing b st));
    network = staged-writable b (omega (arith, st.stage)) (omega (arith, st.stage)) (lawful_tested b.network (standing-lawful b st));
    routes = routes_fit_lem b st.inv st.within;
  }

  -- the same once play is over
  ended_whole : (from : ℕ) → Whole (ended from b)
  unfolding intact routes_fit route
  ended_whole from = record {
    intact = staged-loaded (ended from b) (omega arith) (omega arith) (playing-intact b (standing-playing b st));
    network = staged-writable (ended from b) (omega arith) (omega arith) (lawful_tested b.network (standing-lawful b st));
    routes = routes_fit_lem b st.inv st.within;
  }

in_play : (text : List ℕ) (b : Board) → OfPlay text b → Whole b × (hint_refusal b ≡ 0) × (finish_refusal b ≡ 0)
in_play text b p = let st = play_standing text b p in (whole b st, hint_taken b st, finish_taken b st)

finished : (text : List ℕ) (f : Board) → OfFinish text f → Whole f
finished text f p = rw (finish_ended text f p) (ended_whole (played_out p.before) (last_standing text f p) p.before.moves)

-- ---- refused calls leave what they got
writer_same : (b : Board) (buf : List ℕ) → (write_text b (length buf)).answer ≢ 0 → written b buf ≡ buf
unfolding written_in
writer_same b buf h = pick_no _ _ _ (ne_eqb _ 0 h)

catalog_same : (k : ℕ) (buf : List ℕ) → (catalog_call k (length buf)).answer ≢ 0 → catalogued k buf ≡ buf
unfolding catalogued
catalog_same k buf h = pick_no _ _ _ (ne_eqb _ 0 h)

-- the sheet's number is that of its call
sheet_number : (b : Board) (n : ℕ) → (sheet_call b n).answer ≡ sheet_refusal b n
unfolding sheet_call
sheet_number b n = go (known (eqb (sheet_refusal b n) 0))
  where
    go : Known (eqb (sheet_refusal b n) 0) → (sheet_call b n).answer ≡ sheet_refusal b n
    go (was_true t) = ap (λ (r : Written). r.answer) (pick_yes (eqb (sheet_refusal b n) 0) _ _ t) ∙ sym (eqb-true _ _ t)
    go (was_false t) = ap (λ (r : Written). r.answer) (pick_no (eqb (sheet_refusal b n) 0) _ _ t)

sheet_same : (b : Board) (buf : List ℕ) → (sheet_call b (length buf)).answer ≢ 0 → sheeted b buf ≡ buf
unfolding sheeted
sheet_same b buf h = pick_no _ _ _ (ne_eqb _ 0 (λ q. h (sheet_number b (length buf) ∙ q)))

sheet_put : (b : Board) (buf : List ℕ) → (sheet_call b (length buf)).answer ≡ 0 → sheeted b buf ≡ report_text b ++ drop (length (report_text b)) buf
unfolding sheeted
sheet_put b buf h = pick_yes _ _ _ (eq-eqb _ 0 (sym (sheet_number b (length buf)) ∙ h))

pub about_refusals : AboutRefusals
about_refusals = record {
  load_refused = load_refused;
  closed_refused = (refuses_20 closed_board closed_off, refuses_29);
  undo_refused = undo_shut;
  undo_open = undo_open;
  over_refused = λ text f p. refuses_20 f (off_stage f (λ q. omega (arith, q, finish_stage text f p)));
  whole_in_play = in_play;
  whole_finished = finished;
  call_refused = call_same;
  finish_refused = finish_same;
  writer_refused = writer_same;
  sheet_refused = sheet_same;
  catalog_refused = catalog_same;
  sheet_written = sheet_put;
}
