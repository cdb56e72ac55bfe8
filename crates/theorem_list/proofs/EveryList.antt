-- After every list of calls the engine stands where the reference player does: after each call its board is the board made afresh from the standing items. An
-- accepted move or finish joins the list, a refused call and a hint leave board and list, and undo gives the very board that the last standing item was made on. Behind a
-- finish every call but undo is refused, since the board is not in play. The rest of the theorem is read off from the standing items.
use mathlib.Core.Path.{◌≡◌, refl, sym, ap, ◌∙◌}
use mathlib.Core.Bool.{true, false, true≢false}
use mathlib.Core.Logic.{◌⊎◌, inl, inr, ◌≢◌}
use mathlib.Core.List.{List, [], ◌∷◌, ◌++◌}
use Prim.Native.Nat.{ℕ, ◌≤◌}
use native.Mathlib.Omega.{arith}
use lib.Dec.{eqb}
use lib.ListN.{length, get_or, length-append}
use borrow.Author.Tests.{eq-eqb, ne_eqb}
use Rattle.lists.specs.Choice.{pick, both}
use Rattle.lists.proofs.Laws.{eq_or_ne, pick_yes, pick_no}
use Rattle.board.specs.Limits.{max_moves}
use Rattle.board.specs.Record.{play_stage, blank}
use Rattle.board.specs.Whole.{Board}
use Rattle.board.specs.Whole.{Played}
use Rattle.load.specs.Load.{load_text}
use Rattle.move_guard.specs.Guard.{loaded, playing}
use Rattle.move_guard.proofs.Answers.{answered_no}
use Rattle.move_undo.specs.Undone.{is_finished, undo_refusal, undo_call}
use Rattle.solve_next.specs.Advices.{Suggestion}
use Rattle.solve_next.specs.Choosing.{Act, relocate, augment, judge, acted}
use Rattle.solve_next.specs.Hints.{hint_refusal}
use Rattle.solve_finish.specs.Finishes.{Finished}
use Rattle.solve_finish.specs.Finishes.{played_out, ended, finish_call}
use Rattle.solve_finish.proofs.Lent.{finish_packed}
use Rattle.solve_finish.proofs.Stepping.{not-playing, finish_closed}
use Rattle.theorem_keep.proofs.Standing.{Standing, standing-playing, standing-loaded, standing_open}
use Rattle.move_list.specs.Calls.{Call, carry, turn, undo, hint, finish, call_for, Game, game_of, Reply, reply_of, reply_of_finish, made, played, answers, hint_given, hints_of}
use Rattle.journal.specs.Words.{no_words, packed_all}
use Rattle.move_list.specs.Words.{words_played}
use Rattle.theorem_list.specs.Player.{
  Item,
  act,
  ending,
  is_over,
  listed_all,
  afresh,
  says_to,
  standing_with,
  standing_after,
  standing_moves,
  says,
  suggests,
  expanded_from,
  call_again,
}
use Rattle.theorem_list.specs.Faithful.{GoesOn, IsComplete, Faithful}
use Rattle.theorem_list.proofs.Finish.{finish_result, finish_completes, hint_taken}
use Rattle.theorem_list.proofs.Words.{calls_kept, blank_words_lem}
use Rattle.theorem_list.proofs.Stands.{
  Accepted,
  called_act,
  act_accepted,
  finish_accepted,
  without_last,
  afresh_more,
  over_ending,
  Stands,
  none,
  more,
  Stood,
  going,
  over,
  stands_open,
  stands_standing,
  stood_follows,
}

-- one call, on the engine's board and by the player
pub record Same (text : List ℕ) (ms : List Item) (c : Call) : Type 0 where
  pub answer : (made (game_of (afresh text ms)) c).answer ≡ says_to text ms c
  pub game : (made (game_of (afresh text ms)) c).game ≡ game_of (afresh text (standing_after text ms c))
  pub stood : Stood text (standing_after text ms c)

module _ (text : List ℕ) (ms : List Item) where
  -- an item that is accepted and joins the list
  joins : (m : Item) → Accepted (afresh text ms) m → says_to text ms (call_again m) ≡ 0 → standing_after text ms (call_again m) ≡ ms ++ (m ∷ [])
      → Stood text (standing_after text ms (call_again m)) → Same text ms (call_again m)
  joins m a said kept stood = record {
    answer = ap (λ (r : Reply). r.answer) a.called ∙ sym said;
    game = rw kept (ap (λ (r : Reply). r.game) a.called ∙ ap game_of (sym (afresh_more text ms m)));
    stood = stood;
  }

  -- a call that leaves board and list
  leaves : (c : Call) → Stood text ms → made (game_of (afresh text ms)) c ≡ record { answer = says_to text ms c; game = game_of (afresh text ms) }
      → standing_after text ms c ≡ ms → Same text ms c
  leaves c s m kept = record {
    answer = ap (λ (r : Reply). r.answer) m;
    game = rw kept (ap (λ (r : Reply). r.game) m);
    stood = rw kept s;
  }

  -- a move is judged, and joins the list where it is accepted
  said_act : (a : Act) → says_to text ms (call_for a) ≡ judge (afresh text ms) a
  unfolding says_to
  said_act (relocate i e) = refl
  said_act (augment w) = refl

  joined_act : (a : Act) → standing_after text ms (call_for a) ≡ standing_with text ms a
  unfolding standing_after
  joined_act (relocate i e) = refl
  joined_act (augment w) = refl

  refused_act : (a : Act) → Stood text ms → judge (afresh text ms) a ≢ 0 → Same text ms (call_for a)
  unfolding standing_with
  refused_act a s n =
      let b : Board = afresh text ms in
      let number = sym (said_act a) in
      leaves (call_for a) s
      (called_act b a ∙ ap reply_of (answered_no (judge b a) b (acted b a) n) ∙ (λ j. record { answer = number j; game = game_of b }))
      (joined_act a ∙ pick_no _ _ _ (ne_eqb _ 0 n))

-- ---- play goes on
module _ (text : List ℕ) (ms : List Item) (s : Stands text ms) (st : Standing (afresh text ms)) where
  same_act : (a : Act) → Same text ms (call_for a)
  unfolding standing_with
  same_act a = go (eq_or_ne (judge (afresh text ms) a) 0)
    where
      b : Board
      b = afresh text ms

      go : (judge b a ≡ 0) ⊎ (judge b a ≢ 0) → Same text ms (call_for a)
      go (inl h) =
          let kept = joined_act text ms a ∙ pick_yes _ _ _ (eq-eqb _ 0 h) in
          joins text ms (act a) (act_accepted b a st h) (said_act text ms a ∙ h) kept (going (more ms a s h kept))
      go (inr n) = refused_act text ms a (going s) n

  same_hint : Same text ms hint
  unfolding says_to standing_after
  same_hint =
      let said = hint_taken (afresh text ms) st ∙ sym (pick_no (is_over ms) 20 0 (stands_open text ms s)) in
      leaves text ms hint (going s) (λ j. record { answer = said j; game = game_of (afresh text ms) }) refl

  same_finish : Same text ms finish
  unfolding says_to standing_after
  same_finish =
      let unended : is_over ms ≡ false = stands_open text ms s in
      let kept = pick_no (is_over ms) ms (ms ++ (ending ∷ [])) unended in
      joins text ms ending (finish_accepted (afresh text ms) st) (pick_no (is_over ms) 20 0 unended) kept (over ms s kept)

-- undo on a board with no move: 27
undo_nothing : (b : Board) → Standing b → b.moves ≡ 0 → undo_call b ≡ record { answer = 27; board = b }
unfolding undo_call undo_refusal
undo_nothing b st none_made =
    let r : undo_refusal b ≡ 27 =
    pick_yes (loaded b) _ 20 (standing-loaded b st)
    ∙ pick_no (is_finished b) _ _ (standing_open b st)
    ∙ pick_yes (eqb b.moves 0) 27 0 (eq-eqb b.moves 0 none_made) in
    answered_no (undo_refusal b) b _ (λ z. omega (arith, r, z)) ∙ (λ j. record { answer = r j; board = b })

module _ (text : List ℕ) (loads : (load_text text).answer ≡ 0) where
  undo_none : Same text [] undo
  unfolding says_to standing_after expanded_from is_over pick
  undo_none =
      let f = stood_follows text loads [] (going none) in
      leaves text [] undo (going none) (ap reply_of (undo_nothing (afresh text []) (stands_standing text loads [] none) f.moves)) refl

  -- undo after the last item m
  undo_last : (ms : List Item) (m : Item) → Stands text ms → Accepted (afresh text ms) m → Same text (ms ++ (m ∷ [])) undo
  unfolding says_to standing_after
  undo_last ms m s a =
      let back : undo_call (afresh text (ms ++ (m ∷ []))) ≡ record { answer = 0; board = afresh text ms } = rw (afresh_more text ms m) a.back in
      record {
        answer =
            ap (λ (p : Played). p.answer) back
            ∙ sym (pick_no (eqb (length (ms ++ (m ∷ []))) 0) 27 0 (ne_eqb (length (ms ++ (m ∷ []))) 0 (λ z. omega (arith, z, length-append ms (m ∷ [])))));
        game = rw (without_last ms m) (ap (λ (p : Played). game_of p.board) back);
        stood = rw (without_last ms m) (going s);
      }

  same_undo : (ms : List Item) → Stands text ms → Same text ms undo
  same_undo ms none = undo_none
  same_undo all (more ms a s h q) = rw q (undo_last ms (act a) s (act_accepted (afresh text ms) a (stands_standing text loads ms s) h))

-- ---- a finish stands
-- a board of another stage is not in play
pub off_stage : (b : Board) → b.stage ≢ play_stage → playing b ≡ false
unfolding playing both
off_stage b n = rw (ne_eqb b.stage play_stage n)

-- so is the board that a finish gave
pub finished_off : (b : Board) → Standing b → playing (finish_call b).board ≡ false
finished_off b st = rw (finish_result b st) (off_stage (ended b.moves (played_out b)) (λ q. omega (arith, q)))

module _ (text : List ℕ) (loads : (load_text text).answer ≡ 0) (ms : List Item) (s : Stands text ms) where
  abbrev all : List Item
  all = ms ++ (ending ∷ [])

  abbrev b : Board
  b = afresh text (ms ++ (ending ∷ []))

  stands_over : Stood text all
  stands_over = over ms s refl

  off : playing b ≡ false
  off = rw (afresh_more text ms ending) (finished_off (afresh text ms) (stands_standing text loads ms s))

  over_act : (a : Act) → Same text all (call_for a)
  over_act a = refused_act text all a stands_over (λ z. omega (arith, z, not-playing b a off))

  over_hint : Same text all hint
  unfolding says_to standing_after hint_refusal
  over_hint =
      let said : hint_refusal b ≡ says_to text all hint = pick_no (playing b) _ 20 off ∙ sym (pick_yes (is_over all) 20 0 (over_ending ms)) in
      leaves text all hint stands_over (λ j. record { answer = said j; game = game_of b }) refl

  over_finish : Same text all finish
  unfolding says_to standing_after
  over_finish =
      let said : 20 ≡ says_to text all finish = sym (pick_yes (is_over all) 20 0 (over_ending ms)) in
      leaves text all finish stands_over (ap reply_of_finish (sym (finish_closed b off)) ∙ (λ j. record { answer = said j; game = game_of b }))
      (pick_yes (is_over all) all _ (over_ending ms))

  over_undo : Same text all undo
  over_undo = undo_last text loads ms ending s (finish_accepted (afresh text ms) (stands_standing text loads ms s))

module _ (text : List ℕ) (loads : (load_text text).answer ≡ 0) where
  same_going : (ms : List Item) (c : Call) → Stands text ms → Same text ms c
  same_going ms (carry i e) s = same_act text ms s (stands_standing text loads ms s) (relocate i e)
  same_going ms (turn w) s = same_act text ms s (stands_standing text loads ms s) (augment w)
  same_going ms undo s = same_undo text loads ms s
  same_going ms hint s = same_hint text ms s (stands_standing text loads ms s)
  same_going ms finish s = same_finish text ms s (stands_standing text loads ms s)

  same_over : (ms : List Item) (c : Call) → Stands text ms → Same text (ms ++ (ending ∷ [])) c
  same_over ms (carry i e) s = over_act text loads ms s (relocate i e)
  same_over ms (turn w) s = over_act text loads ms s (augment w)
  same_over ms undo s = over_undo text loads ms s
  same_over ms hint s = over_hint text loads ms s
  same_over ms finish s = over_finish text loads ms s

  pub same : (ms : List Item) (c : Call) → Stood text ms → Same text ms c
  same ms c (going s) = same_going ms c s
  same all c (over ms s q) = rw q (same_over ms c s)

  -- a list of calls, from standing items on
  pub all_stood : (ms : List Item) (cs : List Call) → Stood text ms → Stood text (standing_moves text ms cs)
  unfolding standing_moves
  all_stood ms [] s = s
  all_stood ms (c ∷ cs) s = all_stood (standing_after text ms c) cs (same ms c s).stood

  same_game : (ms : List Item) (cs : List Call) → Stood text ms → played (game_of (afresh text ms)) cs ≡ game_of (afresh text (standing_moves text ms cs))
  unfolding played standing_moves
  same_game ms [] s = refl
  same_game ms (c ∷ cs) s = let q = same ms c s in rw q.game (same_game (standing_after text ms c) cs q.stood)

  same_answers : (ms : List Item) (cs : List Call) → Stood text ms → answers (game_of (afresh text ms)) cs ≡ says text ms cs
  unfolding answers says
  same_answers ms [] s = refl
  same_answers ms (c ∷ cs) s = let q = same ms c s in rw (q.game, q.answer, same_answers (standing_after text ms c) cs q.stood)

  same_hints : (ms : List Item) (cs : List Call) → Stood text ms → hints_of (game_of (afresh text ms)) cs ≡ suggests text ms cs
  unfolding hints_of suggests
  same_hints ms [] s = refl
  same_hints ms (c ∷ cs) s =
      let q = same ms c s in
      let rest : hints_of (made (game_of (afresh text ms)) c).game cs ≡ suggests text (standing_after text ms c) cs =
      ap (λ (g : Game). hints_of g cs) q.game ∙ same_hints (standing_after text ms c) cs q.stood in
      ap (λ (hs : List Suggestion). hint_given (afresh text ms) c ++ hs) rest

  -- the board that the text gave is the player's before any call
  start : (load_text text).board ≡ afresh text []
  unfolding afresh listed_all
  start = refl

  words : (cs : List Call) → words_played (game_of (load_text text).board) cs no_words ≡ packed_all (afresh text (standing_moves text [] cs)).journal
  words cs = calls_kept text cs ∙ rw (start, same_game [] cs (going none))

  -- what the journal of standing items keeps
  stood_places : (ms : List Item) → Stood text ms → length (afresh text ms).journal ≡ max_moves
  stood_places ms (going s) = (stands_standing text loads ms s).journal_size
  stood_places all (over ms s q) = rw (q, afresh_more text ms ending) (finish_completes (afresh text ms) (stands_standing text loads ms s)).completed.places

  stood_blanks : (ms : List Item) → Stood text ms → (i : ℕ) → (afresh text ms).moves ≤ i → get_or (afresh text ms).journal i blank ≡ blank
  stood_blanks ms (going s) = (stands_standing text loads ms s).inv.blanks
  stood_blanks all (over ms s q) = rw (q, afresh_more text ms ending) (finish_completes (afresh text ms) (stands_standing text loads ms s)).completed.blanks

  -- the end: play goes on, or it is over and the board complete
  stood_goes_on : (ms : List Item) (w : List (List ℕ)) → Stood text ms → w ≡ packed_all (afresh text ms).journal → is_over ms ≡ false → GoesOn (afresh text ms) w
  stood_goes_on ms w (going s) kept h =
      let st = stands_standing text loads ms s in
      record {
        in_play = standing-playing (afresh text ms) st;
        finish = finish_completes (afresh text ms) st;
        finish_words = finish_packed (afresh text ms) w kept;
      }
  stood_goes_on all w (over ms s q) kept h = absurd (true≢false (sym (over_ending ms) ∙ sym (ap is_over q) ∙ h))

  stood_complete : (ms : List Item) → Stood text ms → is_over ms ≡ true → IsComplete (afresh text ms)
  stood_complete ms (going s) h = absurd (true≢false (sym h ∙ stands_open text ms s))
  stood_complete all (over ms s q) h =
      let st = stands_standing text loads ms s in
      rw (q, afresh_more text ms ending) (record {
        finished = ap (λ (f : Finished). f.board.stage) (finish_result (afresh text ms) st);
        completed = (finish_completes (afresh text ms) st).completed;
      })

  -- the player's board, after every list of calls
  faithful : (cs : List Call) → Faithful text cs (afresh text (standing_moves text [] cs))
  unfolding afresh listed_all
  faithful cs =
      let ms : List Item = standing_moves text [] cs in
      let stood = all_stood [] cs (going none) in
      let f = stood_follows text loads ms stood in
      record {
        network = f.network;
        acyclic = f.acyclic;
        board = refl;
        routes = f.routes;
        again = ap (λ (g : Game). g.board) (sym f.again);
        moves = f.moves;
        places = stood_places ms stood;
        words = words cs;
        blanks = stood_blanks ms stood;
        blank_words_lem = blank_words_lem (afresh text ms) (words_played (game_of (load_text text).board) cs no_words) (words cs) (stood_blanks ms stood);
        accepted_again = f.accepted;
        same_answers = same_answers [] cs (going none);
        same_hints = same_hints [] cs (going none);
        goes_on = stood_goes_on ms (words_played (game_of (load_text text).board) cs no_words) stood (words cs);
        over = stood_complete ms stood;
      }

pub every_list : (text : List ℕ) (cs : List Call) → (load_text text).answer ≡ 0 → Faithful text cs (played (game_of (load_text text).board) cs).board
every_list text cs loads = rw (start text loads, same_game text loads [] cs (going none)) (faithful text loads cs)
