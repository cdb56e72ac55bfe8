-- What `play` prints, line by line. The board before each line is the player's, made afresh from the standing items, as after each call of a list; so the number is the
-- player's. A finish that is accepted was made on a board of play, and its board has a sheet.
use mathlib.Core.Path.{◌≡◌, refl, sym, ap, ◌∙◌}
use mathlib.Core.Logic.{◌≢◌}
use mathlib.Core.List.{List, [], ◌∷◌, ◌++◌, append-nil, append_assoc}
use Prim.Native.Nat.{ℕ}
use native.Mathlib.Omega.{arith}
use lib.Dec.{eqb}
use lib.ListN.{length}
use borrow.Author.Tests.{eq-eqb, ne_eqb}
use Rattle.lists.specs.Choice.{pick}
use Rattle.lists.proofs.Laws.{Known, was_true, was_false, known, pick_yes, pick_no}
use Rattle.board.specs.Whole.{Board}
use Rattle.load.specs.Load.{load_text}
use Rattle.solve_finish.specs.Finishes.{finish_call}
use Rattle.move_list.specs.Calls.{Call, carry, turn, undo, hint, finish, Game, game_of, made}
use Rattle.report.specs.Reports.{report_text, unreported}
use Rattle.sheet_output.specs.Inputs.{board_part, moves_part}
use Rattle.sheet_output.specs.Outputs.{number_line, report_of}
use Rattle.play_lines.specs.Orders.{Order, call, other, order_of}
use Rattle.play_session.specs.Replies.{replied, behind_zero, reply_text, replies_from, play_output}
use Rattle.play_session.proofs.Lines.{reply_alone}
use Rattle.theorem_keep.proofs.Standing.{Standing}
use Rattle.theorem_list.specs.Player.{Item, ending, is_over, listed_all, afresh, says_to, standing_after}
use Rattle.theorem_list.proofs.Stands.{over_ending, none, Stood, going, over, stands_standing}
use Rattle.theorem_list.proofs.EveryList.{same}
use Rattle.theorem_list.proofs.Reports.{finished_reported}
use Rattle.promises.specs.Lines.{orders_from, shown, said}

-- the sheet of a finish that was accepted on a board of play
sheet_shown : (b : Board) → Standing b → report_of (finish_call b).board ≡ report_text (finish_call b).board
unfolding report_of
sheet_shown b st = pick_yes (eqb (unreported (finish_call b).board) 0) _ _ (eq-eqb _ 0 (finished_reported b st))

module _ (text : List ℕ) (loads : (load_text text).answer ≡ 0) where
  -- behind a finish another is refused, and shows nothing
  over_shown : (ms : List Item) (l : List ℕ) → pick (eqb (says_to text (ms ++ (ending ∷ [])) finish) 0) l [] ≡ []
  unfolding says_to
  over_shown ms l =
      let all : List Item = ms ++ (ending ∷ []) in
      let number : says_to text all finish ≡ 20 = pick_yes (is_over all) 20 0 (over_ending ms) in
      pick_no (eqb (says_to text all finish) 0) l [] (ne_eqb (says_to text all finish) 0 (λ q. omega (arith, number, q)))

  finish_shown : (ms : List Item) → Stood text ms
      → let b = afresh text ms in
      pick (eqb (says_to text ms finish) 0) (report_of (finish_call b).board) [] ≡ pick (eqb (says_to text ms finish) 0) (report_text (finish_call b).board) []
  finish_shown ms (going s) =
      ap (λ (l : List ℕ). pick (eqb (says_to text ms finish) 0) l []) (sheet_shown (afresh text ms) (stands_standing text loads ms s))
  finish_shown all (over ms s q) = rw q (over_shown ms _ ∙ sym (over_shown ms _))

  call_shown : (ms : List Item) (c : Call) → Stood text ms
      → pick (eqb (says_to text ms c) 0) (behind_zero (afresh text ms) (call c)) [] ≡ pick (eqb (says_to text ms c) 0) (shown (afresh text ms) c) []
  call_shown ms (carry i e) s = refl
  call_shown ms (turn w) s = refl
  call_shown ms undo s = refl
  call_shown ms hint s = refl
  call_shown ms finish s = finish_shown ms s

  -- the reply to a call
  call_told : (ms : List Item) (c : Call) → Stood text ms
      → reply_text (afresh text ms) (call c) ≡ number_line (says_to text ms c) ++ pick (eqb (says_to text ms c) 0) (shown (afresh text ms) c) []
  unfolding reply_text replied
  call_told ms c s =
      ap (λ (n : ℕ). number_line n ++ pick (eqb n 0) (behind_zero (afresh text ms) (call c)) []) (same text loads ms c s).answer
      ∙ ap (λ (l : List ℕ). number_line (says_to text ms c) ++ l) (call_shown ms c s)

  line-said : (ms : List Item) → Stood text ms → (o : Order) (s : List ℕ)
      → ((more : List Item) → Stood text more → replies_from (afresh text more) [] s ≡ said text more (orders_from [] s))
      → reply_text (afresh text ms) o ++ replies_from (replied (afresh text ms) o).board [] s ≡ said text ms (o ∷ orders_from [] s)
  unfolding said replied
  line-said ms st (call c) s ih =
      let q = same text loads ms c st in
      let board : (made (game_of (afresh text ms)) c).game.board ≡ afresh text (standing_after text ms c) = ap (λ (g : Game). g.board) q.game in
      rw (call_told ms c st, board, ih (standing_after text ms c) q.stood)
      (append_assoc (number_line (says_to text ms c)) (pick (eqb (says_to text ms c) 0) (shown (afresh text ms) c) []) (said text (standing_after text ms c) (orders_from [] s)))
  line-said ms st other s ih = rw (reply_alone (afresh text ms) other refl, ih ms st)

  lines-said : (l s : List ℕ) (ms : List Item) → Stood text ms → replies_from (afresh text ms) l s ≡ said text ms (orders_from l s)
  unfolding replies_from orders_from said replied pick
  lines-said l [] ms st = go (known (eqb (length l) 0))
    where
      go : Known (eqb (length l) 0) → replies_from (afresh text ms) l [] ≡ said text ms (orders_from l [])
      go (was_true t) = rw (t, replies_from, orders_from, said, pick) refl
      go (was_false t) =
          rw (t, replies_from, orders_from, said, replied, pick) (reply_alone (afresh text ms) other refl ∙ sym (append-nil _))
  lines-said l (c ∷ s) ms st = go (known (eqb c 10)) (λ more m. lines-said [] s more m) (lines-said (l ++ (c ∷ [])) s ms st)
    where
      go : Known (eqb c 10) → ((more : List Item) → Stood text more → replies_from (afresh text more) [] s ≡ said text more (orders_from [] s))
          → replies_from (afresh text ms) (l ++ (c ∷ [])) s ≡ said text ms (orders_from (l ++ (c ∷ [])) s)
          → replies_from (afresh text ms) l (c ∷ s) ≡ said text ms (orders_from l (c ∷ s))
      go (was_true t) line byte = rw (t, replies_from, orders_from) (line-said ms st (order_of l) s line)
      go (was_false t) line byte = rw (t, replies_from, orders_from) byte

  -- the board that the text gave is the player's before any move
  begun : (load_text text).board ≡ afresh text []
  unfolding afresh listed_all
  begun = refl

pub play_printed : (input : List ℕ) → (load_text (board_part input)).answer ≡ 0 → play_output input ≡ said (board_part input) [] (orders_from [] (moves_part input))
unfolding play_output
play_printed input loads =
    pick_yes _ _ _ (eq-eqb _ 0 loads)
    ∙ rw (begun (board_part input) loads) (lines-said (board_part input) loads [] (moves_part input) [] (going none))

pub play_refused : (input : List ℕ) → (load_text (board_part input)).answer ≢ 0 → play_output input ≡ number_line (load_text (board_part input)).answer
unfolding play_output
play_refused input h = pick_no _ _ _ (ne_eqb _ 0 h)
