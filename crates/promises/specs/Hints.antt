-- Document 01, "Moves", of the hint; document 02, E3. Which move it gives is `next_act`, in `hint_call`.
use Rattle.std.specs.Prelude.{◌≡◌, Bool, true, false, List, [], ◌∷◌, ◌++◌, ℕ, zero, suc, ◌<◌, ◌≤◌, eqb, length}
use Rattle.lists.specs.Choice.{pick}
use Rattle.board.specs.Whole.{Board}
use Rattle.move_guard.specs.Parts.{place}
use Rattle.solve_next.specs.Advices.{Advice}
use Rattle.solve_next.specs.Choosing.{Act, no_kind, all_home, judge, acted, no_advice, act_of}
use Rattle.solve_next.specs.Hints.{hint_call}
use Rattle.solve_finish.specs.Finishes.{finish_call}
use Rattle.move_list.specs.Calls.{call_for, game_of, made}
use Rattle.report.specs.Reports.{report_text}
use Rattle.play_lines.specs.Orders.{call, other, order_of}
use Rattle.play_lines.specs.MoveLines.{move_text, hint_line, longest_hint}
use Rattle.theorem_list.specs.Complete.{OneFurther}
use Rattle.promises.specs.Plays.{OfPlay}

-- "some move that would be accepted. It gives none only if every mill is at the spring"
unfoldable pub offers : Board → Advice → Bool
offers b a = pick (eqb a.kind no_kind) (all_home b) (eqb (judge b (act_of a)) 0)

-- what `play` prints for the hint of b is the line of move a; without its line feed it is read as the order of that move, which is then made
pub record ReadBack (b : Board) (a : Act) : Type 0 where
  pub line : hint_line (hint_call b).advice ≡ move_text a ++ (10 ∷ [])
  pub read : order_of (move_text a) ≡ call (call_for a)
  pub makes : made (game_of b) (call_for a) ≡ record { answer = 0; game = game_of (acted b a) }

-- k hints, each given back as a line, lead from b to c, where no move is left
abbrev pub FedBack : ℕ → Board → Board → Type 0
FedBack zero b c = ((hint_call b).advice ≡ no_advice) × (b ≡ c)
FedBack (suc k) b c = ReadBack b (act_of (hint_call b).advice) × FedBack k (acted b (act_of (hint_call b).advice)) c

-- as many hints as a finish would make moves; a finish then makes none, and the sheet is that of a finish alone
pub record HintedOut (b : Board) : Type 0 where
  pub last : Board
  pub fed : FedBack (finish_call b).count b last
  pub accepted : (finish_call last).answer ≡ 0
  pub none_made : (finish_call last).count ≡ 0
  pub same_sheet : report_text (finish_call last).board ≡ report_text (finish_call b).board

pub record AboutHints : Type 0 where
  -- "Hint gives some move that would be accepted. It gives none only if every mill is at the spring"
  pub hint_rule : (text : List ℕ) (b : Board) → OfPlay text b → ((hint_call b).answer ≡ 0) × (offers b (hint_call b).advice ≡ true)
  pub hint_none : (text : List ℕ) (b : Board) → OfPlay text b → (hint_call b).advice.kind ≡ no_kind
      → (i : ℕ) → i < b.network.terminals → place b i ≡ b.network.source
  -- "The hint shall give the move that finish would make next on this board": the board after it is finished to the same board, in one move less
  pub hint_first : (text : List ℕ) (b : Board) → OfPlay text b → all_home b ≡ false → OneFurther b (acted b (act_of (hint_call b).advice))
  -- "`play` prints it after its 0, as a line it would read"
  pub move_line_read : (text : List ℕ) (b : Board) → OfPlay text b → all_home b ≡ false → ReadBack b (act_of (hint_call b).advice)
  -- "or `N` where no move is left", which is no line that it reads
  pub none-line : (text : List ℕ) (b : Board) → OfPlay text b → all_home b ≡ true → hint_line (hint_call b).advice ≡ 78 ∷ 10 ∷ []
  pub none_unread : order_of (78 ∷ []) ≡ other
  -- so a board can be finished move by move, by giving every hint back until there is none
  pub hinted_out : (text : List ℕ) (b : Board) → OfPlay text b → HintedOut b
  -- the room that a hint's line needs
  pub hint_room : (text : List ℕ) (b : Board) → OfPlay text b → length (hint_line (hint_call b).advice) ≤ longest_hint
