-- Games. The words of every journal of play stand for it, so a game's memory stands for its board, and each call on the one gives the memory of what it
-- gives on the other: by induction on the calls, along the standing items. A zeroed memory is that of the closed board. A board that is not loaded is not in
-- play either, and every call asks first for the one or the other. The edges of a hint's cycle are edges of the board, for which a byte has room.
use mathlib.Core.Path.{◌≡◌, refl, sym, ap, ◌∙◌}
use mathlib.Core.Bool.{false, true≢false}
use mathlib.Core.Logic.{◌↔◌, ◌⊎◌, inl, inr, ◌≢◌}
use mathlib.Core.List.{List, [], ◌∷◌}
use Prim.Native.Nat.{ℕ, ◌≤◌}
use native.Mathlib.Omega.{arith}
use lib.Dec.{eqb}
use lib.ListN.{length, take, replicate, length-replicate}
use lib.Seq.{sets, length-sets}
use Rattle.lists.specs.Choice.{pick, both}
use Rattle.lists.proofs.Laws.{Known, was_true, was_false, known, eq_or_ne, both_right}
use Rattle.board.specs.Limits.{max_edges}
use Rattle.board.specs.Record.{play_stage, closed_board}
use Rattle.board.specs.Whole.{Board, Played}
use Rattle.journal.specs.Words.{no_words, packed_all}
use Rattle.load.specs.Load.{load_text}
use Rattle.load.proofs.Loads.{load_refused}
use Rattle.load.proofs.Lent.{no_moves, loaded_words}
use Rattle.move_guard.specs.Guard.{loaded, playing}
use Rattle.move_carry.specs.Opens.{some_open}
use Rattle.move_cycle.specs.Steps.{steps_of, code_steps, codes_of}
use Rattle.move_list.proofs.Refused.{call_same}
use Rattle.move_list.specs.Calls.{Call, carry, turn, undo, hint, finish, Game, game_of, made, played, answers}
use Rattle.solve_walk.proofs.Packed.{cycle_short}
use Rattle.solve_next.specs.Advices.{Advice}
use Rattle.solve_next.specs.Choosing.{Act, augment, all_home, judge, next_cycle, next_act, advice_of}
use Rattle.solve_next.specs.Hints.{hint_call}
use Rattle.solve_next.proofs.Advised.{next_carry, next_turn, cycle_held}
use Rattle.solve_finish.specs.Finishes.{Finished}
use Rattle.theorem_keep.proofs.Standing.{Standing}
use Rattle.theorem_keep.proofs.Turnable.{turn_facts}
use Rattle.theorem_list.specs.Player.{Item, listed_all, afresh, standing_after, standing_moves}
use Rattle.theorem_list.proofs.Next.{next_accepted}
use Rattle.theorem_list.proofs.HintFirst.{hint_none, hint_advice}
use Rattle.theorem_list.proofs.Stands.{none, Stood, going}
use Rattle.theorem_list.proofs.EveryList.{same, all_stood, every_list}
use Rattle.boundary_parts.specs.Memory.{Memory, board_of, version_of, memory_of, memory_loaded}
use Rattle.boundary_parts.specs.Shown.{advice_bytes}
use Rattle.boundary_parts.specs.Games.{zero_memory, game_memory, memory_answer, memory_made, memory_played, memory_answers}
use Rattle.boundary_parts.proofs.Games.{board_again, refused_memory, made_answer, made-memory, bytes_steps}
use Rattle.promises.specs.Games.{board_after, game_after, AboutGames}
use Rattle.promises.proofs.Plays.{play_standing}
use Rattle.promises.proofs.Entries.{stood_again}
use Rattle.promises.proofs.Given.{hint_zeros, look_zeros, entry_zeros, past_edge_rows, past_terminal_rows}
use Rattle.promises.proofs.Refusals.{no_carry, no_turn, hint_number, no_finish, undo_shut}

-- ---- The closed board.

zero_memory_lem : memory_loaded closed_board ≡ zero_memory
unfolding closed_board version_of pick
zero_memory_lem = refl

zero_board : board_of zero_memory ≡ closed_board
unfolding closed_board
zero_board = ap board_of (sym zero_memory_lem) ∙ board_again closed_board no_words no_moves

load-memory : (text : List ℕ) → (load_text text).answer ≢ 0 → memory_loaded (load_text text).board ≡ zero_memory
load-memory text h = ap memory_loaded (load_refused text h) ∙ zero_memory_lem

-- ---- Every list of calls.

module _ (text : List ℕ) (loads : (load_text text).answer ≡ 0) where
  stood_board : (ms : List Item) → Stood text ms → board_of (game_memory (afresh text ms)) ≡ afresh text ms
  stood_board ms s = board_again (afresh text ms) (packed_all (afresh text ms).journal) (stood_again text loads ms s)

  -- one call
  stood_made : (ms : List Item) (c : Call) → Stood text ms → memory_made (game_memory (afresh text ms)) c ≡ game_memory (afresh text (standing_after text ms c))
  stood_made ms c s =
      let b : Board = afresh text ms in
      made-memory b (stood_board ms s) c (λ n. ap (λ (g : Game). g.board) (call_same (game_of b) c n))
      ∙ ap (λ (g : Game). game_memory g.board) (same text loads ms c s).game

  stood_memory : (ms : List Item) (cs : List Call) → Stood text ms
      → memory_played (game_memory (afresh text ms)) cs ≡ game_memory (played (game_of (afresh text ms)) cs).board
  unfolding memory_played played
  stood_memory ms [] s = refl
  stood_memory ms (c ∷ cs) s =
      let q = same text loads ms c s in
      ap (λ (m : Memory). memory_played m cs) (stood_made ms c s)
      ∙ stood_memory (standing_after text ms c) cs q.stood
      ∙ ap (λ (g : Game). game_memory (played g cs).board) (sym q.game)

  stood_answers : (ms : List Item) (cs : List Call) → Stood text ms → memory_answers (game_memory (afresh text ms)) cs ≡ answers (game_of (afresh text ms)) cs
  unfolding memory_answers answers
  stood_answers ms [] s = refl
  stood_answers ms (c ∷ cs) s =
      let q = same text loads ms c s in
      let rest =
      ap (λ (m : Memory). memory_answers m cs) (stood_made ms c s)
      ∙ stood_answers (standing_after text ms c) cs q.stood
      ∙ ap (λ (g : Game). answers g cs) (sym q.game) in
      λ i. made_answer (afresh text ms) (stood_board ms s) c i ∷ rest i

  -- from the load on
  first_memory : memory_loaded (load_text text).board ≡ game_memory (afresh text [])
  unfolding afresh listed_all
  first_memory = ap (memory_of (load_text text).board) (loaded_words text)

  after_memory : (cs : List Call) → game_after text cs ≡ game_memory (board_after text cs)
  unfolding afresh listed_all
  after_memory cs = ap (λ (m : Memory). memory_played m cs) first_memory ∙ stood_memory [] cs (going none)

  after_answers : (cs : List Call) → memory_answers (memory_loaded (load_text text).board) cs ≡ answers (game_of (load_text text).board) cs
  unfolding afresh listed_all
  after_answers cs = ap (λ (m : Memory). memory_answers m cs) first_memory ∙ stood_answers [] cs (going none)

  after_board : (cs : List Call) → board_of (game_after text cs) ≡ board_after text cs
  after_board cs =
      let is = (every_list text cs loads).board in
      ap board_of (after_memory cs)
      ∙ ap (λ (b : Board). board_of (game_memory b)) is
      ∙ stood_board (standing_moves text [] cs) (all_stood text loads [] cs (going none))
      ∙ sym is

-- ---- A memory whose board is not loaded.

unloaded_off : (b : Board) → loaded b ≡ false → playing b ≡ false
unfolding playing
unloaded_off b h = go (known (playing b))
  where
    go : Known (playing b) → playing b ≡ false
    go (was_true t) = absurd (true≢false (sym (both_right (eqb b.stage play_stage) (loaded b) t) ∙ h))
    go (was_false t) = t

module _ (m : Memory) (shut : loaded (board_of m) ≡ false) where
  shut_answer : (c : Call) → memory_answer m c ≡ 20
  shut_answer (carry i e) = ap (λ (p : Played). p.answer) (no_carry (board_of m) (unloaded_off (board_of m) shut) i e)
  shut_answer (turn w) = ap (λ (p : Played). p.answer) (no_turn (board_of m) (unloaded_off (board_of m) shut) w)
  shut_answer undo = ap (λ (p : Played). p.answer) (undo_shut (board_of m) shut)
  shut_answer hint = hint_number (board_of m) (unloaded_off (board_of m) shut)
  shut_answer finish = ap (λ (f : Finished). f.answer) (no_finish (board_of m) (unloaded_off (board_of m) shut))

  some_number : (c : Call) → memory_answer m c ≢ 0
  some_number c z = omega (arith, z, shut_answer c)

  shut_made : (c : Call) → memory_made m c ≡ m
  shut_made (carry i e) = refused_memory m _ _ (some_number (carry i e))
  shut_made (turn w) = refused_memory m _ _ (some_number (turn w))
  shut_made undo = refused_memory m _ _ (some_number undo)
  shut_made hint = refl
  shut_made finish = refused_memory m _ _ (some_number finish)

-- ---- A refused load: the closed board, and every call leaves it.

closed_shut : loaded (board_of zero_memory) ≡ false
unfolding loaded closed_board both
closed_shut = ap loaded zero_board

closed_made : (c : Call) → (made (game_of closed_board) c).game ≡ game_of closed_board
closed_made c =
    let number : (made (game_of closed_board) c).answer ≡ 20 =
    ap (λ (b : Board). (made (game_of b) c).answer) (sym zero_board) ∙ shut_answer zero_memory closed_shut c in
    call_same (game_of closed_board) c (λ z. omega (arith, z, number))

closed_played : (cs : List Call) → played (game_of closed_board) cs ≡ game_of closed_board
unfolding played
closed_played [] = refl
closed_played (c ∷ cs) = ap (λ (g : Game). played g cs) (closed_made c) ∙ closed_played cs

zero_played : (cs : List Call) → memory_played zero_memory cs ≡ zero_memory
unfolding memory_played
zero_played [] = refl
zero_played (c ∷ cs) = ap (λ (m : Memory). memory_played m cs) (shut_made zero_memory closed_shut c) ∙ zero_played cs

zero_answers : (cs : List Call) → memory_answers zero_memory cs ≡ answers (game_of closed_board) cs
unfolding memory_answers answers
zero_answers [] = refl
zero_answers (c ∷ cs) =
    let rest =
    ap (λ (m : Memory). memory_answers m cs) (shut_made zero_memory closed_shut c)
    ∙ zero_answers cs
    ∙ ap (λ (g : Game). answers g cs) (sym (closed_made c)) in
    λ i. (made (game_of (zero_board i)) c).answer ∷ rest i

module _ (text : List ℕ) (refused : (load_text text).answer ≢ 0) (cs : List Call) where
  refused_board : board_after text cs ≡ closed_board
  refused_board = ap (λ (b : Board). (played (game_of b) cs).board) (load_refused text refused) ∙ ap (λ (g : Game). g.board) (closed_played cs)

  refused_game : game_after text cs ≡ zero_memory
  refused_game = ap (λ (m : Memory). memory_played m cs) (load-memory text refused) ∙ zero_played cs

  refused_memory_of : game_memory closed_board ≡ zero_memory
  refused_memory_of =
      ap game_memory (sym (load_refused text refused))
      ∙ ap (memory_of (load_text text).board) (sym (loaded_words text))
      ∙ load-memory text refused

-- ---- Accepted or refused.

all-memory : (text : List ℕ) (cs : List Call) → game_after text cs ≡ game_memory (board_after text cs)
all-memory text cs = go (eq_or_ne (load_text text).answer 0)
  where
    go : ((load_text text).answer ≡ 0) ⊎ ((load_text text).answer ≢ 0) → game_after text cs ≡ game_memory (board_after text cs)
    go (inl h) = after_memory text h cs
    go (inr h) = refused_game text h cs ∙ sym (refused_memory_of text h cs) ∙ ap game_memory (sym (refused_board text h cs))

all-answers : (text : List ℕ) (cs : List Call) → memory_answers (memory_loaded (load_text text).board) cs ≡ answers (game_of (load_text text).board) cs
all-answers text cs = go (eq_or_ne (load_text text).answer 0)
  where
    go : ((load_text text).answer ≡ 0) ⊎ ((load_text text).answer ≢ 0)
        → memory_answers (memory_loaded (load_text text).board) cs ≡ answers (game_of (load_text text).board) cs
    go (inl h) = after_answers text h cs
    go (inr h) =
        ap (λ (m : Memory). memory_answers m cs) (load-memory text h)
        ∙ zero_answers cs
        ∙ ap (λ (b : Board). answers (game_of b) cs) (sym (load_refused text h))

all_board : (text : List ℕ) (cs : List Call) → board_of (game_after text cs) ≡ board_after text cs
all_board text cs = go (eq_or_ne (load_text text).answer 0)
  where
    go : ((load_text text).answer ≡ 0) ⊎ ((load_text text).answer ≢ 0) → board_of (game_after text cs) ≡ board_after text cs
    go (inl h) = after_board text h cs
    go (inr h) = ap board_of (refused_game text h cs) ∙ zero_board ∙ sym (refused_board text h cs)

all_equal : (text text' : List ℕ) (cs cs' : List Call) → (game_after text cs ≡ game_after text' cs') ↔ (board_after text cs ≡ board_after text' cs')
all_equal text text' cs cs' = (
  λ e. sym (all_board text cs) ∙ ap board_of e ∙ all_board text' cs',
  λ e. all-memory text cs ∙ ap game_memory e ∙ sym (all-memory text' cs'),
)

-- ---- The steps of a hint.

-- the bytes of an advice say its steps
abbrev BytesSay : Advice → Type 0
BytesSay a = steps_of (take a.count (advice_bytes a)) ≡ code_steps (take a.count a.steps)

no_steps : (a : Advice) → a.count ≡ 0 → BytesSay a
unfolding steps_of code_steps
no_steps a z = rw z

module _ (b : Board) (st : Standing b) where
  cycle_say : judge b (augment (next_cycle b)) ≡ 0 → BytesSay (advice_of (augment (next_cycle b)))
  cycle_say taken =
      let net = b.network in
      let codes : List ℕ = sets (replicate max_edges 0) 0 (codes_of (next_cycle b)) in
      let short : length (next_cycle b) ≤ max_edges =
      omega (arith, st.within.vertices, cycle_short net.tails net.heads b.flows net.vertices net.source) in
      let long : length codes ≡ max_edges = length-sets (replicate max_edges 0) 0 (codes_of (next_cycle b)) ∙ length-replicate {A = ℕ} max_edges 0 in
      let held : code_steps (take (length (next_cycle b)) codes) ≡ next_cycle b =
      cycle_held net b.flows b.marks b.places (omega (arith, st.within.vertices)) (st.inv.flows_size ∙ st.within.flows_size) in
      bytes_steps codes (length (next_cycle b)) max_edges short (omega (arith, short, long))
      (λ s i. omega (arith, (turn_facts b (next_cycle b) taken).1.inside s (rw held at i), st.within.edges))

  hint_say : BytesSay (hint_call b).advice
  hint_say = go (known (all_home b))
    where
      next_say : all_home b ≡ false → Known (some_open b) → BytesSay (advice_of (next_act b))
      next_say away (was_true t) = no_steps (advice_of (next_act b)) (ap (λ (a : Act). (advice_of a).count) (next_carry b t))
      next_say away (was_false t) = rw (next_turn b t) (cycle_say (rw (next_turn b t) at (next_accepted b st away)))

      go : Known (all_home b) → BytesSay (hint_call b).advice
      go (was_true t) = no_steps (hint_call b).advice (ap (λ (a : Advice). a.count) (hint_none b st t))
      go (was_false t) = rw (hint_advice b st t) (next_say t (known (some_open b)))

pub about_games : AboutGames
about_games = record {
  zeroed = zero_board;
  refused_load = load-memory;
  game_memory_lem = all-memory;
  game_answers = all-answers;
  game_board = all_board;
  game_equal = all_equal;
  not-loaded = λ m c shut. (shut_answer m shut c, shut_made m shut c);
  hint_steps = λ text b p. hint_say b (play_standing text b p);
  refused_hint = hint_zeros;
  refused_look = look_zeros;
  refused_entry = entry_zeros;
  edges_past = past_edge_rows;
  terminals_past = past_terminal_rows;
}
