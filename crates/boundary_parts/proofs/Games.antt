-- The memory of a board stands for that board, where its words are those of the board's journal. A call on such a memory gives the memory of the board
-- that the call gives. The bytes of a hint's steps say the steps.
use mathlib.Core.Path.{◌≡◌, refl, sym, ap, ◌∙◌}
use mathlib.Core.List.{List, [], ◌∷◌}
use mathlib.Core.Logic.{◌⊎◌, inl, inr, ◌≢◌}
use Prim.Native.Nat.{ℕ, zero, suc, ◌≤◌, ◌<◌}
use native.Mathlib.Omega.{arith}
use lib.Dec.{eqb}
use lib.ListN.{length, get_or, take}
use borrow.Author.Tests.{eq-eqb, ne_eqb}
use Rattle.lists.specs.Choice.{pick}
use Rattle.lists.specs.Lists.{tabulated}
use Rattle.lists.proofs.Laws.{eq_or_ne, pick_yes, pick_no}
use Rattle.board.specs.Record.{closed_stage, blank}
use Rattle.board.specs.Whole.{Entry, Board}
use Rattle.graph_flows.specs.Trails.{Step, In, edge_of}
use Rattle.journal.specs.Words.{standing, journal_of, words_after, packed_all}
use Rattle.journal.proofs.Laws.{Fits, unpacked-packed}
use Rattle.move_cycle.specs.Steps.{steps_of, code_step, code_steps, up_from}
use Rattle.move_cycle.proofs.Codes.{step_byte_lem}
use Rattle.move_list.specs.Calls.{Call, carry, turn, undo, hint, finish, game_of, made}
use Rattle.move_list.proofs.Worded.{made_kept}
use Rattle.boundary_parts.specs.Memory.{Memory, board_of, stage_read, version_of, memory_of, memory_after}
use Rattle.boundary_parts.specs.Shown.{byte_at}
use Rattle.boundary_parts.specs.Games.{game_memory, memory_answer, memory_made}

-- ---- The board of a memory.

stage_again : (s : ℕ) → stage_read (version_of s) s ≡ s
unfolding stage_read version_of pick
stage_again s = go (eq_or_ne s closed_stage)
  where
    go : (s ≡ closed_stage) ⊎ (s ≢ closed_stage) → stage_read (version_of s) s ≡ s
    go (inl h) = rw h
    go (inr h) = rw (ne_eqb s closed_stage h)

pub board_again : (b : Board) (w : List (List ℕ)) → journal_of b.moves w ≡ b.journal → board_of (memory_of b w) ≡ b
board_again b w same = λ i. record {
  stage = stage_again b.stage i;
  network = b.network;
  acyclic = b.acyclic;
  flows = b.flows;
  marks = b.marks;
  places = b.places;
  journal = same i;
  moves = b.moves;
  finish_from = b.finish_from;
}

-- a journal whose numbers fit, and which is blank behind the moves, is what its words stand for
pub journal_again : (m : ℕ) (es : List Entry) → ((k : ℕ) → Fits (get_or es k blank).step) → ((k : ℕ) → m ≤ k → get_or es k blank ≡ blank)
    → journal_of m (packed_all es) ≡ es
unfolding standing
journal_again m [] fit blanks = refl
journal_again zero (e ∷ es) fit blanks =
    λ i. sym (blanks 0 (omega arith)) i ∷ journal_again zero es (λ k. fit (suc k)) (λ k h. blanks (suc k) (omega arith)) i
journal_again (suc m) (e ∷ es) fit blanks =
    λ i. unpacked-packed e.step (fit 0) i ∷ journal_again m es (λ k. fit (suc k)) (λ k h. blanks (suc k) (omega arith)) i

-- ---- A call on a memory.

-- where it is refused, the very memory
pub refused_memory : (m : Memory) (n : ℕ) (next : Board) → n ≢ 0 → memory_after m n next ≡ m
unfolding memory_after
refused_memory m n next h = pick_no (eqb n 0) _ m (ne_eqb n 0 h)

module _ (b : Board) where
  answered-memory : (n : ℕ) (next : Board) → words_after b.moves next (packed_all b.journal) ≡ packed_all next.journal → (n ≢ 0 → next ≡ b)
      → memory_after (game_memory b) n next ≡ game_memory next
  unfolding memory_after
  answered-memory n next kept same = go (eq_or_ne n 0)
    where
      go : (n ≡ 0) ⊎ (n ≢ 0) → memory_after (game_memory b) n next ≡ game_memory next
      go (inl h) = pick_yes (eqb n 0) _ (game_memory b) (eq-eqb n 0 h) ∙ ap (memory_of next) kept
      go (inr h) = refused_memory (game_memory b) n next h ∙ ap game_memory (sym (same h))

  module _ (again : board_of (game_memory b) ≡ b) (c : Call) where
    pub made_answer : memory_answer (game_memory b) c ≡ (made (game_of b) c).answer
    made_answer = ap (λ (d : Board). (made (game_of d) c).answer) again

    module _ (kept : (made (game_of b) c).answer ≢ 0 → (made (game_of b) c).game.board ≡ b) where
      called_memory : memory_after (game_memory b) (memory_answer (game_memory b) c) (made (game_of (board_of (game_memory b))) c).game.board
          ≡ game_memory (made (game_of b) c).game.board
      called_memory =
          ap (λ (d : Board). memory_after (game_memory b) (made (game_of d) c).answer (made (game_of d) c).game.board) again
          ∙ answered-memory (made (game_of b) c).answer (made (game_of b) c).game.board (made_kept b (packed_all b.journal) refl c) kept

  pub made-memory : board_of (game_memory b) ≡ b → (c : Call) → ((made (game_of b) c).answer ≢ 0 → (made (game_of b) c).game.board ≡ b)
      → memory_made (game_memory b) c ≡ game_memory (made (game_of b) c).game.board
  made-memory again (carry i e) kept = called_memory again (carry i e) kept
  made-memory again (turn w) kept = called_memory again (turn w) kept
  made-memory again undo kept = called_memory again undo kept
  made-memory again hint kept = refl
  made-memory again finish kept = called_memory again finish kept

-- ---- The bytes of steps.

-- the values of a function from one place on are those of the function that is one place ahead
tabulated_ahead : (f g : ℕ → ℕ) (i k : ℕ) → ((j : ℕ) → f (suc j) ≡ g j) → tabulated f (suc i) k ≡ tabulated g i k
unfolding tabulated
tabulated_ahead f g i zero h = refl
tabulated_ahead f g i (suc k) h = λ t. h i t ∷ tabulated_ahead f g (suc i) k h t

-- the first n codes as bytes, of k in all
pub bytes_steps : (codes : List ℕ) (n k : ℕ) → n ≤ k → n ≤ length codes → ((s : Step) → In s (code_steps (take n codes)) → edge_of s < up_from)
    → steps_of (take n (tabulated (byte_at codes) 0 k)) ≡ code_steps (take n codes)
unfolding tabulated steps_of code_steps
bytes_steps codes zero k few room small = refl
bytes_steps [] (suc n) k few room small = absurd (omega arith)
bytes_steps (x ∷ codes) (suc n) zero few room small = absurd (omega arith)
bytes_steps (x ∷ codes) (suc n) (suc k) few room small =
    λ t. step_byte_lem (code_step x) (small (code_step x) (inl refl)) t
    ∷ (ap (λ (l : List ℕ). steps_of (take n l)) (tabulated_ahead (byte_at (x ∷ codes)) (byte_at codes) 0 k (λ j. refl))
    ∙ bytes_steps codes n k (omega arith) (omega arith) (λ s i. small s (inr i))) t
