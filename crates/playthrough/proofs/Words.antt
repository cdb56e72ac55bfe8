-- A whole play over lent words: the words that the load cleared stay those of the journal through the calls and the finish; and what that stores behind the
-- standing moves leaves the board before it as it was.
use mathlib.Core.Path.{◌≡◌, refl, sym, ap, ◌∙◌}
use Rattle.std.specs.Prelude.{Result, Ok, Err}
use Rattle.std.specs.Result.{result_unwrap_or, result_and}
use Rattle.refusals.specs.declared.Refusal.{Refusal}
use Rattle.refusals.specs.Refusals.{answer_of}
use Rattle.board.specs.Record.{closed_table}
use mathlib.Core.List.{List}
use Prim.Native.Nat.{ℕ, ◌-◌, ◌≤◌}
use native.Mathlib.Omega.{arith}
use lib.Dec.{eqb}
use Rattle.lists.proofs.Laws.{Known, was_true, was_false, known, pick_yes, pick_no}
use Rattle.board.specs.Whole.{Board}
use Rattle.journal.specs.Words.{whole_of, no_words, words_after, packed_all}
use Rattle.board.specs.Whole.{Table}
use Rattle.journal.proofs.After.{after_many}
use Rattle.journal.proofs.Behind.{whole_behind}
use Rattle.load.specs.Load.{load_text}
use Rattle.load.specs.Lent.{loaded_of}
use Rattle.solve_finish.specs.Finishes.{Finished}
use Rattle.solve_finish.specs.Lent.{Ended}
use Rattle.solve_finish.specs.Finishes.{played_out, finish_refusal, ended, finish_call}
use Rattle.solve_finish.specs.Lent.{ended_of}
use Rattle.solve_finish.proofs.Lent.{further_out, finish_packed}
use Rattle.move_list.specs.Calls.{Call, game_of, played}
use Rattle.move_list.specs.Words.{words_played}
use Rattle.move_list.proofs.Worded.{Kept}
use Rattle.theorem_list.proofs.Words.{calls_kept}
use Rattle.playthrough.specs.Through.{outcome}
use Rattle.playthrough.specs.Lent.{outcome_of}

-- what a call stores behind the standing moves leaves the board as it was
whole_kept : (t : Table) (b : Board) (w : List (List ℕ)) → t.moves ≤ b.moves → whole_of t (words_after t.moves b w) ≡ whole_of t w
whole_kept t b w more = ap (whole_of t) (after_many t.moves b w more) ∙ whole_behind t (b.moves - t.moves) b.journal w

-- a finish takes no move back
finish_moves : (b : Board) → b.moves ≤ (finish_call b).board.moves
unfolding finish_call
finish_moves b = go (known (eqb (finish_refusal b) 0))
  where
    last : Board
    last = ended b.moves (played_out b)

    go : Known (eqb (finish_refusal b) 0) → b.moves ≤ (finish_call b).board.moves
    go (was_true y) =
        let e : finish_call b ≡ record { answer = 0; count = (played_out b).moves - b.moves; board = last } = pick_yes {A = Finished} _ _ _ y in
        rw e (further_out b).moves
    go (was_false n) =
        let e : finish_call b ≡ record { answer = finish_refusal b; count = 0; board = b } = pick_no {A = Finished} _ _ _ n in
        rw e (omega arith)

-- the board of a load: its own, or the closed board after a refusal
pub opened : (l : Result Table Refusal) (w : List (List ℕ)) → whole_of (result_unwrap_or l closed_table) w ≡ (loaded_of l w).board
opened (Ok t) w = refl
opened (Err r) w = refl

-- .. and its number
pub said : (l : Result Table Refusal) (w : List (List ℕ)) → answer_of (result_and l (Ok (tt {0}))) ≡ (loaded_of l w).answer
said (Ok t) w = refl
said (Err r) w = refl

-- what the calls and finish gave, each from what the one before gave, and the words after each
module _ (text : List ℕ) (cs : List Call) (t₁ : Table) (w₁ : List (List ℕ)) (start : whole_of t₁ w₁ ≡ (load_text text).board) (empty : w₁ ≡ no_words) (t : Table)
    (w₂ : List (List ℕ)) (plays : whole_of t w₂ ≡ (played (game_of (whole_of t₁ w₁)) cs).board) (packs : w₂ ≡ words_played (game_of (whole_of t₁ w₁)) cs w₁) where
  pub after_calls : whole_of t w₂ ≡ (played (game_of (load_text text).board) cs).board
  after_calls = plays ∙ ap (λ (b : Board). (played (game_of b) cs).board) start

  pub kept : Kept (whole_of t w₂) w₂
  kept =
      packs ∙ ap (λ (b : Board). words_played (game_of b) cs w₁) start ∙ ap (words_played (game_of (load_text text).board) cs) empty ∙ calls_kept text cs
      ∙ ap (λ (b : Board). packed_all b.journal) (sym after_calls)

  module _ (e : Result Ended Refusal) (w₃ : List (List ℕ)) (ends : ended_of t e w₃ ≡ finish_call (whole_of t w₂))
      (stores : w₃ ≡ words_after t.moves (finish_call (whole_of t w₂)).board w₂) where
    pub words_after_lem : w₃ ≡ packed_all (outcome text cs).finish.board.journal
    words_after_lem =
        stores ∙ finish_packed (whole_of t w₂) w₂ kept
        ∙ ap (λ (b : Board). packed_all (finish_call b).board.journal) after_calls

    before : whole_of t w₃ ≡ whole_of t w₂
    before = ap (whole_of t) stores ∙ whole_kept t (finish_call (whole_of t w₂)).board w₂ (finish_moves (whole_of t w₂))

    pub gathered : (loading : Result (Unit {0}) Refusal) → answer_of loading ≡ (load_text text).answer
        → outcome_of (record { loading = loading; board = t; finish = e }) w₃ ≡ outcome text cs
    gathered loading loads = λ i. record {
      loading = loads i;
      board = (before ∙ after_calls) i;
      finish = (ends ∙ ap finish_call after_calls) i;
    }
