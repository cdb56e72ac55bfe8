-- A load and a finish over lent words: the load leaves the words of an empty journal, so that the finish leaves the words of the board's journal.
use mathlib.Core.Path.{◌≡◌, refl, sym, ap, ◌∙◌}
use mathlib.Core.Bool.{false}
use mathlib.Core.List.{List}
use Prim.Native.Nat.{ℕ}
use Rattle.std.specs.Prelude.{Ok, Err}
use Rattle.lists.specs.Choice.{both}
use Rattle.refusals.specs.declared.Refusal.{Refusal}
use Rattle.refusals.proofs.Laws.{refused}
use Rattle.board.specs.Record.{closed_board}
use Rattle.board.specs.Whole.{Board, Table}
use Rattle.journal.specs.Words.{whole_of, no_words, words_after, packed_all}
use Rattle.load.specs.Load.{Loaded}
use Rattle.load.specs.Load.{load_text}
use Rattle.load.specs.Lent.{loaded_of}
use Rattle.load.proofs.Loads.{load_refused}
use Rattle.load.proofs.Lent.{loaded_words}
use Rattle.move_guard.specs.Guard.{loaded, playing}
use Rattle.solve_finish.specs.Finishes.{Finished}
use Rattle.solve_finish.specs.Finishes.{finish_call}
use Rattle.solve_finish.proofs.Stepping.{finish_closed}
use Rattle.solve_finish.proofs.Lent.{finish_packed}

-- a finish of the closed board leaves it
closed_out : playing closed_board ≡ false
unfolding playing loaded both closed_board
closed_out = refl

module _ (s : List ℕ) (w : List (List ℕ)) (empty : w ≡ no_words) where
  pub refused_words : (r : Refusal) → loaded_of (Err r) w ≡ load_text s → w ≡ packed_all (finish_call (load_text s).board).board.journal
  refused_words r loads =
      let closed : (load_text s).board ≡ closed_board = load_refused s (λ e. refused r (ap (λ (x : Loaded). x.answer) loads ∙ e)) in
      empty ∙ loaded_words s
      ∙ ap (λ (b : Board). packed_all b.journal) (closed ∙ ap (λ (f : Finished). f.board) (finish_closed closed_board closed_out) ∙ ap (λ (b : Board). (finish_call b).board) (sym closed))

  module _ (t : Table) (loads : loaded_of (Ok t) w ≡ load_text s) where
    board : whole_of t w ≡ (load_text s).board
    board = ap (λ (x : Loaded). x.board) loads

    kept : w ≡ packed_all (whole_of t w).journal
    kept = empty ∙ loaded_words s ∙ ap (λ (b : Board). packed_all b.journal) (sym board)

    pub finish_words : (v : List (List ℕ)) → v ≡ words_after t.moves (finish_call (whole_of t w)).board w
        → v ≡ packed_all (finish_call (load_text s).board).board.journal
    finish_words v stores =
        stores ∙ finish_packed (whole_of t w) w kept ∙ ap (λ (b : Board). packed_all (finish_call b).board.journal) board
