-- Undo of a finish gives back the very board that the finish was made on. Its moves are taken back one by one: the board that the first k of them lead from is come to
-- once all the others are taken back, and it is intact, so the last of the k is taken back next, to the board of before; in the end stage and `finish_from` are put back.
use mathlib.Core.Path.{◌≡◌, refl, sym, ap, ◌∙◌}
use mathlib.Core.Bool.{true}
use Prim.Native.Nat.{ℕ, zero, suc, ◌+◌, ◌-◌}
use native.Mathlib.Omega.{arith}
use lib.Dec.{leb}
use borrow.Author.Tests.{le-leb}
use Rattle.lists.specs.Choice.{both}
use Rattle.lists.proofs.Laws.{Known, was_true, was_false, known, pick_yes, both_true}
use Rattle.board.specs.Whole.{Board, Played}
use Rattle.move_guard.specs.Guard.{intact, loaded}
use Rattle.move_guard.proofs.Answers.{answered_yes}
use Rattle.move_guard.proofs.Facts.{playing-intact}
use Rattle.move_undo.specs.Undone.{undone, taken_back, reopened, is_finished, way_back, finish_undone, undo_refusal, undo_call}
use Rattle.solve_next.specs.Choosing.{next_act}
use Rattle.solve_finish.specs.Finishes.{ended, finish_call}
use Rattle.theorem_keep.proofs.Standing.{Standing, standing-playing}
use Rattle.theorem_list.specs.Complete.{SolvedBy, Complete}
use Rattle.theorem_list.proofs.Acts.{act_standing, act_back}
use Rattle.theorem_list.proofs.Finish.{next, finish_completes}
use Rattle.theorem_list.proofs.HintFirst.{solved_end}

one_back : (b : Board) → intact b ≡ true → taken_back 1 b ≡ record { answer = 0; board = undone b }
unfolding taken_back
one_back b h = rw (h, taken_back) refl

-- one move more is taken back, where the board that the others lead to is intact
one_more : (k : ℕ) (b c : Board) → taken_back k b ≡ record { answer = 0; board = c } → intact c ≡ true → taken_back (suc k) b ≡ record { answer = 0; board = undone c }
unfolding taken_back
one_more zero b c e h = ap (λ (p : Played). taken_back 1 p.board) e ∙ one_back c h
one_more (suc k) b c e h = go (known (intact b)) (λ f. one_more k (undone b) c f h)
  where
    go : Known (intact b) → (taken_back k (undone b) ≡ record { answer = 0; board = c } → taken_back (suc k) (undone b) ≡ record { answer = 0; board = undone c })
        → taken_back (suc (suc k)) b ≡ record { answer = 0; board = undone c }
    go (was_true t) ih = rw (t, taken_back) (ih (rw (t, taken_back) at e))
    go (was_false t) ih = absurd (omega (arith, ap (λ (p : Played). p.answer) (rw (t, taken_back) at e)))

-- to end play changes nothing that an undo of a move looks at
ended-intact : (from : ℕ) (b : Board) → Standing b → intact (ended from b) ≡ true
unfolding intact
ended-intact from b st = playing-intact b (standing-playing b st)

ended-undone : (from : ℕ) (b : Board) → undone (ended from b) ≡ ended from (undone b)
ended-undone from b = refl

-- all that the solver's moves made, taken back
rewound : (k from : ℕ) (b c : Board) → Standing b → SolvedBy k b c → taken_back k (ended from c) ≡ record { answer = 0; board = ended from b }
unfolding taken_back
rewound zero from b c st s = rw s.1 refl
rewound (suc k) from b c st s =
    let on : Standing (next b) = act_standing b (next_act b) st s.1 in
    one_more k (ended from c) (ended from (next b)) (rewound k from (next b) c on s.2) (ended-intact from (next b) on)
    ∙ ap (λ (d : Board). record { answer = 0; board = ended from d }) (act_back b (next_act b) st s.1)

module _ (b : Board) (st : Standing b) where
  done : Complete b (finish_call b)
  done = finish_completes b st

  abbrev last : Board
  last = ended b.moves done.last

  last_moves : done.last.moves ≡ b.moves + (finish_call b).count
  last_moves = ap (λ (c : Board). c.moves) (sym done.over) ∙ done.moves

  way : way_back last ≡ record { answer = 0; board = ended b.moves b }
  way =
      let count : done.last.moves - b.moves ≡ (finish_call b).count = omega (arith, last_moves) in
      rw count (rewound (finish_call b).count b.moves b done.last st done.solved)

  last_loaded : loaded last ≡ true
  unfolding loaded both
  last_loaded = both_true _ _ refl (ended-intact b.moves done.last (solved_end (finish_call b).count b done.last st done.solved).1)

  taken : undo_refusal last ≡ 0
  unfolding undo_refusal
  taken =
      let behind : leb b.moves last.moves ≡ true = le-leb b.moves done.last.moves (omega (arith, last_moves)) in
      pick_yes (loaded last) _ 20 last_loaded
      ∙ pick_yes (is_finished last) _ _ refl
      ∙ pick_yes (leb b.moves last.moves) _ 20 behind
      ∙ ap (λ (p : Played). p.answer) way

  back : finish_undone last ≡ b
  back = ap (λ (p : Played). reopened p.board) way ∙ (λ j. record {
    stage = sym st.stage j;
    network = b.network;
    acyclic = b.acyclic;
    flows = b.flows;
    marks = b.marks;
    places = b.places;
    journal = b.journal;
    moves = b.moves;
    finish_from = sym st.unfinished j;
  })

  pub finish_undone_lem : undo_call (finish_call b).board ≡ record { answer = 0; board = b }
  unfolding undo_call
  finish_undone_lem = rw done.over
      (answered_yes (undo_refusal last) last _ taken ∙ ap (λ (c : Board). record { answer = 0; board = c }) (pick_yes (is_finished last) _ _ refl ∙ back))
