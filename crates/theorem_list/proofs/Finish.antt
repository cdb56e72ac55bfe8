-- Finish completes a board of play. While a terminal is away the solver's move is accepted, and each lowers the potential by one or more; the potential is at
-- most the bound of moves, for which the journal has room. So after as many moves as the journal has places every terminal is at the source, or the potential
-- has fallen to 0; and then none is away, since one more move would lower it further.
use mathlib.Core.Path.{◌≡◌, refl, sym, ap, ◌∙◌}
use mathlib.Core.Bool.{true, false}
use mathlib.Core.Logic.{◌⊎◌, inl, inr}
use mathlib.Core.List.{List}
use Prim.Native.Nat.{ℕ, zero, suc, ◌+◌, ◌-◌, ◌≤◌}
use native.Mathlib.Omega.{arith}
use lib.Dec.{eqb}
use lib.ListN.{take}
use lib.Seq.{take-take, take-set-le}
use borrow.Author.Tests.{eq-eqb}
use Rattle.lists.specs.Choice.{either}
use Rattle.lists.proofs.Laws.{Known, was_true, was_false, known, pick_yes, pick_no}
use Rattle.board.specs.Limits.{max_moves}
use Rattle.board.specs.Whole.{Board}
use Rattle.board.specs.Whole.{Played}
use Rattle.move_guard.specs.Guard.{playing}
use Rattle.move_guard.proofs.Answers.{answered_yes}
use Rattle.solve_next.specs.Choosing.{Act, relocate, augment, all_home, judge, acted, next_act}
use Rattle.solve_next.specs.Hints.{hint_refusal}
use Rattle.solve_finish.specs.Finishes.{Finished}
use Rattle.solve_finish.specs.Finishes.{stepped, stepped_on, played_out, finish_refusal, ended, finish_call}
use Rattle.theorem_cycles.specs.Bound.{moves_bound}
use Rattle.theorem_cycles.specs.Invariant.{Invariant}
use Rattle.theorem_cycles.specs.Potential.{potential}
use Rattle.theorem_keep.proofs.Bounds.{bound_fits}
use Rattle.theorem_keep.proofs.Standing.{Standing, standing-playing}
use Rattle.theorem_list.specs.Complete.{SolvedBy, Completed, Complete}
use Rattle.theorem_list.proofs.Ends.{home_facts, ended_simple, ended_below}
use Rattle.theorem_list.proofs.Acts.{act_standing, act_falls, act_network, act_acyclic, act_moves}
use Rattle.theorem_list.proofs.Next.{next_accepted}
use Rattle.theorem_list.proofs.Stops.{none_positive}
use Rattle.move_carry.specs.Carries.{carried_in}
use Rattle.move_turn.specs.Turns.{turned_in}

-- the board after the solver's move
abbrev pub next : Board → Board
next b = acted b (next_act b)

-- one step: none is made with every terminal at the source, an accepted move else
pub step_refused : (b : Board) → all_home b ≡ true → (stepped b).answer ≡ 28
unfolding stepped
step_refused b all = ap (λ (p : Played). p.answer) (pick_yes (all_home b) _ _ all)

pub step_made : (b : Board) → all_home b ≡ false → judge b (next_act b) ≡ 0 → stepped b ≡ record { answer = 0; board = next b }
unfolding stepped
step_made b away free = pick_no (all_home b) _ _ away ∙ answered_yes (judge b (next_act b)) b (next b) free

pub on_stays : (k : ℕ) (b : Board) → all_home b ≡ true → stepped_on (suc k) b ≡ b
unfolding stepped_on
on_stays k b all = rw (step_refused b all, stepped_on) refl

pub on_goes : (k : ℕ) (b : Board) → all_home b ≡ false → judge b (next_act b) ≡ 0 → stepped_on (suc k) b ≡ stepped_on k (next b)
unfolding stepped_on
on_goes k b away free =
    let made = step_made b away free in
    let zeroed : (stepped b).answer ≡ 0 = ap (λ (p : Played). p.answer) made in
    rw (zeroed, stepped_on) (ap (λ (p : Played). stepped_on k p.board) made)

-- board c after at most k steps from b: every terminal is at the source, or k moves were made
pub record Out (k : ℕ) (b c : Board) : Type 0 where
  pub standing : Standing c
  pub network : c.network ≡ b.network
  pub acyclic : c.acyclic ≡ b.acyclic
  pub moves : b.moves ≤ c.moves
  pub ends : (all_home c ≡ true) ⊎ (potential c + k ≤ potential b)

pub out : (k : ℕ) (b : Board) → Standing b → Out k b (stepped_on k b)
unfolding stepped_on
out zero b st = record { standing = st; network = refl; acyclic = refl; moves = omega arith; ends = inr (omega arith) }
out (suc k) b st = go (known (all_home b)) (λ s. out k (next b) s)
  where
    go : Known (all_home b) → (Standing (next b) → Out k (next b) (stepped_on k (next b))) → Out (suc k) b (stepped_on (suc k) b)
    go (was_true t) ih =
        rw (on_stays k b t) (record { standing = st; network = refl; acyclic = refl; moves = omega arith; ends = inl t })
    go (was_false t) ih = rw (on_goes k b t free) (record {
      standing = rest.standing;
      network = rest.network ∙ act_network b (next_act b);
      acyclic = rest.acyclic ∙ act_acyclic b (next_act b);
      moves = omega (arith, rest.moves, act_moves b (next_act b));
      ends = at rest.ends;
    })
      where
        free : judge b (next_act b) ≡ 0
        free = next_accepted b st t

        rest : Out k (next b) (stepped_on k (next b))
        rest = ih (act_standing b (next_act b) st free)

        at : (all_home (stepped_on k (next b)) ≡ true) ⊎ (potential (stepped_on k (next b)) + k ≤ potential (next b))
            → (all_home (stepped_on k (next b)) ≡ true) ⊎ (potential (stepped_on k (next b)) + suc k ≤ potential b)
        at (inl h) = inl h
        at (inr l) = inr (omega (arith, l, act_falls b (next_act b) st free))

-- lists that agree on their first n agree on fewer
shorter : {A : Type 0} (m n : ℕ) (xs ys : List A) → m ≤ n → take n xs ≡ take n ys → take m xs ≡ take m ys
shorter m n xs ys h q = sym (take-take m n xs h) ∙ ap (take m) q ∙ take-take m n ys h

-- the moves of a finish: how many, and what they keep of the journal
record Solving (b c : Board) : Type 0 where
  count : ℕ
  solved : SolvedBy count b c
  moves : c.moves ≡ b.moves + count
  kept : take b.moves c.journal ≡ take b.moves b.journal

-- an accepted move keeps the entries of before
entries_kept : (b : Board) (a : Act) → take b.moves (acted b a).journal ≡ take b.moves b.journal
unfolding carried_in turned_in
entries_kept b (relocate i e) = take-set-le b.moves b.journal b.moves _ (omega arith)
entries_kept b (augment w) = take-set-le b.moves b.journal b.moves _ (omega arith)

solves : (k : ℕ) (b : Board) → Standing b → all_home (stepped_on k b) ≡ true → Solving b (stepped_on k b)
unfolding stepped_on
solves zero b st h = record { count = 0; solved = (h, refl); moves = omega arith; kept = refl }
solves (suc k) b st h = go (known (all_home b)) (λ s t. solves k (next b) s t)
  where
    go : Known (all_home b) → (Standing (next b) → all_home (stepped_on k (next b)) ≡ true → Solving (next b) (stepped_on k (next b))) → Solving b (stepped_on (suc k) b)
    go (was_true t) ih = rw (on_stays k b t) (record { count = 0; solved = (t, refl); moves = omega arith; kept = refl })
    go (was_false t) ih = rw (on_goes k b t free) (record {
      count = suc rest.count;
      solved = (t, free, rest.solved);
      moves = omega (arith, rest.moves, act_moves b (next_act b));
      kept = shorter b.moves (next b).moves _ _ (omega (arith, act_moves b (next_act b))) rest.kept ∙ entries_kept b (next_act b);
    })
      where
        free : judge b (next_act b) ≡ 0
        free = next_accepted b st t

        rest : Solving (next b) (stepped_on k (next b))
        rest = ih (act_standing b (next_act b) st free) (rw (on_goes k b t free) at h)

module _ (b : Board) (st : Standing b) where
  pub over : Out max_moves b (played_out b)
  unfolding played_out
  over = out max_moves b st

  fits : moves_bound b.network ≤ max_moves
  fits = bound_fits b.network st.within

  -- as many steps as the journal has places are enough
  over_home : all_home (played_out b) ≡ true
  over_home = go (known (all_home (played_out b))) over.ends
    where
      go : Known (all_home (played_out b)) → (all_home (played_out b) ≡ true) ⊎ (potential (played_out b) + max_moves ≤ potential b) → all_home (played_out b) ≡ true
      go (was_true t) e = t
      go (was_false t) (inl h) = h
      go (was_false t) (inr l) =
          let free : judge (played_out b) (next_act (played_out b)) ≡ 0 = next_accepted (played_out b) over.standing t in
          absurd (omega (arith, l, st.room, fits, act_falls (played_out b) (next_act (played_out b)) over.standing free))

  solving : Solving b (played_out b)
  unfolding played_out
  solving = solves max_moves b st over_home

  pub finish_taken : finish_refusal b ≡ 0
  unfolding finish_refusal
  finish_taken = pick_yes (playing b) _ 20 (standing-playing b st) ∙ pick_yes (all_home (played_out b)) 0 20 over_home

  -- what the call gives
  abbrev result : Finished
  result = record { answer = 0; count = (played_out b).moves - b.moves; board = ended b.moves (played_out b) }

  pub finish_result : finish_call b ≡ result
  unfolding finish_call
  finish_result = pick_yes _ _ _ (eq-eqb _ _ finish_taken)

  counted : b.moves + ((played_out b).moves - b.moves) ≡ (played_out b).moves
  counted = omega (arith, over.moves)

  -- the board at the end
  end_complete : Completed (ended b.moves (played_out b))
  end_complete =
      let inv : Invariant (played_out b) = over.standing.inv in
      record {
        home = home_facts (played_out b) inv over_home;
        simple = ended_simple (played_out b) inv b.moves over_home;
        below = ended_below (played_out b) inv b.moves;
        stopped = none_positive (played_out b) inv over_home;
        few = omega (arith, over.standing.room);
        room = bound_fits (played_out b).network over.standing.within;
        places = over.standing.journal_size;
        blanks = inv.blanks;
      }

  completed : Complete b result
  completed = record {
    accepted = refl;
    network = over.network;
    acyclic = over.acyclic;
    completed = end_complete;
    last = played_out b;
    solved = rw (count_is) done.solved;
    over = refl;
    kept = done.kept;
    moves = sym counted;
  }
    where
      done : Solving b (played_out b)
      done = solving

      count_is : (played_out b).moves - b.moves ≡ done.count
      count_is = omega (arith, done.moves)

  pub finish_completes : Complete b (finish_call b)
  finish_completes = rw finish_result completed

  pub hint_taken : hint_refusal b ≡ 0
  unfolding hint_refusal either
  hint_taken = pick_yes (playing b) _ 20 (standing-playing b st) ∙ pick_yes _ 0 20 (some (known (all_home b)))
    where
      some : Known (all_home b) → either (all_home b) (eqb (judge b (next_act b)) 0) ≡ true
      some (was_true t) = rw t refl
      some (was_false t) = rw t (eq-eqb _ _ (next_accepted b st t))
