-- A run and the words that it is stored in. As long as the words hold all the moves, the board that the run has come to is the one that they stand for. Behind a
-- place that is not blank nothing is stored any more, and the run goes on without the words. So at the end the counts and the places are those of the definition
-- in any case, and the words hold all the moves, or those before that place.
use mathlib.Core.Path.{◌≡◌, refl, sym, ap, ◌∙◌}
use mathlib.Core.Bool.{false}
use mathlib.Core.List.{List}
use mathlib.Core.Logic.{◌⊎◌, inl, inr, ◌≢◌}
use Prim.Native.Nat.{ℕ, ◌+◌, ◌-◌, ◌<◌, ◌≤◌}
use native.Mathlib.Omega.{arith}
use lib.ListN.{length, set}
use Rattle.lists.proofs.Laws.{lt_or_ge}
use Rattle.board.specs.Limits.{max_terminals, max_moves}
use Rattle.board.specs.Whole.{Board, Table}
use Rattle.journal.specs.Words.{whole_of, journal_of}
use Rattle.journal.specs.Inner.{is_blank_at}
use Rattle.solve_finish.specs.declared.Ran.{Ran}
use Rattle.solve_finish.specs.Run.{Made, step_change, Makes, left_after, Filled, Stores, stored, passed, RanOut}
use Rattle.solve_finish.proofs.Running.{Run, standing, journaled, run_same, run_refused, run_made, over, home_over, left_less}
use Rattle.solve_finish.proofs.Filling.{filled_none, filled_more, journal_more, next_same}

-- the board at the start, with the journal of the words now
abbrev reached : Table → List (List ℕ) → List (List ℕ) → ℕ → Board
reached t old words moves = journaled (whole_of t old) (journal_of moves words)

-- a run, and how many of its moves the words hold
pub record RunStored (t : Table) (old words : List (List ℕ)) (flows : List ℕ) (marks : ℕ) (places : List ℕ) (moves filled left : ℕ) : Type 0 where
  pub last : Board
  pub run : Run (whole_of t old) t.network last flows marks places moves left
  pub few : (moves - t.moves) + left ≤ max_moves
  pub fills : Filled t.moves filled old words
  pub within : filled ≤ moves
  pub same : filled ≡ moves → last ≡ reached t old words moves
  pub blocked : filled < moves → is_blank_at old filled ≡ false

pub kept_starts : (t : Table) (old : List (List ℕ)) (flows places : List ℕ) → flows ≡ t.flows → places ≡ t.places
    → Run (whole_of t old) t.network (whole_of t old) t.flows t.marks t.places t.moves max_moves
    → RunStored t old old flows t.marks places t.moves t.moves max_moves
kept_starts t old flows places f p r = record {
  last = whole_of t old;
  run = run_same _ _ _ _ _ _ _ _ _ _ f p r;
  few = let z : t.moves - t.moves ≡ 0 = omega arith in omega (arith, z);
  fills = filled_none t.moves old;
  within = omega arith;
  same = λ e. refl;
  blocked = λ h. absurd (omega arith);
}

module _ (t : Table) (old words : List (List ℕ)) (flows : List ℕ) (marks : ℕ) (places : List ℕ) (moves filled left : ℕ)
    (k : RunStored t old words flows marks places moves filled left) where
  module _ (n : left ≢ 0) (made : Made) (a : Makes (step_change t.network flows marks places) made) where
    -- a move that is refused ends the run
    pub kept_refused : (flows' places' : List ℕ) → made.change.answer ≢ 0 → flows' ≡ flows → places' ≡ places
        → RunStored t old words flows' marks places' moves filled 0
    kept_refused flows' places' s f p = record {
      last = k.last;
      run = run_same _ _ _ _ _ _ _ _ _ _ f p (run_refused _ _ _ _ _ _ _ _ k.run n made a s);
      few = omega (arith, k.few);
      fills = k.fills;
      within = k.within;
      same = k.same;
      blocked = k.blocked;
    }

    -- an accepted one is stored or passed over
    module _ (z : made.change.answer ≡ 0) (short : length made.change.places ≡ max_terminals) (new : List (List ℕ)) (filled' left' : ℕ)
        (l : left' ≡ left_after left (moves + 1) made.small) where
      abbrev next : Board
      next = journaled k.last (set k.last.journal moves made.change.entry)

      runs : Run (whole_of t old) t.network next made.change.flows made.change.marks made.change.places (moves + 1) left'
      runs = run_made _ _ _ _ _ _ _ _ k.run n made a next left' z short refl l

      fewer : (moves + 1 - t.moves) + left' ≤ max_moves
      fewer = omega (arith, k.few, k.within, k.fills.behind, l, left_less left (moves + 1) made.small n)

      pub kept_made : Stores filled moves made.change.entry words new filled'
          → RunStored t old new made.change.flows made.change.marks made.change.places (moves + 1) filled' left'
      kept_made (stored e empty stores lists after) = record {
        last = next;
        run = runs;
        few = fewer;
        fills = rw after (filled_more _ _ _ _ k.fills made.change.entry new stores lists empty);
        within = omega (arith, e, after);
        same = λ q. there;
        blocked = λ h. absurd (omega (arith, e, after, h));
      }
        where
          listed : set (journal_of moves words) moves made.change.entry ≡ journal_of (moves + 1) new
          listed = rw (← e) (sym (journal_more _ _ _ _ k.fills made.change.entry new stores lists))

          there : next ≡ reached t old new (moves + 1)
          there =
              ap (λ (b : Board). journaled b (set b.journal moves made.change.entry)) (k.same e)
              ∙ ap (journaled (whole_of t old)) listed
      kept_made (passed holds same after) = record {
        last = next;
        run = runs;
        few = fewer;
        fills = rw (same, after) k.fills;
        within = omega (arith, after, k.within);
        same = λ q. absurd (omega (arith, q, after, k.within));
        blocked = λ h. rw after (held (lt_or_ge filled moves));
      }
        where
          held : (filled < moves) ⊎ (moves ≤ filled) → is_blank_at old filled ≡ false
          held (inl h) = k.blocked h
          held (inr h) = sym (next_same _ _ _ _ k.fills) ∙ holds (omega (arith, h, k.within))

-- nothing is left of the run
pub kept_over : (t : Table) (old words : List (List ℕ)) (flows places : List ℕ) (r : Ran) (left : ℕ)
    → RunStored t old words flows r.marks places r.moves r.filled left → left ≡ 0 → RanOut t old words flows places r
kept_over t old words flows places r left k z = record {
  fills = k.fills;
  within = k.within;
  few = omega (arith, k.few);
  short = k.run.short;
  counts = ap (λ (b : Board). b.moves) (over _ _ _ _ _ _ _ _ k.run z);
  homes = home_over _ _ _ _ _ _ _ _ k.run z;
  over = λ e. sym (ap (λ (b : Board). standing b flows r.marks places r.moves) (k.same e)) ∙ over _ _ _ _ _ _ _ _ k.run z;
  blocked = k.blocked;
}
