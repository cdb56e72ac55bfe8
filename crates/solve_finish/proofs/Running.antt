-- Why the loop over the parts of a board comes to the board that the definition names. What is left of the run, from the board that the parts make up, ends where
-- the whole run does. A move that is refused ends the run, so nothing is left; an accepted one leaves one move fewer, and none where the board is not in play
-- after it, for then the next one is refused. So where nothing is left the parts make up the board at the end of the run, and the answer of the finish is read off
-- it.
use mathlib.Core.Path.{◌≡◌, refl, sym, ap, ◌∙◌}
use mathlib.Core.Bool.{Bool, true}
use mathlib.Core.Logic.{◌≢◌}
use mathlib.Core.List.{List}
use Prim.Native.Nat.{ℕ, ◌+◌, ◌-◌, ◌<◌}
use native.Mathlib.Omega.{arith}
use lib.Dec.{leb}
use lib.ListN.{length, set, length-set}
use Rattle.lists.specs.Choice.{pick, both}
use Rattle.lists.proofs.Laws.{Known, was_true, was_false, known, pick_yes, pick_no}
use Rattle.board.specs.Limits.{max_edges, max_terminals, max_moves}
use Rattle.board.specs.Whole.{Entry, Board}
use Rattle.board.specs.declared.Network.{Network}
use Rattle.move_guard.specs.Guard.{playing}
use Rattle.move_guard.specs.Moved.{moved}
use Rattle.move_guard.proofs.Stores.{with_parts}
use Rattle.move_guard.specs.Moved.{Change}
use Rattle.solve_next.specs.Choosing.{all_home, all_home_in}
use Rattle.solve_finish.specs.Run.{Made}
use Rattle.solve_finish.specs.Finishes.{stepped_on, played_out}
use Rattle.solve_finish.specs.Run.{step_change, PartsSized, InPlay, Makes, left_after}
use Rattle.solve_finish.proofs.Making.{on_stops, on_goes, closed_stops}
use Rattle.solve_finish.proofs.Following.{FollowsChange, follows}

-- a board with other parts, and with another journal
abbrev pub standing : Board → List ℕ → ℕ → List ℕ → ℕ → Board
standing last flows marks places moves = with_parts last flows marks places last.journal moves

abbrev pub journaled : Board → List Entry → Board
journaled last journal = with_parts last last.flows last.marks last.places journal last.moves

-- one move or more fewer are left
pub left_less : (left moves : ℕ) (small : Bool) → left ≢ 0 → left_after left moves small < left
unfolding left_after
left_less left moves small n = go (known (both (leb moves max_moves) small))
  where
    go : Known (both (leb moves max_moves) small) → pick (both (leb moves max_moves) small) (left - 1) 0 < left
    go (was_true t) = rw (pick_yes _ (left - 1) 0 t) (omega (arith, n))
    go (was_false t) = rw (pick_no _ (left - 1) 0 t) (omega (arith, n))

-- the run from the board `whole` on has come to the board of these parts
pub record Run (whole : Board) (net : Network) (last : Board) (flows : List ℕ) (marks : ℕ) (places : List ℕ) (moves left : ℕ) : Type 0 where
  pub run : stepped_on left (standing last flows marks places moves) ≡ played_out whole
  pub play : left ≢ 0 → playing (standing last flows marks places moves) ≡ true
  pub network : last.network ≡ net
  pub long : length flows ≡ max_edges
  pub short : length places ≡ max_terminals
  pub sized : PartsSized net
  pub room : length last.journal ≡ length whole.journal

pub run_starts : (b : Board) → playing b ≡ true → length b.flows ≡ max_edges → length b.places ≡ max_terminals → PartsSized b.network
    → Run b b.network b b.flows b.marks b.places b.moves max_moves
unfolding played_out
run_starts b play long short sized =
    record { run = refl; play = λ n. play; network = refl; long = long; short = short; sized = sized; room = refl }

-- the same parts under other names
pub run_same : (whole : Board) (net : Network) (last : Board) (flows flows' : List ℕ) (marks : ℕ) (places places' : List ℕ) (moves left : ℕ)
    → flows' ≡ flows → places' ≡ places → Run whole net last flows marks places moves left → Run whole net last flows' marks places' moves left
run_same whole net last flows flows' marks places places' moves left f p r = rw (f, p) r

module _ (whole : Board) (net : Network) (last : Board) (flows : List ℕ) (marks : ℕ) (places : List ℕ) (moves left : ℕ)
    (r : Run whole net last flows marks places moves left) (n : left ≢ 0) where
  pub run_plays : InPlay net flows marks places
  run_plays = record { board = standing last flows marks places moves; play = r.play n; its_network = r.network; its_flows = refl; its_marks = refl; its_places = refl; long = r.long; sized = r.sized }

  module _ (made : Made) (a : Makes (step_change net flows marks places) made) where
    fol : FollowsChange (standing last flows marks places moves) made.change
    fol = rw (a.changes, ← r.network) (follows (standing last flows marks places moves) (r.play n) r.long (rw r.network r.sized.demands))

    pub run_refused : made.change.answer ≢ 0 → Run whole net last flows marks places moves 0
    unfolding stepped_on
    run_refused s = record {
      run = sym (on_stops left (standing last flows marks places moves) (fol.refused s)) ∙ r.run;
      play = λ z. absurd (z refl);
      network = r.network;
      long = r.long;
      short = r.short;
      sized = r.sized;
      room = r.room;
    }

    -- an accepted move leaves the rest of the run
    pub run_rest : made.change.answer ≡ 0
        → let c = made.change in
        stepped_on (left - 1) (moved (standing last flows marks places moves) c.flows c.marks c.places c.entry) ≡ played_out whole
    run_rest z = sym (on_goes left (standing last flows marks places moves) _ (omega (arith, n)) (fol.made z)) ∙ r.run

    pub run_made : (new : Board) (left' : ℕ) → made.change.answer ≡ 0 → length made.change.places ≡ max_terminals
        → new ≡ journaled last (set last.journal moves made.change.entry)
        → left' ≡ left_after left (moves + 1) made.small
        → Run whole net new made.change.flows made.change.marks made.change.places (moves + 1) left'
    unfolding left_after stepped_on
    run_made new left' z short e l = rw (e, l) (go (known (both (leb (moves + 1) max_moves) made.small)))
      where
        c : Change
        c = made.change

        next : Board
        next = moved (standing last flows marks places moves) c.flows c.marks c.places c.entry

        goes_on : playing next ≡ both (leb (moves + 1) max_moves) made.small
        goes_on = fol.stays z ∙ rw a.smalls refl

        rest : stepped_on (left - 1) next ≡ played_out whole
        rest = run_rest z

        long : length c.flows ≡ max_edges
        long = fol.size ∙ r.long

        room : length (set last.journal moves c.entry) ≡ length whole.journal
        room = length-set last.journal moves c.entry ∙ r.room

        go : Known (both (leb (moves + 1) max_moves) made.small)
            → Run whole net (journaled last (set last.journal moves c.entry)) c.flows c.marks c.places (moves + 1)
            (pick (both (leb (moves + 1) max_moves) made.small) (left - 1) 0)
        go (was_true t) =
            rw (pick_yes _ (left - 1) 0 t)
            (record { run = rest; play = λ q. goes_on ∙ t; network = r.network; long = long; short = short; sized = r.sized; room = room })
        go (was_false t) = rw (pick_no _ (left - 1) 0 t) (record {
          run = sym (on_stops (left - 1) next (closed_stops next (goes_on ∙ t))) ∙ rest;
          play = λ q. absurd (q refl);
          network = r.network;
          long = long;
          short = short;
          sized = r.sized;
          room = room;
        })

-- nothing is left of the run
module _ (whole : Board) (net : Network) (last : Board) (flows : List ℕ) (marks : ℕ) (places : List ℕ) (moves left : ℕ)
    (r : Run whole net last flows marks places moves left) (z : left ≡ 0) where
  pub over : standing last flows marks places moves ≡ played_out whole
  unfolding stepped_on
  over = rw z at r.run

  at_home : all_home_in net.terminals net.source places ≡ all_home (standing last flows marks places moves)
  at_home = rw (← r.network) refl

  pub home_over : all_home_in net.terminals net.source places ≡ all_home (played_out whole)
  home_over = at_home ∙ ap all_home over
