-- A finish over lent words. The moves of a run fill the places behind the standing moves and change no other; so a finish of words that are those of the
-- board's journal, place by place, leaves such words. And the answer by how the run ended.
use mathlib.Core.Path.{◌≡◌, refl, sym, ap, ◌∙◌}
use mathlib.Core.Bool.{Bool, true, false}
use mathlib.Core.List.{List}
use mathlib.Core.Logic.{◌⊎◌, inl, inr, ◌≢◌}
use Prim.Native.Nat.{ℕ, zero, suc, ◌+◌, ◌-◌, ◌<◌, ◌≤◌}
use native.Mathlib.Omega.{arith}
use lib.Dec.{eqb}
use lib.ListN.{length, get_or, set, length-set}
use lib.Seq.{get_or-set_other}
use Rattle.lists.proofs.Laws.{Known, was_true, was_false, known, eq_or_ne, pick_yes, pick_no}
use Rattle.board.specs.Limits.{max_moves}
use Rattle.board.specs.Record.{blank}
use Rattle.board.specs.Whole.{Entry, Board, Played, Table}
use Rattle.journal.specs.Words.{whole_of, packed_on, words_after, packed_all}
use Rattle.journal.proofs.Places.{packed_on-all}
use Rattle.journal.proofs.After.{after_none, after_many}
use Rattle.move_guard.proofs.Answers.{answered_yes, answered_no}
use Rattle.solve_next.specs.Choosing.{Act, relocate, augment, all_home, judge, acted, next_act, all_home_in}
use Rattle.move_guard.specs.Guard.{playing}
use Rattle.solve_finish.specs.declared.Ran.{Ran}
use Rattle.solve_finish.specs.Run.{ran_to, RanOut, RanFull}
use Rattle.solve_finish.specs.Finishes.{Finished}
use Rattle.solve_finish.specs.Finishes.{stepped, stepped_on, played_out, finish_refusal, ended, finish_call}
use Rattle.solve_finish.proofs.Stepping.{away, finish_stuck, finish_made}
use Rattle.solve_finish.proofs.Making.{home_stops, on_stops}
use Rattle.move_carry.specs.Carries.{carried_in}
use Rattle.move_turn.specs.Turns.{turned_in}

-- one more move stands
record OneMore (b next : Board) : Type 0 where
  pub entry : Entry
  pub moves : next.moves ≡ b.moves + 1
  pub journal : next.journal ≡ set b.journal b.moves entry

act_more : (b : Board) (x : Act) → OneMore b (acted b x)
unfolding carried_in turned_in
act_more b (relocate i e) = record { entry = _; moves = refl; journal = refl }
act_more b (augment w) = record { entry = _; moves = refl; journal = refl }

step_more : (b : Board) → (stepped b).answer ≡ 0 → OneMore b (stepped b).board
step_more b z = go (known (all_home b)) (eq_or_ne (judge b (next_act b)) 0)
  where
    go : Known (all_home b) → (judge b (next_act b) ≡ 0) ⊎ (judge b (next_act b) ≢ 0) → OneMore b (stepped b).board
    go (was_true h) q = absurd (home_stops b h z)
    go (was_false h) (inl y) = rw (← away b h, answered_yes (judge b (next_act b)) b (acted b (next_act b)) y) (act_more b (next_act b))
    go (was_false h) (inr n) =
        absurd (n (sym (ap (λ (p : Played). p.answer) (sym (away b h) ∙ answered_no (judge b (next_act b)) b (acted b (next_act b)) n)) ∙ z))

-- a board that a run reaches: no fewer moves stand, and only places between the two counts of moves have changed
pub record Further (b last : Board) : Type 0 where
  pub moves : b.moves ≤ last.moves
  pub long : length b.journal ≡ length last.journal
  pub same : (i : ℕ) → (i < b.moves) ⊎ (last.moves ≤ i) → get_or b.journal i blank ≡ get_or last.journal i blank

further_more : (b next last : Board) → OneMore b next → Further next last → Further b last
further_more b next last o f = record {
  moves = omega (arith, o.moves, f.moves);
  long = sym (ap length o.journal ∙ length-set b.journal b.moves o.entry) ∙ f.long;
  same = λ i h. sym (ap (λ (l : List Entry). get_or l i blank) o.journal ∙ get_or-set_other b.journal b.moves i o.entry blank (apart i h)) ∙ f.same i (out i h);
}
  where
    apart : (i : ℕ) → (i < b.moves) ⊎ (last.moves ≤ i) → i ≢ b.moves
    apart i (inl l) e = omega (arith, e)
    apart i (inr l) e = omega (arith, e, l, o.moves, f.moves)

    out : (i : ℕ) → (i < b.moves) ⊎ (last.moves ≤ i) → (i < next.moves) ⊎ (last.moves ≤ i)
    out i (inl l) = inl (omega (arith, l, o.moves))
    out i (inr l) = inr l

further_none : (b last : Board) → last ≡ b → Further b last
further_none b last e = rw e (record { moves = omega arith; long = refl; same = λ i h. refl })

pub further_on : (n : ℕ) (b : Board) → Further b (stepped_on n b)
unfolding stepped_on
further_on zero b = further_none b b refl
further_on (suc n) b = go (eq_or_ne (stepped b).answer 0) (λ c. further_on n c)
  where
    go : ((stepped b).answer ≡ 0) ⊎ ((stepped b).answer ≢ 0) → ((c : Board) → Further c (stepped_on n c)) → Further b (stepped_on (suc n) b)
    go (inl z) ih = rw (z, stepped_on) (further_more b (stepped b).board _ (step_more b z) (ih (stepped b).board))
    go (inr s) ih = further_none b _ (on_stops (suc n) b s)

pub further_out : (b : Board) → Further b (played_out b)
unfolding played_out
further_out b = further_on max_moves b

pub finish_packed : (b : Board) (w : List (List ℕ)) → w ≡ packed_all b.journal
    → words_after b.moves (finish_call b).board w ≡ packed_all (finish_call b).board.journal
unfolding finish_call
finish_packed b w e = go (known (eqb (finish_refusal b) 0))
  where
    last : Board
    last = ended b.moves (played_out b)

    f : Further b (played_out b)
    f = further_out b

    made : words_after b.moves last w ≡ packed_all last.journal
    made =
        after_many b.moves last w f.moves ∙ ap (packed_on (last.moves - b.moves) b.moves last.journal) e
        ∙ packed_on-all b.moves (last.moves - b.moves) b.journal last.journal f.long (λ i h. f.same i (out i h))
      where
        out : (i : ℕ) → (i < b.moves) ⊎ (b.moves + (last.moves - b.moves) ≤ i) → (i < b.moves) ⊎ (last.moves ≤ i)
        out i (inl l) = inl l
        out i (inr l) = inr (omega (arith, l))

    go : Known (eqb (finish_refusal b) 0) → words_after b.moves (finish_call b).board w ≡ packed_all (finish_call b).board.journal
    go (was_true t) =
        let e : finish_call b ≡ record { answer = 0; count = (played_out b).moves - b.moves; board = last } = pick_yes {A = Finished} _ _ _ t in
        rw e made
    go (was_false t) =
        let s : finish_call b ≡ record { answer = finish_refusal b; count = 0; board = b } = pick_no {A = Finished} _ _ _ t in
        rw s (after_none b.moves b w refl ∙ e)

-- the words that an answer leaves
module _ (t : Table) (w : List (List ℕ)) where
  pub words_refused : record { answer = 20; count = 0; board = whole_of t w } ≡ finish_call (whole_of t w)
      → w ≡ words_after t.moves (finish_call (whole_of t w)).board w
  words_refused e = rw (← e) (sym (after_none t.moves (whole_of t w) w refl))

  words_made : (r : Finished) (v : List (List ℕ)) → r ≡ finish_call (whole_of t w) → t.moves ≤ r.board.moves
      → v ≡ packed_on (r.board.moves - t.moves) t.moves r.board.journal w → v ≡ words_after t.moves (finish_call (whole_of t w)).board w
  words_made r v e more h = rw (← e) (h ∙ sym (after_many t.moves r.board w more))

-- the answer by whether every terminal is at the source at the end of the run
module _ (t : Table) (w words : List (List ℕ)) (flows places : List ℕ) (ran : Ran) (r : RanOut t w words flows places ran) (play : playing (whole_of t w) ≡ true)
    (home : Bool) (h : home ≡ all_home_in t.network.terminals t.network.source places) where
  pub ran_refused : home ≡ false → record { answer = 20; count = 0; board = whole_of t w } ≡ finish_call (whole_of t w)
  ran_refused away = finish_stuck (whole_of t w) play (sym r.homes ∙ sym h ∙ away)

  pub ran_made : (new : List (List ℕ)) (flows' places' : List ℕ) (whole : Ran) (count : ℕ) → RanFull t w new flows' places' whole → home ≡ true
      → count ≡ whole.moves - t.moves
      → (record { answer = 0; count = count; board = ended t.moves (ran_to t new flows' whole.marks places' whole.moves) } ≡ finish_call (whole_of t w))
      × (new ≡ words_after t.moves (finish_call (whole_of t w)).board w)
  ran_made new flows' places' whole count full there c = (e, words_made t w _ new e full.behind full.packs)
    where
      at_home : all_home (ran_to t new flows' whole.marks places' whole.moves) ≡ true
      at_home = ap all_home full.over ∙ sym r.homes ∙ sym h ∙ there

      e : record { answer = 0; count = count; board = ended t.moves (ran_to t new flows' whole.marks places' whole.moves) } ≡ finish_call (whole_of t w)
      e = finish_made (whole_of t w) (ran_to t new flows' whole.marks places' whole.moves) _ count play full.over at_home c refl
