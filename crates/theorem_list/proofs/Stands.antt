-- The standing items of the reference player. Each was accepted on the board of those before it, so that calling it is making it, and undo after it gives the board of
-- before: a move, after which the board is one of play; or at the end a finish, after which it is complete. By induction on the list its board counts as many moves as the
-- list makes, has their routes, and is the board that the standing items give once they are called in order.
use mathlib.Core.Path.{◌≡◌, refl, sym, ap, ◌∙◌}
use mathlib.Core.Bool.{true, false}
use mathlib.Core.Logic.{◌⊎◌, inl, inr, ◌≢◌}
use mathlib.Core.List.{List, [], ◌∷◌, ◌++◌, append-nil, append_assoc}
use Prim.Native.Nat.{ℕ, zero, suc, ◌+◌, ◌-◌, ◌<◌}
use native.Mathlib.Omega.{arith}
use lib.Dec.{eqb}
use lib.ListN.{length, take, replicate, length-append}
use lib.Seq.{take-append_seam}
use borrow.Author.Tests.{eq-eqb, ne_eqb}
use Rattle.lists.proofs.Laws.{Known, was_true, was_false, known, eq_or_ne, pick_yes, pick_no}
use Rattle.board.specs.Limits.{max_moves}
use Rattle.board.specs.Whole.{Board, Played}
use Rattle.load.specs.Load.{load_text}
use Rattle.load.proofs.Loads.{load_accepted}
use Rattle.move_guard.specs.Moved.{answered}
use Rattle.move_guard.proofs.Answers.{answered_yes}
use Rattle.move_carry.specs.Carries.{carry_refusal, carried, carry_call}
use Rattle.move_turn.specs.Turns.{turn_call}
use Rattle.move_undo.specs.Undone.{undo_call}
use Rattle.report_routes.specs.Routes.{route, route_in}
use Rattle.theorem_keep.proofs.CarriedRoutes.{route-moved, route_kept}
use Rattle.theorem_cycles.proofs.TurnedRoutes.{route_after}
use Rattle.solve_next.specs.Choosing.{Act, relocate, augment, all_home, judge, acted, next_act}
use Rattle.solve_finish.specs.Finishes.{Finished}
use Rattle.solve_finish.specs.Finishes.{stepped, stepped_on, played_out}
use Rattle.theorem_keep.proofs.Standing.{Standing, loaded-standing, carry_room, carry_undone, turn_undone}
use Rattle.move_list.specs.Calls.{call_for, Game, game_of, Reply, reply_of, reply_of_finish, made, played, answers}
use Rattle.theorem_list.specs.Player.{
  Item,
  act,
  ending,
  is_over,
  listed,
  listed_all,
  afresh,
  solver_moves,
  moves_of,
  expanded_from,
  expanded,
  goes_over,
  route_of,
  call_again,
  calls_again,
}
use Rattle.theorem_list.proofs.Acts.{act_standing, act_network, act_acyclic, act_moves}
use Rattle.theorem_list.proofs.Next.{next_accepted}
use Rattle.theorem_list.proofs.Finish.{next, step_refused, step_made, on_stays, on_goes, finish_result, finish_completes}
use Rattle.theorem_list.proofs.FinishBack.{finish_undone_lem}

-- ---- one accepted item m on board b
pub record Accepted (b : Board) (m : Item) : Type 0 where
  pub called : made (game_of b) (call_again m) ≡ record { answer = 0; game = game_of (listed b m) }
  pub back : undo_call (listed b m) ≡ record { answer = 0; board = b }
  pub network : (listed b m).network ≡ b.network
  pub acyclic : (listed b m).acyclic ≡ b.acyclic
  pub moves : (listed b m).moves ≡ b.moves + length (moves_of b m)
  pub routes : (i : ℕ) → route (listed b m) i ≡ route_of i (moves_of b m) ++ route b i

-- what calling a move gives
pub called_act : (b : Board) (a : Act) → made (game_of b) (call_for a) ≡ reply_of (answered (judge b a) b (acted b a))
unfolding carry_call turn_call
called_act b (relocate i e) = refl
called_act b (augment w) = refl

module _ (b : Board) (i e : ℕ) (st : Standing b) (h : carry_refusal b i e ≡ 0) where
  -- the journal has a place for the carry
  carry_fits : b.moves < length b.journal
  carry_fits = carry_room b i e st h

  carry_routes : (k : ℕ) → route (carried b i e) k ≡ goes_over k (relocate i e) ++ route b k
  carry_routes k = go (eq_or_ne i k)
    where
      go : (i ≡ k) ⊎ (i ≢ k) → route (carried b i e) k ≡ goes_over k (relocate i e) ++ route b k
      go (inl q) = rw (pick_yes (eqb i k) (e ∷ []) [] (eq-eqb i k q), ← q) (route-moved b i e carry_fits)
      go (inr n) = rw (pick_no (eqb i k) (e ∷ []) [] (ne_eqb i k n)) (route_kept b i e carry_fits k (λ q. n (sym q)))

module _ (b : Board) where
  act_undone : (a : Act) → Standing b → judge b a ≡ 0 → undo_call (acted b a) ≡ record { answer = 0; board = b }
  act_undone (relocate i e) st h = carry_undone b i e st h
  act_undone (augment w) st h = turn_undone b w st h

  act_routes : (a : Act) → Standing b → judge b a ≡ 0 → (k : ℕ) → route (acted b a) k ≡ goes_over k a ++ route b k
  act_routes (relocate i e) st h = carry_routes b i e st h
  act_routes (augment w) st h = λ k. route_after b w k

  pub act_accepted : (a : Act) → Standing b → judge b a ≡ 0 → Accepted b (act a)
  unfolding route_of
  act_accepted a st h = record {
    called = called_act b a ∙ ap reply_of (answered_yes (judge b a) b (acted b a) h);
    back = act_undone a st h;
    network = act_network b a;
    acyclic = act_acyclic b a;
    moves = act_moves b a;
    routes = act_routes a st h;
  }

-- ---- the moves of a finish
solver_stays : (k : ℕ) (b : Board) → all_home b ≡ true → solver_moves (suc k) b ≡ []
unfolding solver_moves
solver_stays k b all = rw (step_refused b all, solver_moves) refl

solver_goes : (k : ℕ) (b : Board) → all_home b ≡ false → judge b (next_act b) ≡ 0 → solver_moves (suc k) b ≡ next_act b ∷ solver_moves k (next b)
unfolding solver_moves
solver_goes k b away free =
    let made = step_made b away free in
    let zeroed : (stepped b).answer ≡ 0 = ap (λ (p : Played). p.answer) made in
    rw (zeroed, solver_moves) (ap (λ (p : Played). next_act b ∷ solver_moves k p.board) made)

-- the routes and the count of moves after so many of them
record Moved (b last : Board) (acts : List Act) : Type 0 where
  moves : last.moves ≡ b.moves + length acts
  routes : (i : ℕ) → route last i ≡ route_of i acts ++ route b i

solver_moved : (k : ℕ) (b : Board) → Standing b → Moved b (stepped_on k b) (solver_moves k b)
unfolding stepped_on solver_moves route_of
solver_moved zero b st = record { moves = omega arith; routes = λ i. refl }
solver_moved (suc k) b st = go (known (all_home b)) (λ s. solver_moved k (next b) s)
  where
    go : Known (all_home b) → (Standing (next b) → Moved (next b) (stepped_on k (next b)) (solver_moves k (next b))) → Moved b (stepped_on (suc k) b) (solver_moves (suc k) b)
    go (was_true t) ih = rw (on_stays k b t, solver_stays k b t) (record { moves = omega arith; routes = λ i. refl })
    go (was_false t) ih = rw (on_goes k b t free, solver_goes k b t free) (record {
      moves = omega (arith, rest.moves, act_moves b (next_act b));
      routes = λ i. rest.routes i ∙ ap (λ (l : List ℕ). route_of i (solver_moves k (next b)) ++ l) (act_routes b (next_act b) st free i)
          ∙ sym (append_assoc (route_of i (solver_moves k (next b))) (goes_over i (next_act b)) (route b i));
    })
      where
        free : judge b (next_act b) ≡ 0
        free = next_accepted b st t

        rest : Moved (next b) (stepped_on k (next b)) (solver_moves k (next b))
        rest = ih (act_standing b (next_act b) st free)

module _ (b : Board) (st : Standing b) where
  over_moved : Moved b (played_out b) (solver_moves max_moves b)
  unfolding played_out
  over_moved = solver_moved max_moves b st

  pub finish_accepted : Accepted b ending
  unfolding route
  finish_accepted =
      let gives = finish_result b st in
      record {
        called = ap reply_of_finish gives ∙ (λ j. record { answer = 0; game = game_of (ap (λ (f : Finished). f.board) (sym gives) j) });
        back = finish_undone_lem b st;
        network = (finish_completes b st).network;
        acyclic = (finish_completes b st).acyclic;
        moves = ap (λ (f : Finished). f.board.moves) gives ∙ over_moved.moves;
        routes = λ i. ap (λ (f : Finished). route f.board i) gives ∙ over_moved.routes i;
      }

-- ---- a list with one more at its end
pub without_last : (ms : List Item) (c : Item) → take (length (ms ++ (c ∷ [])) - 1) (ms ++ (c ∷ [])) ≡ ms
without_last ms c =
    let l : length (ms ++ (c ∷ [])) - 1 ≡ length ms = omega (arith, length-append ms (c ∷ [])) in
    rw l (take-append_seam ms (c ∷ []))

listed_more : (b : Board) (ms : List Item) (c : Item) → listed_all b (ms ++ (c ∷ [])) ≡ listed (listed_all b ms) c
unfolding listed_all
listed_more b [] c = refl
listed_more b (m ∷ ms) c = listed_more (listed b m) ms c

pub afresh_more : (text : List ℕ) (ms : List Item) (c : Item) → afresh text (ms ++ (c ∷ [])) ≡ listed (afresh text ms) c
unfolding afresh
afresh_more text ms c = listed_more (load_text text).board ms c

played_more : (g : Game) (ms : List Item) (c : Item) → played g (calls_again (ms ++ (c ∷ []))) ≡ (made (played g (calls_again ms)) (call_again c)).game
unfolding played calls_again
played_more g [] c = refl
played_more g (m ∷ ms) c = played_more (made g (call_again m)).game ms c

answers_more : (g : Game) (ms : List Item) (c : Item)
    → answers g (calls_again (ms ++ (c ∷ []))) ≡ answers g (calls_again ms) ++ ((made (played g (calls_again ms)) (call_again c)).answer ∷ [])
unfolding answers played calls_again
answers_more g [] c = refl
answers_more g (m ∷ ms) c = ap (λ (l : List ℕ). (made g (call_again m)).answer ∷ l) (answers_more (made g (call_again m)).game ms c)

-- a 0 for each of a list, and one more
zeros_more : (ms : List Item) (c : Item) → ◌++◌ {A = ℕ} (replicate (length ms) 0) (0 ∷ []) ≡ replicate (length (ms ++ (c ∷ []))) 0
zeros_more [] c = refl
zeros_more (m ∷ ms) c = ap (λ (l : List ℕ). 0 ∷ l) (zeros_more ms c)

-- moves and their routes, one list behind the other
routes_both : (i : ℕ) (xs ys : List Act) → route_of i (xs ++ ys) ≡ route_of i ys ++ route_of i xs
unfolding route_of
routes_both i [] ys = sym (append-nil (route_of i ys))
routes_both i (x ∷ xs) ys = ap (λ (l : List ℕ). l ++ goes_over i x) (routes_both i xs ys) ∙ append_assoc (route_of i ys) (route_of i xs) (goes_over i x)

expanded_more : (b : Board) (ms : List Item) (m : Item) → expanded_from b (ms ++ (m ∷ [])) ≡ expanded_from b ms ++ moves_of (listed_all b ms) m
unfolding expanded_from listed_all
expanded_more b [] m = append-nil (moves_of b m)
expanded_more b (n ∷ ms) m =
    ap (λ (l : List Act). moves_of b n ++ l) (expanded_more (listed b n) ms m)
    ∙ sym (append_assoc (moves_of b n) (expanded_from (listed b n) ms) (moves_of (listed_all (listed b n) ms) m))

-- ---- play goes on where no finish stands
pub open_more : (ms : List Item) (a : Act) → is_over (ms ++ (act a ∷ [])) ≡ is_over ms
unfolding is_over
open_more [] a = refl
open_more (act x ∷ ms) a = open_more ms a
open_more (ending ∷ ms) a = refl

pub over_ending : (ms : List Item) → is_over (ms ++ (ending ∷ [])) ≡ true
unfolding is_over
over_ending [] = refl
over_ending (act x ∷ ms) = over_ending ms
over_ending (ending ∷ ms) = refl

-- ---- each move of the list was accepted on the board of those before it
pub data Stands (text : List ℕ) : List Item → Type 0 where
  none : Stands text []
  more : {all : List Item} (ms : List Item) (a : Act) → Stands text ms → judge (afresh text ms) a ≡ 0 → all ≡ ms ++ (act a ∷ []) → Stands text all

-- such a list, or one with a finish behind it
pub data Stood (text : List ℕ) : List Item → Type 0 where
  going : {ms : List Item} → Stands text ms → Stood text ms
  over : {all : List Item} (ms : List Item) → Stands text ms → all ≡ ms ++ (ending ∷ []) → Stood text all

pub stands_open : (text : List ℕ) (ms : List Item) → Stands text ms → is_over ms ≡ false
unfolding is_over
stands_open text ms none = refl
stands_open text all (more ms a s h q) = rw q (open_more ms a ∙ stands_open text ms s)

-- what holds on the board of standing items
pub record Follows (text : List ℕ) (ms : List Item) : Type 0 where
  pub network : (afresh text ms).network ≡ (load_text text).board.network
  pub acyclic : (afresh text ms).acyclic ≡ (load_text text).board.acyclic
  pub moves : (afresh text ms).moves ≡ length (expanded text ms)
  pub routes : (i : ℕ) → route (afresh text ms) i ≡ route_of i (expanded text ms)
  pub again : played (game_of (load_text text).board) (calls_again ms) ≡ game_of (afresh text ms)
  pub accepted : answers (game_of (load_text text).board) (calls_again ms) ≡ replicate (length ms) 0

module _ (text : List ℕ) (loads : (load_text text).answer ≡ 0) where
  follows_none : Follows text []
  unfolding afresh listed_all calls_again played answers expanded_from route_of route route_in
  follows_none = record {
    network = refl;
    acyclic = refl;
    moves = rw (load_accepted text loads) refl;
    routes = λ i. rw (load_accepted text loads) refl;
    again = refl;
    accepted = refl;
  }

  module _ (ms : List Item) (m : Item) (f : Follows text ms) (a : Accepted (afresh text ms) m) where
    expands : expanded text (ms ++ (m ∷ [])) ≡ expanded text ms ++ moves_of (afresh text ms) m
    unfolding afresh
    expands = expanded_more (load_text text).board ms m

    routes_more : (i : ℕ) → route_of i (moves_of (afresh text ms) m) ++ route_of i (expanded text ms) ≡ route_of i (expanded text (ms ++ (m ∷ [])))
    routes_more i = sym (ap (route_of i) expands ∙ routes_both i (expanded text ms) (moves_of (afresh text ms) m))

    follows_more : Follows text (ms ++ (m ∷ []))
    follows_more = record {
      network = rw (afresh_more text ms m) (a.network ∙ f.network);
      acyclic = rw (afresh_more text ms m) (a.acyclic ∙ f.acyclic);
      moves = rw (afresh_more text ms m) (omega (arith, a.moves, f.moves, ap length expands, length-append (expanded text ms) (moves_of (afresh text ms) m)));
      routes = λ i. rw (afresh_more text ms m, a.routes i, f.routes i) (routes_more i);
      again =
          played_more (game_of (load_text text).board) ms m
          ∙ ap (λ (g : Game). (made g (call_again m)).game) f.again
          ∙ ap (λ (r : Reply). r.game) a.called
          ∙ ap game_of (sym (afresh_more text ms m));
      accepted =
          let zeroed : (made (played (game_of (load_text text).board) (calls_again ms)) (call_again m)).answer ≡ 0 =
          rw f.again (ap (λ (r : Reply). r.answer) a.called) in
          answers_more (game_of (load_text text).board) ms m ∙ rw (f.accepted, zeroed) (zeros_more ms m);
    }

  pub stands_standing : (ms : List Item) → Stands text ms → Standing (afresh text ms)
  unfolding afresh listed_all
  stands_standing ms none = loaded-standing text loads
  stands_standing all (more ms a s h q) = rw (q, afresh_more text ms (act a)) (act_standing (afresh text ms) a (stands_standing ms s) h)

  pub stands_follows : (ms : List Item) → Stands text ms → Follows text ms
  stands_follows ms none = follows_none
  stands_follows all (more ms a s h q) = rw q (follows_more ms (act a) (stands_follows ms s) (act_accepted (afresh text ms) a (stands_standing ms s) h))

  pub stood_follows : (ms : List Item) → Stood text ms → Follows text ms
  stood_follows ms (going s) = stands_follows ms s
  stood_follows all (over ms s q) = rw q (follows_more ms ending (stands_follows ms s) (finish_accepted (afresh text ms) (stands_standing ms s)))
