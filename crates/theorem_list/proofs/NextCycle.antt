-- The cycle of the solver is one that may be turned. Its walk goes down and up by the lowest edge other than the one just used, so it finds one where there is
-- one; and on a board with no open carry and a terminal away from the source there is one wherever the walk needs it.
use mathlib.Core.Path.{◌≡◌, refl}
use mathlib.Core.Bool.{Bool, false, not, true≢false}
use mathlib.Core.Logic.{◌≢◌}
use mathlib.Core.List.{List}
use Prim.Native.Nat.{ℕ, zero, suc, ◌+◌, ◌<◌}
use native.Mathlib.Omega.{arith}
use lib.Dec.{eqb}
use lib.ListN.{length}
use borrow.Author.Tests.{eqb-false, ne_eqb, not-true}
use Rattle.lists.specs.Lists.{all}
use Rattle.lists.proofs.Laws.{Known, was_true, was_false, known, both_left, both_right, both_true}
use Rattle.lists.proofs.Lowest.{lowest_least, lowest_found}
use Rattle.board.specs.Whole.{Board}
use Rattle.move_guard.specs.Parts.{place}
use Rattle.move_carry.specs.Opens.{some_open, is_home, is_home_in}
use Rattle.solve_walk.specs.Walk.{touches, another, cycle_of}
use Rattle.solve_next.specs.Choosing.{all_home, next_cycle, all_home_in}
use Rattle.theorem_cycles.specs.Invariant.{Invariant}
use Rattle.theorem_cycles.proofs.Chosen.{walk_turnable}
use Rattle.theorem_cycles.specs.Walked.{Leaves}
use Rattle.theorem_cycles.proofs.Single.{leaves_so, so_leaves, leaves_inside}
use Rattle.theorem_cycles.specs.Allowed.{Turnable}

-- ---- the lowest positive edge other than x with this end at v

module _ (ends flows : List ℕ) (v x : ℕ) where
  another_is : another ends flows v x < length flows → Leaves ends flows v (another ends flows v x) × (another ends flows v x ≢ x)
  unfolding another touches
  another_is h =
      let e = another ends flows v x in
      let t = (lowest_least (touches ends flows v x) 0 (length flows)).hit (omega (arith, h)) in
      (leaves_so ends flows v e (both_left _ _ t), eqb-false e x (not-true (eqb e x) (both_right _ _ t)))

  another_found : (e : ℕ) → Leaves ends flows v e → e ≢ x → another ends flows v x < length flows
  unfolding another touches
  another_found e l d =
      let t = both_true _ (not (eqb e x)) (so_leaves ends flows v e l) (rw (ne_eqb e x d) refl) in
      omega (arith, lowest_found (touches ends flows v x) 0 (length flows) e (omega arith) t, leaves_inside ends flows v e l)

-- ---- a terminal away from the source

-- where not each has p, one has it not
record Missed (p : ℕ → Bool) (n : ℕ) : Type 0 where
  index : ℕ
  low : index < n
  fails : p index ≡ false

missed_from : (p : ℕ → Bool) (i k : ℕ) → all p i k ≡ false → Missed p (i + k)
unfolding all
missed_from p i zero h = absurd (true≢false h)
missed_from p i (suc k) h = go (known (p i)) (λ t. missed_from p (suc i) k t)
  where
    go : Known (p i) → (all p (suc i) k ≡ false → Missed p (suc i + k)) → Missed p (i + suc k)
    go (was_true t) ih = let m = ih (rw (t, all) at h) in record { index = m.index; low = omega (arith, m.low); fails = m.fails }
    go (was_false t) ih = record { index = i; low = omega arith; fails = t }

pub record Away (b : Board) : Type 0 where
  pub terminal : ℕ
  pub on_board_lem : terminal < b.network.terminals
  pub elsewhere : place b terminal ≢ b.network.source

pub some_away : (b : Board) → all_home b ≡ false → Away b
unfolding all_home_in is_home_in
some_away b h =
    let m = missed_from (is_home b) 0 b.network.terminals h in
    record { terminal = m.index; on_board_lem = omega (arith, m.low); elsewhere = eqb-false _ _ m.fails }

-- ---- the walk on a board

pub cycle_turnable : (b : Board) → Invariant b → some_open b ≡ false → all_home b ≡ false → Turnable b (next_cycle b)
unfolding cycle_of
cycle_turnable b inv shut home =
    let away = some_away b home in
    walk_turnable b inv (another b.network.tails b.flows) (another b.network.heads b.flows) shut
    away.terminal away.on_board_lem away.elsewhere
    (record {
      falls_leaves = another_is b.network.tails b.flows;
      falls_found = another_found b.network.tails b.flows;
      climbs_found = λ v x e l d. another_is b.network.heads b.flows v x (another_found b.network.heads b.flows v x e l d);
    })
