-- The steps as the code reads them: a number from a base on is a step up, a lower one a step down, in codes and in bytes;
-- steps and their codes, both ways; and one round of each loop over codes.
use mathlib.Core.Path.{◌≡◌, refl, sym, ap, ◌∙◌}
use native.Mathlib.Omega.{arith}
use mathlib.Core.Bool.{Bool, true, false, not, beq}
use mathlib.Core.List.{List, [], ◌∷◌, ◌++◌}
use Prim.Native.Nat.{ℕ, suc, ◌+◌, ◌-◌, ◌*◌, ◌%◌, ◌<◌, ◌≤◌}
use native.Mathlib.Nat.{mod-eq_of_lt}
use native.Mathlib.Numerals.{add-one}
use lib.Dec.{leb, eqb}
use lib.ListN.{length, get_or, drop, drop_of_length-le}
use lib.Seq.{drop-cons}
use borrow.Author.Tests.{le-leb, lt-leb, leb-true, leb-false, eq-eqb, ne_eqb}
use Rattle.lists.specs.Choice.{pick, both}
use Rattle.lists.proofs.Laws.{Known, was_true, was_false, known, pick_yes, pick_no, both_true}
use Rattle.sets.specs.Sets.{has_bit, with_bit}
use Rattle.graph_flows.specs.Trails.{Step, down, up, edge_of, start_of, end_of}
use Rattle.move_cycle.specs.Steps.{step_from, up_from, step_of, step_byte, code_up, code_step, code_steps, step_code, codes_of, stride, is_up, goes, leads_back, is_cycle, gather}

-- a number from the base on, and one below it
from_up : (base s : ℕ) → base ≤ s → step_from base s ≡ up (s - base)
from_up base s h = pick_yes (leb base s) (up (s - base)) (down s) (le-leb base s h)

from_down : (base s : ℕ) → s < base → step_from base s ≡ down s
from_down base s h = pick_no (leb base s) (up (s - base)) (down s) (lt-leb base s h)

-- a code, and a byte
pub step_up : (s : ℕ) → code_up ≤ s → code_step s ≡ up (s - code_up)
unfolding code_step
step_up s h = from_up code_up s h

pub step_down : (s : ℕ) → s < code_up → code_step s ≡ down s
unfolding code_step
step_down s h = from_down code_up s h

pub byte_up : (s : ℕ) → up_from ≤ s → step_of s ≡ up (s - up_from)
unfolding step_of
byte_up s h = from_up up_from s h

pub byte_down : (s : ℕ) → s < up_from → step_of s ≡ down s
unfolding step_of
byte_down s h = from_down up_from s h

pub up_code : (s : ℕ) → leb code_up s ≡ is_up (code_step s)
up_code s = split (known (leb code_up s))
  where
    split : Known (leb code_up s) → leb code_up s ≡ is_up (code_step s)
    split (was_true t) = t ∙ sym (ap is_up (step_up s (leb-true code_up s t)))
    split (was_false t) = t ∙ sym (ap is_up (step_down s (leb-false code_up s t)))

-- the edge of a code
pub edge_code : (s : ℕ) → s < 2 * code_up → s % code_up ≡ edge_of (code_step s)
edge_code s small = split (known (leb code_up s))
  where
    split : Known (leb code_up s) → s % code_up ≡ edge_of (code_step s)
    split (was_true t) = let h = leb-true code_up s t in rw (step_up s h) (omega arith)
    split (was_false t) = let h = leb-false code_up s t in rw (step_down s h) (omega arith)

-- a step ends where it would start with the ends of its edge exchanged
pub start_turned : (tails heads : List ℕ) (s : Step) → start_of heads tails s ≡ end_of tails heads s
start_turned tails heads (down e) = refl
start_turned tails heads (up e) = refl

-- the code of a code's step is that code; the step of a step's code is that step, where codes have room for its edge
code_step_lem : (s : ℕ) → step_code (code_step s) ≡ s
code_step_lem s = split (known (leb code_up s))
  where
    split : Known (leb code_up s) → step_code (code_step s) ≡ s
    split (was_true t) = let h = leb-true code_up s t in ap step_code (step_up s h) ∙ omega arith
    split (was_false t) = ap step_code (step_down s (leb-false code_up s t))

pub step_code_lem : (s : Step) → edge_of s < code_up → code_step (step_code s) ≡ s
step_code_lem (down e) h = step_down e h
step_code_lem (up e) h = let back : e + code_up - code_up ≡ e = omega arith in step_up (e + code_up) (omega arith) ∙ ap up back

-- the step of a step's byte is that step, where bytes have room for its edge
pub step_byte_lem : (s : Step) → edge_of s < up_from → step_of (step_byte s) ≡ s
step_byte_lem (down e) h = rw (mod-eq_of_lt h) (byte_down e h)
step_byte_lem (up e) h = let back : e + up_from - up_from ≡ e = omega arith in rw (mod-eq_of_lt h) (byte_up (e + up_from) (omega arith) ∙ ap up back)

-- the edge of a step, and its code
pub stride_edge : (ups : Bool) (e : ℕ) → edge_of (stride ups e) ≡ e
stride_edge true e = refl
stride_edge false e = refl

pub stride_code : (ups : Bool) (e : ℕ) → e < code_up → code_step (step_code (stride ups e)) ≡ stride ups e
stride_code ups e h = step_code_lem (stride ups e) (rw (stride_edge ups e) h)

-- the step of a byte by its way and its edge
byte_stride : (s : ℕ) → s < 2 * up_from → stride (leb up_from s) (s % up_from) ≡ step_of s
byte_stride s small = split (known (leb up_from s))
  where
    split : Known (leb up_from s) → stride (leb up_from s) (s % up_from) ≡ step_of s
    split (was_true t) =
        let h = leb-true up_from s t in
        let e : s % up_from ≡ s - up_from = omega arith in
        rw (t, e) (sym (byte_up s h))
    split (was_false t) =
        let h = leb-false up_from s t in
        let e : s % up_from ≡ s = omega arith in
        rw (t, e) (sym (byte_down s h))

pub byte_code : (s : ℕ) → s < 2 * up_from → code_step (step_code (stride (leb up_from s) (s % up_from))) ≡ step_of s
byte_code s small = stride_code (leb up_from s) (s % up_from) (omega arith) ∙ byte_stride s small

pub codes_steps : (cs : List ℕ) → codes_of (code_steps cs) ≡ cs
unfolding code_steps
codes_steps [] = refl
codes_steps (s ∷ cs) = rw (code_step_lem s, codes_steps cs)

-- as many codes as steps
pub codes_length : (w : List Step) → length (codes_of w) ≡ length w
codes_length [] = refl
codes_length (s ∷ w) = ap suc (codes_length w)

pub steps_length : (cs : List ℕ) → length (code_steps cs) ≡ length cs
unfolding code_steps
steps_length [] = refl
steps_length (s ∷ cs) = ap suc (steps_length cs)

pub steps_join : (cs ds : List ℕ) → code_steps (cs ++ ds) ≡ code_steps cs ++ code_steps ds
unfolding code_steps
steps_join [] ds = refl
steps_join (s ∷ cs) ds = ap (λ (w : List Step). code_step s ∷ w) (steps_join cs ds)

-- the steps from i on
steps_drop : (s : List ℕ) (i : ℕ) → i < length s → code_steps (drop i s) ≡ code_step (get_or s i 0) ∷ code_steps (drop (i + 1) s)
unfolding code_steps
steps_drop s i h = rw (drop-cons s i 0 h, add-one i)

steps_end : (s : List ℕ) (i : ℕ) → length s ≤ i → code_steps (drop i s) ≡ []
unfolding code_steps
steps_end s i h = rw (drop_of_length-le s h)

module _ (tails heads : List ℕ) (r m v : ℕ) (s : List ℕ) (i : ℕ) where
  abbrev here : Step
  here = code_step (get_or s i 0)

  abbrev goes_on : Bool
  goes_on = both (eqb (start_of tails heads here) v) (not (has_bit m (edge_of here)))

  back_stop : i < length s → goes_on ≡ false → false ≡ leads_back tails heads r m v (code_steps (drop i s))
  unfolding leads_back
  back_stop h n = rw (steps_drop s i h, n, leads_back)

  pub back_elsewhere : i < length s → (start_of tails heads here ≡ v → ⊥) → false ≡ leads_back tails heads r m v (code_steps (drop i s))
  unfolding both
  back_elsewhere h n = back_stop h (rw (ne_eqb (start_of tails heads here) v n))

  pub back_twice : i < length s → start_of tails heads here ≡ v → has_bit m (edge_of here) ≡ true
      → false ≡ leads_back tails heads r m v (code_steps (drop i s))
  unfolding both
  back_twice h e t = back_stop h (rw (eq-eqb (start_of tails heads here) v e, t))

  pub back_on : i < length s → start_of tails heads here ≡ v → has_bit m (edge_of here) ≡ false
      → leads_back tails heads r (with_bit m (edge_of here)) (end_of tails heads here) (code_steps (drop (i + 1) s))
      ≡ leads_back tails heads r m v (code_steps (drop i s))
  unfolding leads_back
  back_on h e n =
      let q : not (has_bit m (edge_of here)) ≡ true = rw n in
      let g : goes_on ≡ true = both_true (eqb (start_of tails heads here) v) (not (has_bit m (edge_of here))) (eq-eqb (start_of tails heads here) v e) q in
      rw (steps_drop s i h, g, leads_back)

  pub back_end : length s ≤ i → eqb v r ≡ leads_back tails heads r m v (code_steps (drop i s))
  unfolding leads_back
  back_end h = rw (steps_end s i h)

pub cycle_none : (tails heads s : List ℕ) → length s ≡ 0 → false ≡ is_cycle tails heads (code_steps s)
unfolding code_steps is_cycle
cycle_none tails heads [] h = refl
cycle_none tails heads (x ∷ s) h = absurd (omega arith)

pub cycle_some : (tails heads s : List ℕ) (r : ℕ) → (length s ≡ 0 → ⊥) → r ≡ start_of tails heads (code_step (get_or s 0 0))
    → leads_back tails heads r 0 r (code_steps s) ≡ is_cycle tails heads (code_steps s)
unfolding code_steps is_cycle
cycle_some tails heads [] r n e = absurd (n refl)
cycle_some tails heads (x ∷ s) r n e = rw e

-- a step goes the given way where its own way is that one
pub same_way : (ups rises : Bool) → beq rises ups ≡ pick ups rises (not rises)
unfolding pick
same_way true true = refl
same_way true false = refl
same_way false true = refl
same_way false false = refl

pub gather_turn : (ups : Bool) (m : ℕ) (s : List ℕ) (i : ℕ) → i < length s
    → gather ups (pick (goes ups (code_step (get_or s i 0))) (with_bit m (edge_of (code_step (get_or s i 0)))) m) (code_steps (drop (i + 1) s))
    ≡ gather ups m (code_steps (drop i s))
unfolding gather
gather_turn ups m s i h = rw (steps_drop s i h, gather)

pub gather_end : (ups : Bool) (m : ℕ) (s : List ℕ) (i : ℕ) → length s ≤ i → m ≡ gather ups m (code_steps (drop i s))
unfolding gather
gather_end ups m s i h = rw (steps_end s i h)
