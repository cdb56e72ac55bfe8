-- Why a look at the changed edges alone is enough after a turn: the positive edges were known and the flows small before it, and an edge of neither way keeps its
-- flow. One edge more is looked at; at the end none is left.
use mathlib.Core.Path.{◌≡◌, refl, sym, ap, ◌∙◌}
use mathlib.Core.Bool.{Bool, true, false, not, true≢false}
use mathlib.Core.List.{List}
use mathlib.Core.Logic.{◌⊎◌, inl, inr, ◌≢◌}
use Prim.Native.Nat.{ℕ, ◌<◌, ◌^◌}
use native.Mathlib.Omega.{arith}
use lib.Dec.{ltb, leb, eqb}
use lib.ListN.{length, get_or}
use borrow.Author.Tests.{eq-eqb, ne_eqb}
use Rattle.lists.specs.Choice.{pick, both, either}
use Rattle.lists.proofs.Laws.{Known, was_true, was_false, known, eq_or_ne, pick_yes, pick_no, both_left, both_right, either_left, either_right, all_from, all_zero}
use Rattle.sets.specs.Sets.{has_bit, with_bit, joined}
use Rattle.sets.specs.Inner.{set_width, dropped}
use Rattle.sets.proofs.Bits.{has-none, has-joined, has_with_same, has_with_other}
use Rattle.sets.proofs.Scan.{has-dropped, has_inside, dropped_less}
use Rattle.board.specs.Limits.{max_edges, max_total}
use Rattle.board.specs.declared.Network.{Network}
use Rattle.graph_flows.specs.Trails.{Step}
use Rattle.move_guard.specs.Moved.{Change}
use Rattle.move_edges.specs.Incidence.{PositiveSet}
use Rattle.move_cycle.specs.Shifts.{shifted}
use Rattle.move_cycle.proofs.Shifting.{shifted_at_lem, shifted_other}
use Rattle.move_turn.specs.Turns.{turn_refusal_in, turned_in, turn_change}
use Rattle.move_turn.proofs.Changes.{change_accepted, change_refused}
use Rattle.solve_finish.specs.Run.{all_small, shifted_edges, RightBut}

module _ (flows : List ℕ) where
  abbrev is_small : ℕ → Bool
  is_small e = leb (get_or flows e 0) max_total

  -- the edges of `rest` are still to be looked at
  pub record LookedBut (rest positive : ℕ) (small : Bool) : Type 0 where
    pub fits : rest < 2 ^ set_width
    pub positives : (e : ℕ) → e < max_edges → has_bit rest e ≡ false → has_bit positive e ≡ ltb 0 (get_or flows e 0)
    pub smalls : small ≡ true → (e : ℕ) → e < max_edges → has_bit rest e ≡ false → is_small e ≡ true
    pub large : small ≡ false → all_small flows ≡ false

  pub look_all : (rest positive : ℕ) → rest < 2 ^ set_width → RightBut flows positive rest → LookedBut rest positive true
  look_all rest positive fits r = record { fits = fits; positives = r.positives; smalls = λ t. r.smalls; large = λ t. absurd (true≢false t) }

  -- a set without e has the others
  dropped_other : (m e k : ℕ) → k ≢ e → has_bit (dropped m e) k ≡ has_bit m k
  unfolding both
  dropped_other m e k n = has-dropped m e k ∙ go (known (has_bit m k))
    where
      go : Known (has_bit m k) → both (has_bit m k) (not (eqb k e)) ≡ has_bit m k
      go (was_true t) = rw (t, ne_eqb k e n)
      go (was_false t) = rw t

  dropped_same : (m e : ℕ) → has_bit (dropped m e) e ≡ false
  unfolding both
  dropped_same m e = has-dropped m e e ∙ go (known (has_bit m e))
    where
      go : Known (has_bit m e) → both (has_bit m e) (not (eqb e e)) ≡ false
      go (was_true t) = rw (t, eq-eqb e e refl)
      go (was_false t) = rw t

  not_small : (e : ℕ) → e < max_edges → is_small e ≡ false → all_small flows ≡ false
  unfolding all_small
  not_small e l f = go (known (all_small flows))
    where
      go : Known (all_small flows) → all_small flows ≡ false
      go (was_true t) = absurd (true≢false (sym (all_from is_small max_edges e t l) ∙ f))
      go (was_false t) = t

  module _ (rest positive e f : ℕ) (small : Bool) (has : has_bit rest e ≡ true) (q : f ≡ get_or flows e 0) (b : LookedBut rest positive small) where
    abbrev after : ℕ
    after = pick (ltb 0 f) (with_bit (dropped positive e) e) (dropped positive e)

    after_same : has_bit after e ≡ ltb 0 f
    after_same = go (known (ltb 0 f))
      where
        go : Known (ltb 0 f) → has_bit after e ≡ ltb 0 f
        go (was_true t) = ap (λ (m : ℕ). has_bit m e) (pick_yes (ltb 0 f) _ _ t) ∙ has_with_same (dropped positive e) e ∙ sym t
        go (was_false t) = ap (λ (m : ℕ). has_bit m e) (pick_no (ltb 0 f) _ _ t) ∙ dropped_same positive e ∙ sym t

    after_other : (k : ℕ) → k ≢ e → has_bit after k ≡ has_bit positive k
    after_other k n = go (known (ltb 0 f))
      where
        go : Known (ltb 0 f) → has_bit after k ≡ has_bit positive k
        go (was_true t) =
            ap (λ (m : ℕ). has_bit m k) (pick_yes (ltb 0 f) _ _ t) ∙ has_with_other (dropped positive e) e k n ∙ dropped_other positive e k n
        go (was_false t) = ap (λ (m : ℕ). has_bit m k) (pick_no (ltb 0 f) _ _ t) ∙ dropped_other positive e k n

    pub look_one : LookedBut (dropped rest e) after (both small (leb f max_total))
    unfolding both
    look_one = record {
      fits = omega (arith, dropped_less rest e has, b.fits);
      positives = λ k l t. right k l t (eq_or_ne k e);
      smalls = λ s k l t. fair s k l t (eq_or_ne k e);
      large = λ s. wide (known small) s;
    }
      where
        right : (k : ℕ) → k < max_edges → has_bit (dropped rest e) k ≡ false → (k ≡ e) ⊎ (k ≢ e) → has_bit after k ≡ ltb 0 (get_or flows k 0)
        right k l t (inl p) = rw p (after_same ∙ ap (ltb 0) q)
        right k l t (inr n) = after_other k n ∙ b.positives k l (sym (dropped_other rest e k n) ∙ t)

        fair : both small (leb f max_total) ≡ true → (k : ℕ) → k < max_edges → has_bit (dropped rest e) k ≡ false → (k ≡ e) ⊎ (k ≢ e) → is_small k ≡ true
        fair s k l t (inl p) = rw (p, ← q) (both_right small _ s)
        fair s k l t (inr n) = b.smalls (both_left small _ s) k l (sym (dropped_other rest e k n) ∙ t)

        wide : Known small → both small (leb f max_total) ≡ false → all_small flows ≡ false
        wide (was_true t) s = not_small e (has_inside rest e b.fits has) (rw (← q) (rw t at s))
        wide (was_false t) s = b.large t

  pub look_none : (rest positive : ℕ) (small : Bool) → rest ≡ 0 → LookedBut rest positive small → PositiveSet flows positive × (small ≡ all_small flows)
  unfolding all_small
  look_none rest positive small z b = (λ e l. b.positives e l (none e), go (known small))
    where
      none : (e : ℕ) → has_bit rest e ≡ false
      none e = ap (λ (m : ℕ). has_bit m e) z ∙ has-none e

      go : Known small → small ≡ all_small flows
      go (was_true t) = t ∙ sym (all_zero is_small max_edges (λ e l. b.smalls t e l (none e)))
      go (was_false t) = t ∙ sym (b.large t)

-- after a turn the positive edges of before are right but for the edges that the turn shifts
module _ (net : Network) (flows : List ℕ) (marks : ℕ) (places : List ℕ) (positive : ℕ) (w : List Step)
    (is_positive : PositiveSet flows positive) (small : all_small flows ≡ true) (long : length flows ≡ max_edges) where
  unshifted : (x d u e : ℕ) → e < max_edges → has_bit (joined d u) e ≡ false → get_or (shifted x d u flows) e 0 ≡ get_or flows e 0
  unshifted x d u e l t =
      let n : either (has_bit d e) (has_bit u e) ≡ false = sym (has-joined d u e) ∙ t in
      shifted_at_lem x d u flows e (omega (arith, l, long)) ∙ shifted_other x d u e (get_or flows e 0) (either_left _ _ n) (either_right _ _ n)

  small_at : (e : ℕ) → e < max_edges → leb (get_or flows e 0) max_total ≡ true
  unfolding all_small
  small_at e l = all_from (λ k. leb (get_or flows k 0) max_total) max_edges e small l

  abbrev Right : Change → Type 0
  Right c = RightBut c.flows positive (shifted_edges c.entry.step)

  right : Right (turn_change true false net flows marks places w)
  unfolding turned_in shifted_edges
  right = go (eq_or_ne (turn_refusal_in true false net flows w) 0)
    where
      go : (turn_refusal_in true false net flows w ≡ 0) ⊎ (turn_refusal_in true false net flows w ≢ 0) → Right (turn_change true false net flows marks places w)
      go (inl z) =
          rw (change_accepted true false net flows marks places w z)
          (record {
            positives = λ e l t. is_positive e l ∙ ap (ltb 0) (sym (unshifted _ _ _ e l t));
            smalls = λ e l t. rw (unshifted _ _ _ e l t) (small_at e l);
          })
      go (inr s) =
          rw (change_refused true false net flows marks places w s)
          (record { positives = λ e l t. is_positive e l; smalls = λ e l t. small_at e l })

  pub turn_right : (c : Change) → c ≡ turn_change true false net flows marks places w → Right c
  turn_right c q = rw q right
