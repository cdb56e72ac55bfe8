-- What the code of one move puts together, part by part, is what the definitions name. A carry lowers one flow, so the positive edges stay as they are, but for
-- that edge where nothing is left of its flow.
use mathlib.Core.Path.{◌≡◌, refl, sym, ap, ◌∙◌}
use mathlib.Core.Bool.{Bool, true, false}
use mathlib.Core.Logic.{◌⊎◌, inl, inr, ◌≢◌}
use mathlib.Core.List.{List}
use Prim.Native.Nat.{ℕ, ◌-◌, ◌≤◌}
use native.Mathlib.Omega.{arith}
use lib.Dec.{ltb, eqb}
use lib.ListN.{length, get_or, set}
use lib.Seq.{get_or-set_same, get_or-set_other}
use borrow.Author.Tests.{lt-ltb, le-ltb, eq-eqb, ne_eqb, eqb-true, eqb-false}
use Rattle.lists.specs.Choice.{pick, both}
use Rattle.lists.proofs.Laws.{Known, was_true, was_false, known, eq_or_ne, pick_yes, pick_no}
use Rattle.sets.specs.Sets.{has_bit}
use Rattle.sets.specs.Inner.{dropped}
use Rattle.sets.proofs.Scan.{has-dropped}
use Rattle.board.specs.Limits.{max_edges}
use Rattle.move_edges.specs.Incidence.{PositiveSet}
use Rattle.board.specs.Whole.{Carry}
use Rattle.board.specs.declared.Network.{Network}
use Rattle.move_guard.specs.Moved.{unchanged}
use Rattle.move_carry.specs.Carries.{carried_in}
use Rattle.move_carry.proofs.Makes.{makes_carried}
use Rattle.solve_finish.specs.Run.{Made}
use Rattle.solve_finish.specs.Run.{all_small, positive_after, carry_step, Makes}
use Rattle.solve_finish.proofs.Staying.{fall_small}

module _ (m e k : ℕ) where
  dropped_own : k ≡ e → has_bit (dropped m e) k ≡ false
  unfolding both
  dropped_own q = has-dropped m e k ∙ rw (eq-eqb k e q) (go (has_bit m k))
    where
      go : (b : Bool) → both b false ≡ false
      go true = refl
      go false = refl

  dropped_other : k ≢ e → has_bit (dropped m e) k ≡ has_bit m k
  unfolding both
  dropped_other n = has-dropped m e k ∙ rw (ne_eqb k e n) (go (has_bit m k))
    where
      go : (b : Bool) → both b true ≡ b
      go true = refl
      go false = refl

pub positive_falls : (flows : List ℕ) (positive e rest : ℕ) → length flows ≡ max_edges → PositiveSet flows positive → rest ≤ get_or flows e 0
    → PositiveSet (set flows e rest) (positive_after positive rest e)
unfolding positive_after
positive_falls flows positive e rest long is_positive less k h = go (known (eqb rest 0)) (eq_or_ne k e)
  where
    go : Known (eqb rest 0) → (k ≡ e) ⊎ (k ≢ e) → has_bit (pick (eqb rest 0) (dropped positive e) positive) k ≡ ltb 0 (get_or (set flows e rest) k 0)
    go (was_true t) (inl q) =
        let z : rest ≡ 0 = eqb-true rest 0 t in
        let own : get_or (set flows e rest) k 0 ≡ rest = rw q (get_or-set_same flows e rest 0 (omega (arith, q, h, long))) in
        rw (pick_yes _ (dropped positive e) positive t) (dropped_own positive e k q ∙ sym (le-ltb 0 (get_or (set flows e rest) k 0) (omega (arith, own, z))))
    go (was_false t) (inl q) =
        let n : rest ≢ 0 = eqb-false rest 0 t in
        let own : get_or (set flows e rest) k 0 ≡ rest = rw q (get_or-set_same flows e rest 0 (omega (arith, q, h, long))) in
        let same : get_or flows e 0 ≡ get_or flows k 0 = ap (λ (j : ℕ). get_or flows j 0) (sym q) in
        rw (pick_no _ (dropped positive e) positive t)
        (is_positive k h ∙ lt-ltb 0 (get_or flows k 0) (omega (arith, n, same, less)) ∙ sym (lt-ltb 0 (get_or (set flows e rest) k 0) (omega (arith, own, n))))
    go (was_true t) (inr n) =
        rw (pick_yes _ (dropped positive e) positive t, get_or-set_other flows e k rest 0 n) (dropped_other positive e k n ∙ is_positive k h)
    go (was_false t) (inr n) = rw (pick_no _ (dropped positive e) positive t, get_or-set_other flows e k rest 0 n) (is_positive k h)

-- no move
pub stop_made : (answer : ℕ) (flows : List ℕ) (marks : ℕ) (places : List ℕ) (positive : ℕ) → PositiveSet flows positive → all_small flows ≡ true
    → Makes (unchanged answer flows marks places) (record { change = unchanged answer flows marks places; positive = positive; small = true })
stop_made answer flows marks places positive is_positive small = record { changes = refl; is_positive = is_positive; smalls = sym small }

-- a carry, by whether its terminal is at the source
module _ (net : Network) (flows : List ℕ) (marks : ℕ) (places : List ℕ) (positive i e p : ℕ) (hp : p ≡ get_or places i 0) where
  pub carry_stopped : (r : Made) → p ≡ net.source → Makes (unchanged 21 flows marks places) r → Makes (carry_step net flows marks places i e) r
  unfolding carry_step
  carry_stopped r home m = rw (pick_yes (eqb (get_or places i 0) net.source) (unchanged 21 flows marks places) (carried_in net flows marks places i e) (eq-eqb _ _ (sym hp ∙ home))) m

  pub carry_made : (f d t rest after : ℕ) (flows' places' : List ℕ) → p ≢ net.source → f ≡ get_or flows e 0 → d ≡ get_or net.demands i 0
      → t ≡ get_or net.tails e 0 → rest ≡ f - d → flows' ≡ set flows e rest → places' ≡ set places i t → after ≡ positive_after positive rest e
      → length flows ≡ max_edges → PositiveSet flows positive → all_small flows ≡ true
      → Makes (carry_step net flows marks places i e)
      (record {
        change = record { answer = 0; flows = flows'; marks = marks; places = places'; entry = record { step = Carry (record { terminal = i; edge = e }) } };
        positive = after;
        small = true;
      })
  unfolding carry_step
  carry_made f d t rest after flows' places' out hf hd ht hr hfs hps hw long was small = record {
    changes =
        makes_carried net flows marks places i e f d t rest flows' places' hf hd ht hr hfs hps
        ∙ sym (pick_no (eqb (get_or places i 0) net.source) _ _ (ne_eqb _ _ (λ q. out (hp ∙ q))));
    is_positive = rw (hfs, hw) (positive_falls flows positive e rest long was (omega (arith, hr, hf)));
    smalls = sym (rw hfs (fall_small flows e rest (omega (arith, hr, hf)) small));
  }
