-- Why the loop over the positive edges that are not marked finds the fresh ones. At any time an edge is fresh where it is in the set found so far, or is still
-- to be looked at and singular. One turn looks at one edge, which joins the set where it is singular; at the end none is left.
use mathlib.Core.Path.{◌≡◌, refl, sym, ◌∙◌}
use mathlib.Core.Bool.{Bool, true, false, not}
use mathlib.Core.Logic.{◌⊎◌, inl, inr, ◌≢◌}
use Prim.Native.Nat.{ℕ, ◌<◌, ◌≤◌, ◌^◌}
use lib.Dec.{ltb}
use borrow.Author.Tests.{lt-ltb, le-ltb, eq-eqb, ne_eqb}
use Rattle.lists.specs.Choice.{pick, both, either}
use Rattle.lists.proofs.Laws.{Known, was_true, was_false, known, lt_or_ge, eq_or_ne, pick_yes, pick_no}
use Rattle.sets.specs.Sets.{none, has_bit, with_bit, without, collect}
use Rattle.sets.specs.Inner.{set_width, dropped}
use Rattle.sets.proofs.Bits.{has_past, has-none, has_with_same, has_with_other}
use Rattle.sets.proofs.Scan.{has-dropped, bits_ext}
use Rattle.sets.proofs.Apart.{has-collect, has-without}

either_on : (a : Bool) → either a true ≡ true
unfolding either
either_on true = refl
either_on false = refl

either_off : (a : Bool) → either a false ≡ a
unfolding either
either_off true = refl
either_off false = refl

both_on : (a : Bool) → both a true ≡ a
unfolding both
both_on true = refl
both_on false = refl

both_off : (a : Bool) → both a false ≡ false
unfolding both
both_off true = refl
both_off false = refl

both_turned : (a b c : Bool) → both (both a b) c ≡ both b (both a c)
unfolding both
both_turned true b c = refl
both_turned false true c = refl
both_turned false false c = refl

-- what is found, and what is left to look at
abbrev pub FoundOrLeft : (ℕ → Bool) → ℕ → ℕ → ℕ → Type 0
FoundOrLeft single m rest total = (c : ℕ) → either (has_bit m c) (both (has_bit rest c) (single c)) ≡ has_bit total c

module _ (single : ℕ → Bool) where
  -- one edge
  same : (m rest e : ℕ) → has_bit rest e ≡ true
      → either (has_bit (pick (single e) (with_bit m e) m) e) (both (has_bit (dropped rest e) e) (single e)) ≡ either (has_bit m e) (both (has_bit rest e) (single e))
  unfolding both either
  same m rest e h = go (known (single e))
    where
      gone : has_bit (dropped rest e) e ≡ false
      gone = has-dropped rest e e ∙ rw (h, eq-eqb e e refl) refl

      go : Known (single e)
          → either (has_bit (pick (single e) (with_bit m e) m) e) (both (has_bit (dropped rest e) e) (single e)) ≡ either (has_bit m e) (both (has_bit rest e) (single e))
      go (was_true t) = rw (pick_yes (single e) (with_bit m e) m t, gone, has_with_same m e, h, t) (sym (either_on (has_bit m e)))
      go (was_false t) = rw (pick_no (single e) (with_bit m e) m t, gone, h, t) refl

  other : (m rest e c : ℕ) → c ≢ e
      → either (has_bit (pick (single e) (with_bit m e) m) c) (both (has_bit (dropped rest e) c) (single c)) ≡ either (has_bit m c) (both (has_bit rest c) (single c))
  other m rest e c n = rw (kept (known (single e)), stays) refl
    where
      kept : Known (single e) → has_bit (pick (single e) (with_bit m e) m) c ≡ has_bit m c
      kept (was_true t) = rw (pick_yes (single e) (with_bit m e) m t) (has_with_other m e c n)
      kept (was_false t) = rw (pick_no (single e) (with_bit m e) m t) refl

      stays : has_bit (dropped rest e) c ≡ has_bit rest c
      stays = has-dropped rest e c ∙ rw (ne_eqb c e n) (both_on (has_bit rest c))

  pub found_turn : (m rest e total : ℕ) → has_bit rest e ≡ true → FoundOrLeft single m rest total → FoundOrLeft single (pick (single e) (with_bit m e) m) (dropped rest e) total
  found_turn m rest e total h inv c = go (eq_or_ne c e) ∙ inv c
    where
      go : (c ≡ e) ⊎ (c ≢ e)
          → either (has_bit (pick (single e) (with_bit m e) m) c) (both (has_bit (dropped rest e) c) (single c)) ≡ either (has_bit m c) (both (has_bit rest c) (single c))
      go (inl q) = rw q (same m rest e h)
      go (inr n) = other m rest e c n

  pub found_end : (m rest total : ℕ) → rest ≡ 0 → FoundOrLeft single m rest total → m ≡ total
  unfolding both
  found_end m rest total z inv = bits_ext m total (λ c. sym (either_off (has_bit m c)) ∙ sym (gone c) ∙ inv c)
    where
      gone : (c : ℕ) → either (has_bit m c) (both (has_bit rest c) (single c)) ≡ either (has_bit m c) false
      gone c = rw (z, has-none c) refl

  -- before the first
  module _ (positive marks : ℕ) (fits : positive < 2 ^ set_width) where
    pub found_none : (rest : ℕ) → rest ≡ without positive marks
        → FoundOrLeft single none rest (collect (λ c. both (not (has_bit marks c)) (both (has_bit positive c) (single c))) none 0 set_width)
    unfolding either both
    found_none rest p c =
        rw (has-none c, p, has-without positive marks fits c)
        (both_turned (has_bit positive c) (not (has_bit marks c)) (single c) ∙ sym (has-collect fresh set_width c ∙ go (lt_or_ge c set_width)))
      where
        fresh : ℕ → Bool
        fresh c = both (not (has_bit marks c)) (both (has_bit positive c) (single c))

        go : (c < set_width) ⊎ (set_width ≤ c) → both (ltb c set_width) (fresh c) ≡ fresh c
        go (inl l) = rw (lt-ltb c set_width l) refl
        go (inr l) = rw (le-ltb c set_width l, has_past positive set_width c fits l) (sym (both_off (not (has_bit marks c))))
