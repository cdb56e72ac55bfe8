-- The tests of a carry in their order, each with the number that it refuses with, by what the code reads.
use mathlib.Core.Path.{◌≡◌, sym, ◌∙◌}
use mathlib.Core.Bool.{Bool, true, false}
use mathlib.Core.List.{List}
use mathlib.Core.Logic.{◌≢◌}
use Prim.Native.Nat.{ℕ}
use lib.ListN.{get_or}
use borrow.Author.Tests.{eq-eqb, ne_eqb}
use Rattle.lists.specs.Choice.{pick}
use Rattle.board.specs.declared.Network.{Network}
use Rattle.sets.specs.Sets.{has_bit}
use Rattle.move_carry.specs.Opens.{flow_fits, is_home_in, enters_in, fits_in}
use Rattle.move_carry.specs.Carries.{on_board_in, carry_refusal_in}

module _ (play : Bool) (net : Network) (flows : List ℕ) (marks : ℕ) (places : List ℕ) (i e : ℕ) where
  abbrev number : ℕ
  number = carry_refusal_in play net flows marks places i e

  pub fits_read : (mark : Bool) (flow demand : ℕ) → mark ≡ has_bit marks e → flow ≡ get_or flows e 0 → demand ≡ get_or net.demands i 0
      → flow_fits mark flow demand ≡ fits_in net flows marks places i e
  fits_read mark flow demand hm hf hd = rw (hm, hf, hd)

  pub refused_20 : play ≡ false → 20 ≡ number
  unfolding carry_refusal_in pick
  refused_20 h = rw h

  module _ (p : play ≡ true) where
    pub refused_6 : on_board_in net i e ≡ false → 6 ≡ number
    unfolding carry_refusal_in pick
    refused_6 h = rw (p, h)

    module _ (o : on_board_in net i e ≡ true) (place : ℕ) (at : place ≡ get_or places i 0) where
      pub refused_21 : place ≡ net.source → 21 ≡ number
      unfolding carry_refusal_in is_home_in pick
      refused_21 h = rw (p, o, eq-eqb (get_or places i 0) net.source (sym at ∙ h))

      module _ (away : place ≢ net.source) (head : ℕ) (to : head ≡ get_or net.heads e 0) where
        home : is_home_in net.source places i ≡ false
        unfolding is_home_in
        home = ne_eqb _ _ (λ q. away (at ∙ q))

        pub refused_22 : head ≢ place → 22 ≡ number
        unfolding carry_refusal_in enters_in pick
        refused_22 h = rw (p, o, home, ne_eqb (get_or net.heads e 0) (get_or places i 0) (λ q. h (to ∙ q ∙ sym at)))

        module _ (here : head ≡ place) where
          entering : enters_in net places i e ≡ true
          unfolding enters_in
          entering = eq-eqb _ _ (sym to ∙ here ∙ at)

          pub refused_23 : fits_in net flows marks places i e ≡ false → 23 ≡ number
          unfolding carry_refusal_in pick
          refused_23 h = rw (p, o, home, entering, h)

          pub accepted : fits_in net flows marks places i e ≡ true → 0 ≡ number
          unfolding carry_refusal_in pick
          accepted h = rw (p, o, home, entering, h)
