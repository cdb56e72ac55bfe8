-- What the code puts together, number by number, is what the definition of an accepted carry names.
use mathlib.Core.Path.{◌≡◌}
use mathlib.Core.List.{List}
use Prim.Native.Nat.{ℕ, ◌-◌}
use lib.ListN.{get_or, set}
use Rattle.board.specs.declared.Network.{Network}
use Rattle.move_carry.specs.Carries.{carry_entry, carried_in}

module _ (net : Network) (flows : List ℕ) (marks : ℕ) (places : List ℕ) (i e f d t rest : ℕ) (flows' places' : List ℕ) where
  pub makes_carried : f ≡ get_or flows e 0 → d ≡ get_or net.demands i 0 → t ≡ get_or net.tails e 0 → rest ≡ f - d → flows' ≡ set flows e rest → places' ≡ set places i t
      → record { answer = 0; flows = flows'; marks = marks; places = places'; entry = carry_entry i e } ≡ carried_in net flows marks places i e
  unfolding carried_in
  makes_carried hf hd ht hr hfs hps = rw (hfs, hps, hr, hf, hd, ht)
