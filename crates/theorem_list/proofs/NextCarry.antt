-- The carry that the solver makes next keeps the rules. Where some carry is open, the lowest terminal that has one has an open carry over the chosen edge. An open
-- carry's edge has what the terminal needs, which is above 0, so it does not enter the source.
use mathlib.Core.Path.{◌≡◌, ◌∙◌}
use mathlib.Core.Bool.{true}
use Prim.Native.Nat.{ℕ, ◌<◌}
use native.Mathlib.Omega.{arith}
use Rattle.board.specs.Whole.{Board}
use Rattle.move_carry.specs.Opens.{is_open, open_terminal, some_open}
use Rattle.theorem_cycles.specs.Invariant.{Invariant}
use Rattle.theorem_cycles.specs.Allowed.{Carriable}
use Rattle.theorem_cycles.proofs.Openings.{open_facts}
use Rattle.theorem_cycles.proofs.Degrees.{never_enters}
use Rattle.solve_carry.specs.Search.{chosen_edge}
use Rattle.solve_carry.proofs.Resumed.{chosen}

-- an open carry keeps the rules
open_carriable : (b : Board) → Invariant b → (i e : ℕ) → i < b.network.terminals → e < b.network.edges → is_open b i e ≡ true → Carriable b i e
open_carriable b inv i e g h t =
    let f = open_facts b i e t in
    record {
      terminal = g;
      edge = h;
      away = λ q. never_enters b inv e (omega (arith, f.1, inv.sound.demand i g)) (f.0 ∙ q);
      enters = f.0;
      covers = f.1;
      exact = f.2;
    }

pub chosen_carriable : (b : Board) → Invariant b → some_open b ≡ true → Carriable b (open_terminal b) (chosen_edge b (open_terminal b))
chosen_carriable b inv h = let c = chosen b.network b.flows b.marks b.places h in open_carriable b inv (open_terminal b) (chosen_edge b (open_terminal b)) c.terminal c.edge c.opens
