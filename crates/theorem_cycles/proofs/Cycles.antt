-- The facts about every lawful cycle, each by its theorem.
use Rattle.theorem_cycles.specs.Cycles.{AboutCycles}
use Rattle.theorem_cycles.proofs.Turned.{turned_small, turned_invariant}
use Rattle.theorem_cycles.proofs.TurnBack.{turned_back}
use Rattle.theorem_cycles.proofs.Potential.{potential_first}
use Rattle.theorem_cycles.proofs.Gains.{turn_amount, turn_attained, turn_gains, turned_falls}
use Rattle.theorem_cycles.proofs.Walks.{found}
use Rattle.theorem_cycles.proofs.Chosen.{walk_turnable}

pub about_cycles : AboutCycles
about_cycles = record {
  turn_amount = turn_amount;
  turn_attained = turn_attained;
  turned_invariant = turned_invariant;
  turned_small = turned_small;
  turn_gains = turn_gains;
  turned_falls = turned_falls;
  potential_first = potential_first;
  turned_back = turned_back;
  found = found;
  walk_turnable = λ b falls rises inv shut i on away choices. walk_turnable b inv falls rises shut i on away choices;
}
