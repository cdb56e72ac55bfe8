-- The loop plays a run on the board that the table and the words stand for, and stores its moves as long as their places are blank (proofs/Storing.antt). The
-- search for an open carry goes on where it may (proofs/Resuming.antt).
use Prim.Native.Nat.{◌-◌}
use Rattle.board.specs.Limits.{max_moves}
use Rattle.move_edges.specs.Incidence.{PositiveSet}
use Rattle.solve_carry.specs.Inner.{Resumes}
use Rattle.solve_finish.proofs.Storing.{RunStored}
use Rattle.solve_finish.proofs.play_out.Given as goal

abbrev pub invariant-loop : goal.invariant-loop
invariant-loop l = record {
  stored : RunStored l.fn.board l.initial.journal l.journal l.flows l.marks l.places l.moves l.filled (max_moves - l.counter);
  is_positive : PositiveSet l.flows l.positive;
  resumes : Resumes l.fn.board.network l.flows l.marks l.places l.resume;
}
