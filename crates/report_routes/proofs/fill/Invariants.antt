-- The rows and the counts are those of the moves that the walk has passed, from the last standing one on; at last it has passed all of them. The moves are read from
-- the words, whose standing ones are those of the journal.
use Rattle.journal.specs.Words.{entries_of}
use Rattle.report_routes.proofs.Filling.{Filled}
use Rattle.report_routes.proofs.fill.Given as goal

abbrev pub invariant-loop-at : goal.invariant-loop-at
invariant-loop-at l = Filled l.moves (entries_of l.journal) l.at l.rows l.counts
