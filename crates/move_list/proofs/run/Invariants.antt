-- The calls that are left, from the board and the words as they are now, end in the same board and words as all of them; their answers and hints fill the buffers in the
-- same way.
use Rattle.journal.specs.Words.{whole_of}
use Rattle.move_list.proofs.Going.{Round}
use Rattle.move_list.proofs.run.Given as goal

abbrev pub invariant-loop-code : goal.invariant-loop-code
invariant-loop-code l =
    Round l.steps l.codes l.whole l.initial.buf l.initial.hints (whole_of l.initial.b l.initial.journal) l.initial.journal l.buf l.hints (whole_of l.b l.journal) l.journal l.code-index l.k l.j
