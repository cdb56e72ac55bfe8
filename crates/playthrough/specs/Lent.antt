-- A whole play with the journal lent.
use Rattle.std.specs.Prelude.{List, ℕ}
use Rattle.refusals.specs.Refusals.{answer_of}
use Rattle.journal.specs.Words.{whole_of}
use Rattle.solve_finish.specs.Lent.{ended_of}
use Rattle.playthrough.specs.declared.Outcome as code
use Rattle.playthrough.specs.Through.{Outcome}

-- the code's `Outcome`: its boards are without the journal
abbrev pub Gone : Type 0
Gone = code.Outcome

-- what it gave, by the words at its end: a finish keeps the places of the moves that stood, so they are those of the board before it, too
abbrev pub outcome_of : Gone → List (List ℕ) → Outcome
outcome_of r words = record { loading = answer_of r.loading; board = whole_of r.board words; finish = ended_of r.board r.finish words }
