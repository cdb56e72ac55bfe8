-- For inner contracts only: the memory behind what a call gave.
use Rattle.std.specs.Prelude.{Result, Ok, Err}
use Rattle.refusals.specs.declared.Refusal.{Refusal}
use Rattle.board.specs.Whole.{Table}
use Rattle.journal.specs.Words.{whole_of}
use Rattle.boundary_parts.specs.Memory.{Memory, memory_of}

-- that of the board, with the words that are there; a refusal leaves the memory as it was
abbrev pub memory_given : Result Table Refusal → Memory → Memory
memory_given (Ok b) m = memory_of (whole_of b m.words) m.words
memory_given (Err r) m = m
