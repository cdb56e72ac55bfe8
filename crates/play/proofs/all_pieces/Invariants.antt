-- A session behind pieces that is served another is behind one piece more.
use Rattle.play_session.specs.Lent.{session_of}
use Rattle.descriptors.specs.Inner.{BehindPieces}
use Rattle.play.proofs.all_pieces.Given as goal

abbrev pub invariant-loop : goal.invariant-loop
invariant-loop l = BehindPieces (session_of l.initial.current l.initial.journal) (session_of l.current l.journal)
