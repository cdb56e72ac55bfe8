-- A session behind pieces that is served another is behind one piece more.
use Rattle.descriptors.proofs.PrintedPieces.{behind-none, behind_more}
use Rattle.play.proofs.all_pieces.Goals as goal

pub loop-init : goal.loop-init
loop-init c = behind-none _

pub loop-preserved : goal.loop-preserved
loop-preserved c = behind_more _ _ _ c.loop.invariant c.next_piece-served.ensures

pub returns-then-not-served : goal.returns-then-not-served
returns-then-not-served c = behind_more _ _ _ c.loop.invariant c.next_piece-served.ensures
