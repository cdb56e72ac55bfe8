-- What is stored so far, with the bytes from the next step on, is the whole row.
use Rattle.boundary_parts.proofs.Loops.{filling_first, filling_more, filling_end}
use Rattle.boundary_parts.proofs.step_bytes.Goals as goal

pub loop-i-init : goal.loop-i-init
loop-i-init c = filling_first _ _

pub loop-i-preserved : goal.loop-i-preserved
loop-i-preserved c = filling_more _ _ c.loop-i.bytes _ _ c.loop-i-test.true c.encoded.ensures c.loop-i.invariant

pub returns : goal.returns
returns c = filling_end _ _ _ _ c.loop-i-test.false c.loop-i.invariant
