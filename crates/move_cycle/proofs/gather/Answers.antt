-- What is left to gather, into the set gathered so far, gives the whole set.
use mathlib.Core.Path.{◌∙◌}
use Rattle.move_cycle.proofs.Codes.{same_way, gather_turn, gather_end}
use Rattle.move_cycle.proofs.gather.Goals as goal

pub loop-s-init : goal.loop-s-init
loop-s-init c = rw c.none-m.ensures

pub with-m-requires : goal.with-m-requires
with-m-requires c = rw c.edge_of.ensures (c.requires _ c.loop-s-test.true)

pub loop-s-preserved : goal.loop-s-preserved
loop-s-preserved c = rw (c.with-m.ensures, c.edge_of.ensures, same_way, c.is_up.ensures) (gather_turn _ _ _ _ c.loop-s-test.true) ∙ c.loop-s.invariant

pub returns : goal.returns
returns c = gather_end _ _ _ _ c.loop-s-test.false ∙ c.loop-s.invariant
