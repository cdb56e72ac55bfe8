-- The parts of the move are stored one after the other.
use native.Mathlib.Omega.{arith}
use mathlib.Core.Path.{ap, ◌∙◌}
use lib.Seq.{sets}
use Rattle.solve_next.specs.Advices.{Advice}
use Rattle.move_list.specs.Calls.{advice_code}
use Rattle.move_list.specs.Told.{numbered}
use Rattle.move_list.proofs.Coded.{advice_stored}
use Rattle.move_list.proofs.put_advice.Goals as goal

pub put_steps-requires : goal.put_steps-requires
put_steps-requires c =
    omega (arith, c.requires)

pub returns : goal.returns
returns c =
    advice_stored c.args.buf.now c.args.k (numbered c.from-numbers.result) _ _ _ _ _ c.put.ensures c.put-2.ensures c.put-3.ensures c.put-4.ensures
    c.put_steps.ensures ∙ ap (λ (a : Advice). sets c.args.buf.now c.args.k (advice_code a)) c.from-numbers.ensures
