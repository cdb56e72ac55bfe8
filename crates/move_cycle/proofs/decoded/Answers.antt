-- A byte's step by its way and its edge, which is small enough for a code.
use mathlib.Core.Path.{ap, ◌∙◌}
use borrow.Author.Rules.{rules}
use Rattle.move_cycle.specs.Steps.{code_step}
use Rattle.move_cycle.proofs.Codes.{byte_code}
use Rattle.move_cycle.proofs.decoded.Goals as goal

pub returns : goal.returns
returns c = ap code_step c.stride.ensures ∙ byte_code _ (search rules)
