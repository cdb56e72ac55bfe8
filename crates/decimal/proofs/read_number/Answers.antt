-- Each arm is the definition's own, by the field's length and its first byte.
use mathlib.Core.Path.{◌∙◌}
use native.Mathlib.Omega.{arith}
use Rattle.decimal.proofs.Laws.{number_none, number_long, number_one, number_led, number_many}
use Rattle.decimal.proofs.read_number.Goals as goal

pub returns-then-s-eq0 : goal.returns-then-s-eq0
returns-then-s-eq0 c = number_none _ (omega arith)

pub returns-then-s-gt7 : goal.returns-then-s-gt7
returns-then-s-gt7 c = number_long _ (λ z. omega arith) (omega arith)

pub returns-then-s-eq1 : goal.returns-then-s-eq1
returns-then-s-eq1 c = c.scan.ensures ∙ number_one _ (λ z. omega arith) (omega arith) (omega arith)

pub returns-then-s-eq48 : goal.returns-then-s-eq48
returns-then-s-eq48 c = number_led _ (λ z. omega arith) (omega arith) (λ z. omega arith) (omega arith)

pub returns : goal.returns
returns c = c.scan-2.ensures ∙ number_many _ (λ z. omega arith) (omega arith) (λ z. omega arith) (λ z. omega arith)
