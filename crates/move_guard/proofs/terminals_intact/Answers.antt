-- What is left of the test is the whole test, as long as no place has failed; past the terminals all numbers are 0.
use mathlib.Core.Path.{◌≡◌, sym, ◌∙◌}
use native.Mathlib.Nat.{sub-zero}
use native.Mathlib.Omega.{arith}
use Rattle.lists.proofs.Laws.{all_hit, all_miss, all_end}
use Rattle.move_guard.proofs.Past.{past_terminal}
use Rattle.move_guard.proofs.terminals_intact.Goals as goal

pub loop-j-init : goal.loop-j-init
loop-j-init c = rw sub-zero

pub returns-then-not-terminal_intact : goal.returns-then-not-terminal_intact
returns-then-not-terminal_intact c = all_miss _ _ _ (omega arith) (sym c.terminal_intact.ensures ∙ c.if-not-terminal_intact.true) ∙ c.loop-j.invariant

pub loop-j-preserved : goal.loop-j-preserved
loop-j-preserved c = all_hit _ _ _ (omega arith) (sym c.terminal_intact.ensures ∙ c.if-not-terminal_intact.false) ∙ c.loop-j.invariant

pub loop-past-init : goal.loop-past-init
loop-past-init c =
    let same : c.loop-j.j ≡ c.args.net.now.terminals = omega arith in
    rw same at c.loop-j.invariant

pub returns-then-not-terminal_blank : goal.returns-then-not-terminal_blank
returns-then-not-terminal_blank c = all_miss _ _ _ (omega arith) (past_terminal _ _ _ _ _ _ (omega arith) ∙ sym c.terminal_blank.ensures ∙ c.if-not-terminal_blank.true) ∙ c.loop-past.invariant

pub loop-past-preserved : goal.loop-past-preserved
loop-past-preserved c = all_hit _ _ _ (omega arith) (past_terminal _ _ _ _ _ _ (omega arith) ∙ sym c.terminal_blank.ensures ∙ c.if-not-terminal_blank.false) ∙ c.loop-past.invariant

pub returns : goal.returns
returns c = all_end _ _ _ (omega arith) ∙ c.loop-past.invariant
