-- `i` steps have been passed, and what is left to pass is the rest of the search.
use mathlib.Core.Path.{◌≡◌, sym, ◌∙◌}
use native.Mathlib.Nat.{zero-add}
use native.Mathlib.Omega.{arith}
use borrow.Author.Rules.{rules}
use Rattle.solve_walk.specs.Walk.{first_met}
use Rattle.solve_walk.proofs.Loops.{held, met_here, met_later, met_nowhere}
use Rattle.solve_walk.proofs.first_met.Goals as goal

pub loop-i-init : goal.loop-i-init
loop-i-init c = zero-add _

pub returns-then-start_of-v-clause-value : goal.returns-then-start_of-v-clause-value
unfolding first_met
returns-then-start_of-v-clause-value c =
    let fits = held c.args.way.steps _ (search rules) c.requires in
    met_here _ _ _ _ _ _ _ fits c.loop-i.invariant c.loop-i-test.true (sym c.start_of.ensures ∙ c.if-start_of-v.true)

pub loop-i-preserved : goal.loop-i-preserved
loop-i-preserved c =
    let fits = held c.args.way.steps _ (search rules) c.requires in
    met_later _ _ _ _ _ _ _ fits c.loop-i.invariant c.loop-i-test.true (λ e. c.if-start_of-v.false (c.start_of.ensures ∙ e))

pub returns-clause-value : goal.returns-clause-value
unfolding first_met
returns-clause-value c =
    let fits = held c.args.way.steps _ (search rules) c.requires in
    let all : c.args.way.count ≡ c.loop-i.i = omega arith in
    all ∙ met_nowhere _ _ _ _ _ _ _ fits c.loop-i.invariant c.loop-i-test.false
