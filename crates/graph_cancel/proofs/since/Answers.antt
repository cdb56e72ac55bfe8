-- While no edge passed leaves v, the edges passed and the count over those left make the count over the whole walk.
use mathlib.Core.Path.{◌≡◌, sym, ◌∙◌}
use lib.ListN.{length}
use Rattle.graph_cancel.proofs.Loops.{since_hit, since_miss, since_end}
use native.Mathlib.Omega.{arith}
use Rattle.graph_cancel.proofs.since.Goals as goal

pub returns-then-at_or-v : goal.returns-then-at_or-v
returns-then-at_or-v c = record {
  value = since_hit _ _ _ _ _ c.loop-i.invariant c.loop-i-test.true (sym c.at_or.ensures ∙ c.if-at_or-v.true);
  upper_bound = omega arith;
}

pub loop-i-preserved : goal.loop-i-preserved
loop-i-preserved c =
    let at = c.at_or in
    let other = c.if-at_or-v in
    since_miss _ _ _ _ _ c.loop-i.invariant c.loop-i-test.true (λ e. other.false (at.ensures ∙ e))

pub returns-clause-value : goal.returns-clause-value
returns-clause-value c =
    let all : length c.args.walk.now ≡ c.loop-i.i = omega arith in
    all ∙ since_end _ _ _ _ _ c.loop-i.invariant c.loop-i-test.false
