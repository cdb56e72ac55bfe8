-- For each key, the sum so far and the sum of what is left make the whole; no sum is more than a value for each entry passed.
use Rattle.std.proofs.Common.{rules, ◌≡◌, ap, length}
use mathlib.Core.Logic.{⊎_elim}
use native.Mathlib.Omega.{arith}
use Rattle.text_judge.proofs.Sums.{keyed_turn, stored_most, none_left}
use Rattle.text_judge.proofs.add_keyed.Goals as goal

pub add_at-requires : goal.add_at-requires
add_at-requires c =
    let k = c.in-Some.k.now in
    omega (arith, c.loop-k.invariant.most k, c.requires.by_index k)

pub loop-k-preserved : goal.loop-k-preserved
loop-k-preserved c =
    let step = c.in-Some.ensures.steps in
    record {
      pairs = search rules;
      whole = λ v h. keyed_turn _ _ _ _ _ _ v _ c.add_at.ensures (omega arith) (rw (step.0, step.1, ← c.from.ensures) at (c.loop-k.invariant.whole v h));
      most = λ v. rw c.add_at.ensures (omega (arith, stored_most c.loop-k.sums c.in-Some.k.now c.from.result v, c.loop-k.invariant.most v, ap length step.0));
    }

pub returns : goal.returns
returns c =
    let none : length c.loop-k.k-iterator.a.rest.now ≡ 0 = ⊎_elim (λ e. e.1.0) (λ e. omega (arith, e.1.0)) c.in-None.ensures.steps in
    record {
      by_index_2 = λ v h. none_left _ _ v _ _ none (c.loop-k.invariant.whole v h);
      by_index_3 = λ v. omega (arith, c.loop-k.invariant.most v);
    }
