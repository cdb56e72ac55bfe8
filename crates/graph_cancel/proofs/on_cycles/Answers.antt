-- The set of the edges passed, and what the edges left would add, is the whole set.
use mathlib.Core.Path.{◌≡◌, refl, sym, ◌∙◌}
use lib.ListN.{get_or}
use borrow.Author.Tests.{lt-ltb, le-ltb}
use Rattle.lists.specs.Choice.{pick}
use Rattle.lists.proofs.Laws.{pick_yes, pick_no, both_true}
use Rattle.sets.specs.Sets.{has_bit, with_bit}
use Rattle.sets.proofs.Scan.{has_inside}
use Rattle.graph_cancel.proofs.Bitsets.{closes, first_false, second_false, found_none, found_turn, found_end}
use borrow.Author.Rules.{rules}
use Rattle.graph_cancel.proofs.on_cycles.Goals as goal
use Rattle.graph_cancel.proofs.on_cycles.Goals.{then-flow-gt0+then-has, else-flow-gt0, else-flow-gt0-via-then-flow-gt0+else-has, else-flow-gt0-via-else-flow-gt0}

pub loop-e-init : goal.loop-e-init
loop-e-init c = λ v. rw c.none-none.ensures (found_none _ _ _ _ v)

pub with-on-requires : goal.with-on-requires
with-on-requires c = has_inside c.at_or-bitset.result _ (search rules) (sym c.has.ensures ∙ c.if-has.true)

pub loop-e-preserved : goal.loop-e-preserved
loop-e-preserved c =
    let tails = c.args.tails.now in
    let heads = c.args.heads.now in
    let flows = c.args.flows.now in
    let bitsets = c.args.bitsets.now in
    let loop = c.loop-e in
    let tail = c.at_or-tail.ensures in
    let seen : has_bit c.at_or-bitset.result c.at_or-tail.result ≡ has_bit (get_or bitsets (get_or heads loop.e 0) 0) (get_or tails loop.e 0) =
    rw (c.at_or-bitset.ensures, c.none-none.ensures, c.at_or-head.ensures, tail) in
    let step : c.if-flow-gt0.on ≡ pick (closes tails heads flows bitsets loop.e) (with_bit loop.on c.at_or-tail.result) loop.on =
    elim c.if-flow-gt0.branch [
      | then-flow-gt0+then-has w ↦ w.on-is ∙ w.with-on.ensures ∙ pick_yes _ _ _ refl ∙ sym (pick_yes _ _ _ (both_true _ _ (lt-ltb _ _ w.if-flow-gt0.true) (sym seen ∙ sym w.has.ensures ∙ w.if-has.true)))
      | else-flow-gt0 w ↦
          w.on-is
          ∙ elim w.else-flow-gt0.branch [
            | else-flow-gt0-via-then-flow-gt0+else-has v ↦ sym (pick_no _ _ _ (second_false _ _ (sym seen ∙ sym v.has.ensures ∙ v.if-has.false)))
            | else-flow-gt0-via-else-flow-gt0 v ↦ sym (pick_no _ _ _ (first_false _ _ (le-ltb _ _ v.if-flow-gt0.false)))
          ]
    ] in
    λ v. found_turn tails heads flows bitsets loop.on _ loop.e c.loop-e-test.true (rw tail at step) v ∙ loop.invariant v

pub returns : goal.returns
returns c = λ v. sym (found_end _ _ _ _ _ _ v c.loop-e-test.false) ∙ c.loop-e.invariant v
