-- A zero edge and one that leads outside the set change no set; any other joins that of its tail and no other.
use mathlib.Core.Path.{refl, sym, ap, ◌∙◌}
use mathlib.Core.Bool.{false}
use Prim.Native.Nat.{ℕ}
use lib.ListN.{get_or}
use Rattle.lists.proofs.Laws.{pick_yes}
use Rattle.graph.proofs.Onwards.{left_zero, left_outside, left}
use Rattle.graph.proofs.leave.Goals as goal

pub returns-then-at_or-eq0 : goal.returns-then-at_or-eq0
returns-then-at_or-eq0 c = λ v h. left_zero _ _ _ _ _ c.args.edges.now (sym c.at_or.ensures ∙ c.if-at_or-eq0.true) v

pub returns-then-not-at_or : goal.returns-then-not-at_or
returns-then-not-at_or c =
    let args = c.args in
    λ v h. left_outside args.from.now args.to.now args.flows.now args.seen.now args.e args.edges.now
    (ap (λ (u : ℕ). get_or args.seen.now u false) (sym c.at_or-head.ensures) ∙ sym c.at_or-2.ensures ∙ c.if-not-at_or.true) v

pub returns : goal.returns
returns c =
    let args = c.args in
    let positive = c.if-at_or-eq0 in
    let flow = c.at_or in
    left args.from.now args.to.now args.flows.now args.seen.now args.e args.edges.now _
    (λ z. positive.false (flow.ensures ∙ z))
    (ap (λ (u : ℕ). get_or args.seen.now u false) (sym c.at_or-head.ensures) ∙ sym c.at_or-2.ensures ∙ c.if-not-at_or.false)
    (c.put.ensures ∙ rw (c.with.ensures ∙ pick_yes _ _ _ refl, c.at_or-old.ensures, c.at_or-tail.ensures, c.none.ensures))
