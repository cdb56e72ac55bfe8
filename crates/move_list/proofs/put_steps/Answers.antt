-- The steps that are left, into the buffer as it is now, give the buffer with all of them.
use mathlib.Core.Path.{◌≡◌, ap, ◌∙◌}
use Prim.Native.Nat.{◌≤◌, ◌+◌, ◌<◌}
use lib.ListN.{length, set}
use native.Mathlib.Omega.{arith}
use Rattle.board.specs.Limits.{max_edges}
use Rattle.lists.proofs.Stored.{stored_end}
use Rattle.move_list.proofs.Coded.{sets_start, sets_turn}
use borrow.Author.Rules.{rules}
use Rattle.move_list.proofs.put_steps.Goals as goal

pub loop-i-init : goal.loop-i-init
loop-i-init c = sets_start c.args.buf.now c.args.steps c.args.k

pub loop-i-preserved : goal.loop-i-preserved
loop-i-preserved c =
    let at_loop = c.loop-i in
    let inside : at_loop.i < length c.args.steps = search (rules, c.well_formed, c.loop-i-test.true) in
    sets_turn at_loop.buf c.args.steps c.args.k at_loop.i 0 _ inside (c.put.ensures ∙ ap (set at_loop.buf (c.args.k + at_loop.i)) c.from.ensures) ∙ at_loop.invariant

pub returns : goal.returns
returns c =
    let long : length c.args.steps ≡ max_edges = search (rules, c.well_formed) in
    let over : length c.args.steps ≤ c.loop-i.i = omega (arith, c.loop-i-test.false) in
    stored_end c.loop-i.buf c.args.steps (c.args.k + c.loop-i.i) c.loop-i.i over ∙ c.loop-i.invariant
