-- What is left of the search is the whole search, as long as no terminal had an open carry: at the start those that it passes over have none.
use mathlib.Core.Path.{◌≡◌, sym, ◌∙◌}
use mathlib.Core.List.{[]}
use Rattle.std.specs.Prelude.{Option}
use Prim.Native.Nat.{ℕ, ◌<◌, ◌^◌}
use native.Mathlib.Omega.{arith}
use borrow.Author.Rules.{rules}
use Rattle.lists.proofs.Laws.{lowest_hit, lowest_miss, lowest_end}
use Rattle.sets.specs.Inner.{set_width}
use Rattle.board.specs.declared.Network.{Network}
use Rattle.move_carry.specs.Frames.{net_of}
use Rattle.solve_carry.proofs.Finds.{Finds, finds_edge, found_carry, found_no_carry}
use Rattle.solve_carry.proofs.Resumed.{resumed}
use Rattle.solve_carry.proofs.open_carry.Lts as lts
use Rattle.solve_carry.proofs.open_carry.Tie as tie
use Rattle.solve_carry.proofs.open_carry.Reads as reads
use Rattle.solve_carry.proofs.open_carry.Goals as goal

abbrev Start : Type 0
Start = lts.Start tie.the-claims reads.Pre reads.Post goal.the-invariant-loop-i goal.the-decreases-loop-i tie.handed_clauses

abbrev net : Start → Network
net s = net_of s.args.frame [] s.args.heads.now s.args.demands.now

-- what owning the frame tells of its set
small : (s : Start) → s.args.frame.positive < 2 ^ set_width
small s = search (rules, s.well_formed.0.1.1.1.1.1.1.1.0)

-- what the search has found for terminal i
abbrev Looked : Type 0
Looked = lts.After-chosen tie.the-claims reads.Pre reads.Post goal.the-invariant-loop-i goal.the-decreases-loop-i tie.handed_clauses

abbrev looping : Looked → lts.At-loop tie.the-claims reads.Pre reads.Post goal.the-invariant-loop-i goal.the-decreases-loop-i tie.handed_clauses
looping c = c.before.before.before.before.before

abbrev start : lts.At-loop tie.the-claims reads.Pre reads.Post goal.the-invariant-loop-i goal.the-decreases-loop-i tie.handed_clauses → Start
start c = c.before.before.before.before.before.before

found : (c : Looked) (r : Option ℕ) → c.chosen.result ≡ r
    → Finds (net (start (looping c))) (start (looping c)).args.entering.now (start (looping c)).args.flows.now (start (looping c)).args.frame.positive
    (start (looping c)).args.frame.marks (start (looping c)).args.places.now (start (looping c)).requires.searched (small (start (looping c))) c.loop-i.i c.loop-i-test.true r
found c r h =
    finds_edge _ _ _ _ _ _ (start (looping c)).requires.searched (small (start (looping c))) _ c.loop-i-test.true _ _ _ _ c.at_or-place.ensures c.at_or-demand.ensures
    c.touching-into.ensures (sym h ∙ c.chosen.ensures)

pub loop-i-init : goal.loop-i-init
loop-i-init c =
    let s = c.before.before.before.before.before.before in
    resumed (net s) _ _ _ _ c.requires.resumes

pub returns-in-Some : goal.returns-in-Some
returns-in-Some c =
    let looked = c.before.before in
    let here = found looked _ c.in-Some.is in
    let below = c.loop-i-test.true in
    let s = start (looping looked) in
    let all = found_carry (net s) s.args.flows.now s.args.frame.marks s.args.places.now _ (sym (lowest_hit _ _ _ below here.1) ∙ c.loop-i.invariant) _ below here.2 in record {
      found = all.0;
      some = all.1;
    }

pub loop-i-preserved : goal.loop-i-preserved
loop-i-preserved c =
    lowest_miss _ _ _ c.loop-i-test.true (found c.before.before _ c.in_default.is) ∙ c.loop-i.invariant

pub returns : goal.returns
returns c =
    let s = start c.before.before in
    let all = found_no_carry (net s) s.args.flows.now s.args.frame.marks s.args.places.now _ (sym (lowest_end _ _ _ c.loop-i-test.false) ∙ c.loop-i.invariant) c.loop-i-test.false (omega (arith, c.loop-i.auto.i-end, c.requires.resumes.inside)) in record {
      found = all.0;
      some = all.1;
    }
