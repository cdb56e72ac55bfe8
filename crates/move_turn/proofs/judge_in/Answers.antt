-- Each refusal has passed the tests before its own; the test of a cycle may be run since every step is then on the board.
use mathlib.Core.Path.{◌≡◌, sym, ◌∙◌}
use mathlib.Core.Bool.{Bool, true}
use mathlib.Core.List.{List, []}
use Prim.Native.Nat.{◌<◌, ◌^◌}
use Rattle.sets.specs.Inner.{set_width}
use Rattle.board.specs.declared.Network.{Network}
use Rattle.graph_flows.specs.Trails.{Step}
use Rattle.move_cycle.specs.Steps.{code_steps, every, is_cycle}
use Rattle.move_edges.specs.Marking.{singular_by}
use Rattle.move_carry.specs.Frames.{net_of}
use Rattle.move_turn.specs.Turns.{StepRule, OnBoard, Positive, UpSingular, meets_in}
use Rattle.move_turn.proofs.Passing.{meet, all_steps, in_sets, refused_6, refused_7, refused_24, refused_25, refused_26, steps_accepted, ups_same}
use borrow.Author.Rules.{rules}
use borrow.Author.Tests.{tests}
use Rattle.move_turn.proofs.judge_in.Lts as lts
use Rattle.move_turn.proofs.judge_in.Tie as tie
use Rattle.move_turn.proofs.judge_in.Reads as reads
use Rattle.move_turn.proofs.judge_in.Goals as goal

abbrev Start : Type 0
Start = lts.Start tie.the-claims reads.Pre reads.Post tie.handed_clauses

abbrev net : Start → Network
net s = net_of s.args.frame s.args.tails.now s.args.heads.now []

abbrev path : Start → List Step
path s = code_steps s.args.steps.now

-- the places where a test is passed, each by the one before
abbrev On : Type 0
On = lts.Else1 tie.the-claims reads.Pre reads.Post tie.handed_clauses

abbrev start : On → Start
start c = c.before.before.before.before.before.before.before.before.before.before

abbrev Cycled : Type 0
Cycled = lts.Else2 tie.the-claims reads.Pre reads.Post tie.handed_clauses

abbrev on : Cycled → On
on c = c.before.before

abbrev Closed : Type 0
Closed = lts.Else3 tie.the-claims reads.Pre reads.Post tie.handed_clauses

abbrev Above : Type 0
Above = lts.Else4 tie.the-claims reads.Pre reads.Post tie.handed_clauses

abbrev closed : Above → Closed
closed c = c.before.before.before.before

-- the rules by the sets, and what is known there
abbrev kept : StepRule → Start → Bool
kept rule s = every (meets_in rule s.args.frame.edges s.args.flows.now (singular_by s.args.heads.now s.args.leaving.now s.args.frame.positive s.args.frame.vertices)) (path s)

tested : (c : lts.After-all tie.the-claims reads.Pre reads.Post tie.handed_clauses) → c.all.result ≡ kept OnBoard c.before.before.before.before.before.before.before.before.before
tested c = all_steps (meets_in OnBoard c.args.frame.edges c.args.flows.now (singular_by c.args.heads.now c.args.leaving.now c.args.frame.positive c.args.frame.vertices)) _ _ _ _ _ (search rules) c.all.ensures.ran (λ x b q k. search (rules, tests))

on_board_lem : (c : On) → kept OnBoard (start c) ≡ true
on_board_lem c = sym (tested c.before) ∙ c.if-not-all.false

cycle : (c : Cycled) → is_cycle (start (on c)).args.tails.now (start (on c)).args.heads.now (path (start (on c))) ≡ true
cycle c = sym c.is_cycle.ensures ∙ c.if-not-is_cycle.false

wet : (c : lts.After-all2 tie.the-claims reads.Pre reads.Post tie.handed_clauses)
    → let s = start (on c.before.before.before.before) in
    c.all-2.result ≡ meet s.args.any_open (net s) s.args.flows.now (path s) Positive
wet c = all_steps (meets_in Positive c.args.frame.edges c.args.flows.now (λ e. true)) _ _ _ _ _ (search rules) c.all-2.ensures.ran (λ x b q k. search (rules, tests))

positive : (c : Above) → let s = start (on (closed c).before) in meet s.args.any_open (net s) s.args.flows.now (path s) Positive ≡ true
positive c = sym (wet c.before) ∙ c.if-not-all-2.false

-- the test of the up-steps by the sets is that by the lists
ups : (s : Start) → every (meets_in UpSingular s.args.frame.edges s.args.flows.now (singular_by s.args.heads.now s.args.leaving.now s.args.frame.positive s.args.frame.vertices)) (path s)
    ≡ meet s.args.any_open (net s) s.args.flows.now (path s) UpSingular
ups s =
    -- what owning the frame tells of its set
    let fits : s.args.frame.positive < 2 ^ set_width = search (rules, s.well_formed.1.0.1.1.1.1.1.1.1.0) in
    ups_same _ _ _ _ _ s.requires.charted_out fits s.args.frame.edges s.args.frame.vertices (path s)

singular : (c : lts.After-all3 tie.the-claims reads.Pre reads.Post tie.handed_clauses)
    → let s = start (on (closed c.before.before.before.before.before).before) in
    c.all-3.result ≡ meet s.args.any_open (net s) s.args.flows.now (path s) UpSingular
singular c =
    all_steps (meets_in UpSingular c.args.frame.edges c.args.flows.now (singular_by c.args.heads.now c.args.leaving.now c.args.frame.positive c.args.frame.vertices)) _ _ _ _ _ (search rules) c.all-3.ensures.ran (λ x b q k. search (rules, tests))
    ∙ ups (start (on (closed c.before.before.before.before.before).before))

pub returns-then-not-all : goal.returns-then-not-all
returns-then-not-all c = refused_6 _ _ _ _ (sym (tested c.before.before) ∙ c.if-not-all.true)

pub is_cycle-requires : goal.is_cycle-requires
is_cycle-requires c = in_sets (start c.before).args.frame.edges (start c.before).args.flows.now (λ e. true) (start c.before).requires.edges_le_max_edges _ (on_board_lem c.before)

pub returns-then-not-is_cycle : goal.returns-then-not-is_cycle
returns-then-not-is_cycle c = refused_7 _ _ _ _ (on_board_lem c.before.before.before) (sym c.is_cycle.ensures ∙ c.if-not-is_cycle.true)

pub returns-then-any_open : goal.returns-then-any_open
returns-then-any_open c = refused_24 _ _ _ _ (on_board_lem (on c.before.before)) (cycle c.before.before) c.if-any_open.true

pub returns-then-not-all-2 : goal.returns-then-not-all-2
returns-then-not-all-2 c =
    let cycled = c.before.before.before.before.before.before in
    refused_25 _ _ _ _ (on_board_lem (on cycled)) (cycle cycled) c.if-any_open.false (sym (wet c.before.before) ∙ c.if-not-all-2.true)

pub returns-then-not-all-3 : goal.returns-then-not-all-3
returns-then-not-all-3 c =
    let above = c.before.before.before.before.before.before.before in
    let shut = closed above in
    refused_26 _ _ _ _ (on_board_lem (on shut.before)) (cycle shut.before) shut.if-any_open.false (positive above)
    (sym (singular c.before.before) ∙ c.if-not-all-3.true)

pub returns : goal.returns
returns c =
    let above = c.before.before.before.before.before.before.before in
    let shut = closed above in
    steps_accepted _ _ _ _ (on_board_lem (on shut.before)) (cycle shut.before) shut.if-any_open.false (positive above)
    (sym (singular c.before.before) ∙ c.if-not-all-3.false)
