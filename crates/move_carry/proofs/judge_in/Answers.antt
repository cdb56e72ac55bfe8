-- Each test that the code has passed is passed in the definition; the first that it fails decides there too.
use mathlib.Core.Path.{◌≡◌, sym, ◌∙◌}
use mathlib.Core.Bool.{true}
use mathlib.Core.List.{[]}
use Rattle.board.specs.declared.Network.{Network}
use Rattle.move_carry.specs.Opens.{fits_in}
use Rattle.move_carry.specs.Carries.{on_board_in}
use Rattle.move_carry.specs.Frames.{net_of}
use Rattle.move_carry.proofs.Refusing.{fits_read, refused_20, refused_6, refused_21, refused_22, refused_23, accepted}
use Rattle.move_carry.proofs.judge_in.Lts as lts
use Rattle.move_carry.proofs.judge_in.Tie as tie
use Rattle.move_carry.proofs.judge_in.Reads as reads
use Rattle.move_carry.proofs.judge_in.Goals as goal

-- the places where a test is passed, each by the one before, and what is known there
abbrev InPlay : Type 0
InPlay = lts.Else1 tie.the-claims reads.Pre reads.Post

abbrev start : InPlay → lts.Start tie.the-claims reads.Pre reads.Post
start c = c.before.before.before.before.before

abbrev net : InPlay → Network
net c = net_of (start c).args.frame [] (start c).args.heads.now (start c).args.demands.now

plays : (c : InPlay) → (start c).args.in_play ≡ true
plays c = c.if-not-in_play.false

abbrev OnBoard : Type 0
OnBoard = lts.Else2 tie.the-claims reads.Pre reads.Post

abbrev in_play : OnBoard → InPlay
in_play c = c.before.before.before.before

on_board_lem : (c : OnBoard) → on_board_in (net (in_play c)) (start (in_play c)).args.i (start (in_play c)).args.e ≡ true
unfolding on_board_in
on_board_lem c = sym c.and.ensures ∙ c.if-not-and.false

abbrev Away : Type 0
Away = lts.Else3 tie.the-claims reads.Pre reads.Post

abbrev placed : Away → lts.After-at_or tie.the-claims reads.Pre reads.Post
placed c = c.before.before

abbrev Fitting : Type 0
Fitting = lts.After-flow_fits tie.the-claims reads.Pre reads.Post

abbrev enters : Fitting → lts.Else4 tie.the-claims reads.Pre reads.Post
enters c = c.before.before.before.before

abbrev away : Fitting → Away
away c = (enters c).before.before

abbrev read_at : Fitting → InPlay
read_at c = in_play (placed (away c)).before

fits : (c : Fitting) → c.flow_fits.result
    ≡ fits_in (net (read_at c)) (start (read_at c)).args.flows.now (start (read_at c)).args.frame.marks (start (read_at c)).args.places.now (start (read_at c)).args.i (start (read_at c)).args.e
fits c =
    c.flow_fits.ensures
    ∙ fits_read (start (read_at c)).args.in_play (net (read_at c)) (start (read_at c)).args.flows.now (start (read_at c)).args.frame.marks (start (read_at c)).args.places.now (start (read_at c)).args.i (start (read_at c)).args.e _ _ _ c.has-mark.ensures c.at_or-flow.ensures c.at_or-demand.ensures

pub returns-then-not-in_play : goal.returns-then-not-in_play
returns-then-not-in_play c = refused_20 _ _ _ _ _ _ _ (c.if-not-in_play.true)

pub returns-then-not-and : goal.returns-then-not-and
unfolding on_board_in
returns-then-not-and c = refused_6 _ _ _ _ _ _ _ (plays c.before.before.before.before.before) (sym c.and.ensures ∙ c.if-not-and.true)

pub returns-then-place-frame : goal.returns-then-place-frame
returns-then-place-frame c =
    let read = c.before.before.before in
    refused_21 _ _ _ _ _ _ _ (plays (in_play read.before)) (on_board_lem read.before) _ c.at_or-place.ensures c.if-place-frame.true

pub returns-then-at_or-place : goal.returns-then-at_or-place
returns-then-at_or-place c =
    let apart = c.before.before.before in
    let read = placed apart in
    refused_22 _ _ _ _ _ _ _ (plays (in_play read.before)) (on_board_lem read.before) _ read.at_or-place.ensures c.if-place-frame.false _
    c.at_or.ensures c.if-at_or-place.true

pub returns-then-not-flow_fits : goal.returns-then-not-flow_fits
returns-then-not-flow_fits c =
    let fitting = c.before.before in
    let apart = away fitting in
    let read = placed apart in
    refused_23 _ _ _ _ _ _ _ (plays (in_play read.before)) (on_board_lem read.before) _ read.at_or-place.ensures apart.if-place-frame.false _
    (enters fitting).at_or.ensures (enters fitting).if-at_or-place.false (sym (fits fitting) ∙ c.if-not-flow_fits.true)

pub returns : goal.returns
returns c =
    let fitting = c.before.before in
    let apart = away fitting in
    let read = placed apart in
    accepted _ _ _ _ _ _ _ (plays (in_play read.before)) (on_board_lem read.before) _ read.at_or-place.ensures apart.if-place-frame.false _
    (enters fitting).at_or.ensures (enters fitting).if-at_or-place.false (sym (fits fitting) ∙ c.if-not-flow_fits.false)
