-- The turn on the lent lists is the one by the parts of the board that the table and the words stand for; an accepted one is packed into the next place.
use mathlib.Core.Path.{◌≡◌, refl, sym, ap, ◌∙◌}
use Rattle.std.specs.Prelude.{Result}
use Rattle.refusals.specs.declared.Refusal.{Refusal}
use Rattle.refusals.proofs.Laws.{refused, passed_on}
use mathlib.Core.Bool.{true}
use mathlib.Core.List.{List, []}
use Prim.Native.Nat.{ℕ, ◌+◌}
use native.Mathlib.Omega.{arith}
use Rattle.board.specs.Whole.{Board, Entry, entry_of, Table}
use Rattle.graph_flows.specs.Trails.{Step}
use Rattle.journal.specs.Words.{whole_of, entries_of, standing}
use Rattle.journal.proofs.Laws.{add_standing}
use Rattle.move_guard.specs.Guard.{playing}
use Rattle.move_guard.proofs.Facts.{playing_moves}
use Rattle.move_guard.proofs.Lent.{whole_long}
use Rattle.sets.specs.Sets.{set_of}
use Rattle.move_carry.specs.declared.Frame.{Frame}
use Rattle.move_carry.specs.Frames.{net_of}
use Rattle.move_carry.specs.Opens.{some_open_in}
use Rattle.move_cycle.specs.Steps.{code_steps}
use Rattle.move_turn.specs.declared.Augmented.{Augmented}
use Rattle.move_turn.specs.Lent.{made_of}
use Rattle.move_guard.specs.Bounds.{InBounds}
use Rattle.move_guard.proofs.Bounds.{playing_bounds}
use Rattle.solve_carry.proofs.Finds.{some_open_bare, bounds_searched}
use Rattle.solve_carry.proofs.Resumed.{resumes_first}
use Rattle.move_turn.proofs.Changes.{turn_made}
use Rattle.move_turn.proofs.Lent.{framed, bounds_turnable, turn_of_bare, closed_made, open_made, lent_refused, lent_stored}
use borrow.Author.Rules.{rules}
use Rattle.move_turn.proofs.turn_steps.Lts as lts
use Rattle.move_turn.proofs.turn_steps.Tie as tie
use Rattle.move_turn.proofs.turn_steps.Reads as reads
use Rattle.move_turn.proofs.turn_steps.Goals as goal

-- the places in the code where the board is known to be in play, and where the lists are lent
abbrev Begun : Type 0
Begun = lts.Else1 tie.the-claims reads.Pre reads.Post tie.handed_clauses

abbrev Lending : Type 0
Lending = lts.After-flows4 tie.the-claims reads.Pre reads.Post tie.handed_clauses

abbrev table : Begun → Table
table c = c.args.board

abbrev old : Begun → List (List ℕ)
old c = c.args.journal.now

abbrev given : Begun → Board
given c = whole_of (table c) (old c)

abbrev path : Begun → List Step
path c = code_steps c.args.steps.now

plays : (c : Begun) → playing (given c) ≡ true
plays c = sym c.playing.ensures ∙ c.if-not-playing.false

abbrev searched : Lending → lts.After-open_carry tie.the-claims reads.Pre reads.Post tie.handed_clauses
searched c = c.before.before.before.before.before.before.before.before

abbrev Charted : Type 0
Charted = lts.After-positive tie.the-claims reads.Pre reads.Post tie.handed_clauses

abbrev charted : Lending → Charted
charted c = c.before.before.before.before.before.before.before.before.before.before.before.before.before.before.before.before.before.before.before

abbrev begun : Charted → Begun
begun c = c.before.before.before.before.before.before.before.before

-- what the call leans on
bounds : (c : Begun) → InBounds (given c).network (given c).flows (given c).places
bounds c =
    -- what owning the table tells of its fields, nested to the right
    let fields = c.well_formed.0.1.1.1 in
    let b = given c in
    playing_bounds b (plays c)
    (record {
      tails = search rules;
      heads = search rules;
      demands = search rules;
      long = search rules;
    })

-- what the turn changes on the board
made_here : (c : lts.After-change tie.the-claims reads.Pre reads.Post tie.handed_clauses) (r : Result Augmented Refusal) → c.change.result ≡ r
    → let b = given (begun (charted c.before)) in
    made_of (table (begun (charted c.before))).marks r c.change.new.flows b.places ≡ turn_made b (path (begun (charted c.before)))
made_here c r is =
    let b = given (begun (charted c.before)) in
    let found = (searched c.before).open_carry-found in
    let frame = c.of-frame.ensures in
    open_made b _ _ _ (plays (begun (charted c.before)))
    (c.is_some.ensures ∙ found.ensures.some
    ∙ ap (λ (f : Frame). some_open_in (net_of f [] b.network.heads b.network.demands) b.flows (set_of f.marks) b.places) frame
    ∙ some_open_bare b.network b.flows b.marks (charted c.before).positive-positive.result b.places)
    (ap (λ (x : Result Augmented Refusal). made_of (table (begun (charted c.before))).marks x c.change.new.flows b.places) (sym is)
    ∙ framed _ _ frame _ _ _ _ _ _ _ _ _ c.change.ensures ∙ turn_of_bare b.network true _ b.flows b.marks b.places _)

pub returns-then-not-playing : goal.returns-then-not-playing
returns-then-not-playing c =
    let b = whole_of c.args.board c.args.journal.now in
    let out = sym c.playing.ensures ∙ c.if-not-playing.true in
    let all = lent_refused b _ _ (closed_made b _ out) _ (λ z. omega (arith, z)) in record {
      journal_after = all.0;
      journal_after_2 = all.1;
    }

pub slice_bounds-open_carry-end-2 : goal.slice_bounds-open_carry-end-2
slice_bounds-open_carry-end-2 c = search rules

pub open_carry-found-requires : goal.open_carry-found-requires
open_carry-found-requires c =
    let start = begun c.before.before.before.before.before.before.before.before.before.before.before in
    let b = given start in
    rw c.of-frame.ensures
    (record {
      searched = bounds_searched b.network b.flows b.places _ b.marks _ (bounds start) c.at_vertices-entering.ensures c.positive-positive.ensures;
      resumes = resumes_first _ _ _ _;
    })

pub change-requires : goal.change-requires
change-requires c =
    let chart = charted c.before in
    let b = given (begun chart) in
    rw c.of-frame.ensures (bounds_turnable b.network b.flows b.places _ _ _ _ (bounds (begun chart)) c.at_vertices-leaving.ensures c.positive-positive.ensures)

pub returns-in_err-made : goal.returns-in_err-made
returns-in_err-made c =
    let changed = c.before.before.before.before in
    let all = lent_refused (given (begun (charted changed.before))) _ _ (made_here changed _ c.in_err-made.was) _ (refused c.in_err-made.field-0.0) in record {
      journal_after = rw (passed_on _ _ c.from_residual.ensures.1) all.0;
      journal_after_2 = all.1;
    }

pub overflow_add-next : goal.overflow_add-next
overflow_add-next c =
    let few = playing_moves _ (plays (begun (charted c.before.before.before.before.before.before.before))) in
    omega (arith, few)

pub returns : goal.returns
returns c =
    let changed = c.before.before.before.before.before.before in
    let begin = begun (charted changed.before) in
    let b = given begin in
    let m = b.moves in
    let entry : Entry = entry_of c.in_ok-made.made.entry in
    let journal = ap (standing (m + 1)) c.put_entry.ensures.journal_after_2 ∙ sym (add_standing m (m + 1) (entries_of (old begin)) entry (omega arith)) in
    let all = lent_stored b _ _ (made_here changed _ c.in_ok-made.was) (old begin) _ _ refl (whole_long (table begin) (old begin)) journal c.put_entry.ensures.journal_after in record {
      journal_after = all.0;
      journal_after_2 = all.1;
    }
