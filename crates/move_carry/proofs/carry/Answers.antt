-- The carry is judged by the board's own parts. Where it is accepted, the terminal and the edge are on the board, and what is stored is one more move.
use mathlib.Core.Path.{◌≡◌, refl, sym, ap, ◌∙◌}
use mathlib.Core.Bool.{Bool}
use mathlib.Core.List.{List, []}
use Prim.Native.Nat.{ℕ, ◌<◌, ◌≤◌}
use native.Mathlib.Omega.{arith}
use lib.ListN.{set}
use Rattle.refusals.proofs.Laws.{passed_on}
use Rattle.refusals.specs.Refusals.{answer_of}
use Rattle.board.specs.Limits.{max_edges, max_terminals, max_moves}
use Rattle.board.specs.Whole.{Entry, Table}
use Rattle.journal.specs.Words.{packed, entries_of, whole_of}
use Rattle.sets.specs.Sets.{set_of}
use Rattle.move_carry.specs.declared.Frame.{Frame}
use Rattle.move_carry.specs.Frames.{net_of}
use Rattle.move_carry.specs.Carries.{carry_refusal_in, carry_refusal}
use Rattle.move_carry.proofs.Makes.{makes_carried}
use Rattle.move_carry.proofs.Lent.{carry_refusal_bare, room_edge, room_terminal, room_move, lent_accepted, lent_refused}
use Rattle.move_carry.proofs.carry.Goals.{After-judge_in, In_ok-judge_in, After-saturating_sub-rest}
use Rattle.move_carry.proofs.carry.Goals as goal

-- where the carry is judged: the test before it, the table and the words
abbrev Judged : Type 0
Judged = After-judge_in

abbrev table : Judged → Table
table c = c.args.board

abbrev words : Judged → List (List ℕ)
words c = c.args.journal.now

judged : (c : Judged) → answer_of c.judge_in.result ≡ carry_refusal (whole_of (table c) (words c)) c.args.i c.args.e
judged c =
    let t = table c in
    c.judge_in.ensures
    ∙ ap (λ (f : Frame). carry_refusal_in c.playing-in_play.result (net_of f [] t.network.heads t.network.demands) t.flows (set_of f.marks) t.places c.args.i c.args.e) c.of-frame.ensures
    ∙ carry_refusal_bare _ t.network t.flows t.marks c.none.result t.places _ _
    ∙ ap (λ (p : Bool). carry_refusal_in p t.network t.flows t.marks t.places c.args.i c.args.e) c.playing-in_play.ensures

-- where it is accepted
abbrev Stored : Type 0
Stored = After-saturating_sub-rest

abbrev accepted : Stored → In_ok-judge_in
accepted c = c.before.before.before.before.before.before.before.before.before.before

none : (c : Stored) → carry_refusal (whole_of c.args.board c.args.journal.now) c.args.i c.args.e ≡ 0
none c = sym (judged (accepted c).before.before) ∙ ap answer_of c.in_ok-judge_in.was

edge : (c : Stored) → c.args.e < max_edges
edge c = room_edge c.args.board c.args.journal.now c.args.i c.args.e (none c)

terminal : (c : Stored) → c.args.i < max_terminals
terminal c = room_terminal c.args.board c.args.journal.now c.args.i c.args.e (none c)

room : (c : Stored) → c.args.board.moves ≤ max_moves
room c = room_move c.args.board c.args.journal.now c.args.i c.args.e (none c)

pub offset_bounds-board-edge : goal.offset_bounds-board-edge
offset_bounds-board-edge c = omega (arith, edge c)

pub bounds-board-edge : goal.bounds-board-edge
bounds-board-edge c = edge c

pub offset_bounds-board-terminal : goal.offset_bounds-board-terminal
offset_bounds-board-terminal c = omega (arith, terminal c)

pub bounds-board-terminal : goal.bounds-board-terminal
bounds-board-terminal c = terminal c

pub overflow_add-board : goal.overflow_add-board
overflow_add-board c = omega (arith, room c)

pub overflow_cast-m : goal.overflow_cast-m
overflow_cast-m c = omega (arith, room c.before)

pub returns-in_err-judge_in : goal.returns-in_err-judge_in
returns-in_err-judge_in c =
    let judge = c.before.before.before in
    let all = lent_refused (table judge) (words judge) c.args.i c.args.e _ (sym (judged judge) ∙ ap answer_of c.in_err-judge_in.was) in record {
      journal_after = rw (passed_on _ _ c.from_residual.ensures.1) all.0;
      journal_after_2 = all.1;
    }

pub returns : goal.returns
returns c =
    let stored = c.before.before.before in
    let judge = (accepted stored).before.before in
    let t = table judge in
    let change = makes_carried t.network t.flows t.marks t.places judge.args.i judge.args.e _ _ _ _ _ _ c.at_or-flow.ensures
    c.at_or-demand.ensures c.at_or-tail.ensures c.saturating_sub-rest.ensures refl refl in
    let all = lent_accepted t (words judge) judge.args.i judge.args.e _ _ (none stored) change
    (c.put_entry.ensures.journal_after ∙ ap (λ (x : Entry). set (words judge) t.moves (packed x)) c.entry_of.ensures)
    (c.put_entry.ensures.journal_after_2 ∙ ap (λ (x : Entry). set (entries_of (words judge)) t.moves x) c.entry_of.ensures) in record {
      journal_after = all.0;
      journal_after_2 = all.1;
    }
