-- The entry that is read is the board's last, and what is stored takes its move back: the numbers of an intact board are small enough for that.
use mathlib.Core.Path.{◌≡◌, refl, sym, ap, ap₂, ◌∙◌}
use mathlib.Core.List.{List}
use Prim.Native.Nat.{ℕ, ◌+◌, ◌≤◌}
use native.Mathlib.Omega.{arith}
use lib.ListN.{get_or, set}
use borrow.Author.Tests.{leb-true}
use Rattle.sets.specs.Sets.{without, set_of}
use Rattle.board.specs.Limits.{max_flow, max_total}
use Rattle.board.specs.Whole.{Move, Entry, move_of, Table}
use Rattle.journal.specs.Words.{whole_of}
use Rattle.move_guard.specs.Guard.{move_intact}
use Rattle.move_guard.specs.Moved.{last_entry}
use Rattle.move_guard.proofs.Facts.{intact-flow, intact-demand, intact_last}
use Rattle.move_cycle.specs.Shifts.{shifted}
use Rattle.move_undo.proofs.Lent.{back_stored}
use borrow.Author.Rules.{rules}
use Rattle.move_undo.proofs.back_one.Lts as lts
use Rattle.move_undo.proofs.back_one.Tie as tie
use Rattle.move_undo.proofs.back_one.Reads as reads
use Rattle.move_undo.proofs.back_one.Goals as goal

abbrev Start : Type 0
Start = lts.Start tie.the-claims reads.Pre reads.Post tie.handed_clauses

-- the table and the words at the start
abbrev table : Start → Table
table s = s.args.board

abbrev words : Start → List (List ℕ)
words s = s.args.journal.now

-- no flow and no demand is large
small_flow : (s : Start) (e : ℕ) → get_or (table s).flows e 0 ≤ max_total
small_flow s = intact-flow (whole_of (table s) (words s)) s.requires (search rules)

small_demand : (s : Start) (i : ℕ) → get_or (table s).network.demands i 0 ≤ max_flow
small_demand s = intact-demand (whole_of (table s) (words s)) s.requires (search (rules, s.well_formed.0.1.1.1.0))

-- where one move less is counted: the start, and the move that is read
abbrev Counted : Type 0
Counted = lts.After-saturating_sub tie.the-claims reads.Pre reads.Post tie.handed_clauses

abbrev start : Counted → Start
start c = c.before.before.before

abbrev read : Counted → Move
read c = move_of c.last_entry-last.result.step

read_last : (c : Counted) → (last_entry (whole_of (table (start c)) (words (start c)))).step ≡ read c
read_last c = ap (λ (e : Entry). e.step) (sym c.last_entry-last.ensures)

pub overflow_add-flow : goal.overflow_add-flow
overflow_add-flow c =
    let s = start c.before.before.before.before.before.before.before.before.before.before.before.before.before.before.before in
    omega (arith, c.at_or-flow.ensures, c.at_or-demand.ensures, small_flow s c.in-Carry.r.edge, small_demand s c.in-Carry.r.terminal)

pub shifted-shifted-requires : goal.shifted-shifted-requires
shifted-shifted-requires c =
    let s = start c.before.before.before.before.before in
    let step = read_last c.before.before.before.before.before ∙ ap move_of c.in-Turn.is in record {
      x_le_max_total = leb-true _ _ (sym (ap move_intact step) ∙ intact_last (whole_of (table s) (words s)) s.requires);
      at_most = small_flow s;
    }

pub returns-in-Carry : goal.returns-in-Carry
returns-in-Carry c =
    let t = table (start c.before.before.before.before.before.before.before.before.before.before.before.before.before.before.before.before.before.before.before) in
    let sum = ap₂ (λ (a b : ℕ). a + b) c.at_or-flow.ensures c.at_or-demand.ensures in
    back_stored t (words (start c.before.before.before.before.before.before.before.before.before.before.before.before.before.before.before.before.before.before.before)) _ (read_last c.before.before.before.before.before.before.before.before.before.before.before.before.before.before.before.before.before.before.before ∙ ap move_of c.in-Carry.is) _ _ _ _
    (c.put.ensures ∙ ap (set t.flows c.in-Carry.r.edge) sum) refl
    (c.put-in-Carry.ensures ∙ ap (set t.places c.in-Carry.r.terminal) c.at_or-head.ensures) c.saturating_sub.ensures

pub returns-in-Turn : goal.returns-in-Turn
returns-in-Turn c =
    let t = table (start c.before.before.before.before.before.before.before) in
    let ways = ap₂ (λ (up down : ℕ). shifted c.in-Turn.a.amount up down t.flows) c.rose-rose.ensures c.fell-fell.ensures in
    back_stored t (words (start c.before.before.before.before.before.before.before)) _ (read_last c.before.before.before.before.before.before.before ∙ ap move_of c.in-Turn.is) _ _ _ _
    (c.shifted-shifted.ensures ∙ ways) (c.without.ensures ∙ ap (without (set_of t.marks)) c.newly_marked-marked.ensures) refl
    c.saturating_sub.ensures
