-- The numbers of every entry of a journal of play fit into 32 bits, so that the words of the journal stand for it. A carry was accepted, so its terminal and
-- its edge are numbers of the network, and no turn's amount is above what the terminals need together; a finish makes such moves alone.
use mathlib.Core.Path.{◌≡◌}
use mathlib.Core.List.{List, [], ◌∷◌}
use Prim.Native.Nat.{ℕ, zero, suc, ◌*◌, ◌<◌, ◌≤◌}
use native.Mathlib.Omega.{arith}
use lib.ListN.{length, get_or, set, replicate}
use Rattle.board.specs.Limits.{max_moves, max_flow}
use Rattle.board.specs.Record.{blank}
use Rattle.board.specs.Whole.{Move, Carry, Turn, Entry, Board}
use Rattle.journal.specs.Words.{journal_of, packed_all}
use Rattle.journal.proofs.Laws.{Fits}
use Rattle.load.specs.Load.{load_text}
use Rattle.load.proofs.Loads.{load_accepted}
use Rattle.move_carry.specs.Carries.{carried_in}
use Rattle.move_turn.specs.Turns.{turned_in}
use Rattle.solve_next.specs.Choosing.{Act, relocate, augment, judge, acted, next_act}
use Rattle.solve_finish.specs.Finishes.{finish_call}
use Rattle.theorem_cycles.specs.Invariant.{amount_of}
use Rattle.theorem_keep.proofs.Carriable.{carry_facts}
use Rattle.theorem_keep.proofs.Standing.{Standing}
use Rattle.theorem_list.specs.Player.{Item, act, ending, listed_all, afresh}
use Rattle.theorem_list.specs.Complete.{SolvedBy}
use Rattle.theorem_list.proofs.Acts.{act_standing}
use Rattle.theorem_list.proofs.Finish.{finish_completes}
use Rattle.theorem_list.proofs.HintFirst.{solved_end}
use Rattle.theorem_list.proofs.Stands.{afresh_more, Stands, none, more, Stood, going, over, stands_standing}
use Rattle.boundary_parts.proofs.Games.{journal_again}

-- the numbers of a carry fit
abbrev CarryFits : Move → Type 0
CarryFits (Carry r) = (r.terminal < 4294967296) × (r.edge < 4294967296)
CarryFits (Turn a) = Unit {0}

abbrev CarriesFit : Board → Type 0
CarriesFit b = (k : ℕ) → CarryFits (get_or b.journal k blank).step

-- a journal of blanks, and one more entry
blank_fits : (n k : ℕ) → CarryFits (get_or (replicate n blank) k blank).step
blank_fits zero k = (omega arith, omega arith)
blank_fits (suc n) zero = (omega arith, omega arith)
blank_fits (suc n) (suc k) = blank_fits n k

set_fits : (es : List Entry) (i : ℕ) (x : Entry) → ((k : ℕ) → CarryFits (get_or es k blank).step) → CarryFits x.step
    → (k : ℕ) → CarryFits (get_or (set es i x) k blank).step
set_fits [] i x old new k = old k
set_fits (e ∷ es) zero x old new zero = new
set_fits (e ∷ es) zero x old new (suc k) = old (suc k)
set_fits (e ∷ es) (suc i) x old new zero = old 0
set_fits (e ∷ es) (suc i) x old new (suc k) = set_fits es i x (λ j. old (suc j)) new k

-- an accepted move, and the moves of a finish
act_fits : (b : Board) (a : Act) → Standing b → judge b a ≡ 0 → CarriesFit b → CarriesFit (acted b a)
unfolding carried_in turned_in
act_fits b (relocate i e) st h old =
    let c = (carry_facts b i e h).1 in
    set_fits b.journal b.moves _ old (omega (arith, c.terminal, st.within.terminals), omega (arith, c.edge, st.within.edges))
act_fits b (augment w) st h old = set_fits b.journal b.moves _ old tt

solved_fits : (k : ℕ) (b c : Board) → Standing b → SolvedBy k b c → CarriesFit b → CarriesFit c
solved_fits zero b c st s old = rw (← s.1) old
solved_fits (suc k) b c st s old =
    solved_fits k (acted b (next_act b)) c (act_standing b (next_act b) st s.1) s.2 (act_fits b (next_act b) st s.1 old)

-- the words of a board of play
module _ (b : Board) (st : Standing b) (carries : CarriesFit b) where
  entries_fit : (k : ℕ) → Fits (get_or b.journal k blank).step
  entries_fit k = go (get_or b.journal k blank).step (carries k) (st.small.amounts k)
    where
      needs_most : length b.network.demands * max_flow < 4294967296
      needs_most = rw st.within.demands_size (omega arith)

      go : (m : Move) → CarryFits m → amount_of m ≤ length b.network.demands * max_flow → Fits m
      go (Carry r) h small = h
      go (Turn a) h small = omega (arith, small, needs_most)

  standing_again : journal_of b.moves (packed_all b.journal) ≡ b.journal
  standing_again = journal_again b.moves b.journal entries_fit st.inv.blanks

-- the board of standing items
module _ (text : List ℕ) (loads : (load_text text).answer ≡ 0) where
  stands_fit : (ms : List Item) → Stands text ms → CarriesFit (afresh text ms)
  unfolding afresh listed_all
  stands_fit ms none = rw (load_accepted text loads) (blank_fits max_moves)
  stands_fit all (more ms a s h q) = rw (q, afresh_more text ms (act a)) (act_fits (afresh text ms) a (stands_standing text loads ms s) h (stands_fit ms s))

  pub stood_again : (ms : List Item) → Stood text ms
      → journal_of (afresh text ms).moves (packed_all (afresh text ms).journal) ≡ (afresh text ms).journal
  stood_again ms (going s) = standing_again (afresh text ms) (stands_standing text loads ms s) (stands_fit ms s)
  stood_again all (over ms s q) =
      let b : Board = afresh text ms in
      let st = stands_standing text loads ms s in
      let done = finish_completes b st in
      let last = (solved_end (finish_call b).count b done.last st done.solved).1 in
      rw (q, afresh_more text ms ending, done.over)
      (standing_again done.last last (solved_fits (finish_call b).count b done.last st done.solved (stands_fit ms s)))
