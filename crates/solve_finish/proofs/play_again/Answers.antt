-- A run that the journal holds whole is given back. Else the places are blanked, and the second run is the one that is given (proofs/Again.antt).
use mathlib.Core.Path.{◌≡◌, refl, ap, ◌∙◌}
use mathlib.Core.List.{[]}
use Prim.Native.Nat.{ℕ, ◌-◌}
use native.Mathlib.Omega.{arith}
use Rattle.journal.specs.Words.{packed_on}
use Rattle.move_guard.proofs.Facts.{playing_moves}
use Rattle.solve_finish.proofs.Again.{plays_behind, full_at_once, full_again}
use Rattle.solve_finish.proofs.play_again.Lts as lts
use Rattle.solve_finish.proofs.play_again.Tie as tie
use Rattle.solve_finish.proofs.play_again.Reads as reads
use Rattle.solve_finish.proofs.play_again.Goals as goal

wiped : (c : lts.After-wipe tie.the-claims reads.Pre reads.Post tie.handed_clauses)
    → let args = c.args in
    c.wipe.new.journal ≡ packed_on (args.ran.moves - args.board.moves) args.board.moves [] args.journal.now
wiped c =
    let args = c.args in
    c.wipe.ensures ∙ ap (λ (k : ℕ). packed_on k args.board.moves [] args.journal.now) c.saturating_sub-count.ensures

pub returns-then-ran : goal.returns-then-ran
returns-then-ran c = λ old ran. full_at_once _ _ _ _ _ _ ran c.if-ran.true

pub wipe-requires : goal.wipe-requires
wipe-requires c =
    let from = playing_moves _ c.requires.journal_value in
    (omega (arith, from), omega (arith, c.saturating_sub-count.ensures, c.requires.moves_bound))

pub play_out-requires : goal.play_out-requires
play_out-requires c = record {
  journal_value = plays_behind _ _ _ _ _ (wiped c.before.before.before.before.before) c.requires.journal_value;
  flows_value = (refl, refl);
}

pub returns : goal.returns
returns c =
    λ old ran. full_again _ _ _ _ _ _ ran _ (wiped c.before.before.before.before.before.before) _ _ _ _ c.play_out.ensures
