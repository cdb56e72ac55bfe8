-- The run has come to the end of the board. Where a terminal is away there, the places that it filled are blanked, and the words are those of before. Else the
-- journal holds all its moves, at once or after a second run (proofs/Again.antt), and the answer is read off its end (proofs/Lent.antt).
use mathlib.Core.Path.{refl, sym, ap, ◌∙◌}
use mathlib.Core.List.{[]}
use Prim.Native.Nat.{ℕ}
use native.Mathlib.Omega.{arith}
use Rattle.journal.specs.Words.{whole_of, packed_on}
use Rattle.move_guard.proofs.Facts.{playing_moves}
use Rattle.solve_finish.proofs.Stepping.{finish_closed}
use Rattle.solve_finish.proofs.Filling.{filled_back}
use Rattle.solve_finish.proofs.Again.{plays_behind}
use Rattle.solve_finish.proofs.Lent.{words_refused, ran_refused, ran_made}
use Rattle.solve_finish.proofs.finish.Goals as goal

pub returns-then-not-playing : goal.returns-then-not-playing
returns-then-not-playing c =
    let t = c.args.board in
    let w = c.args.journal.now in
    let e = finish_closed (whole_of t w) (sym c.playing.ensures ∙ c.if-not-playing.true) in record {
      journal_after = e;
      journal_after_2 = words_refused t w e;
    }

pub play_out-ran-requires : goal.play_out-ran-requires
play_out-ran-requires c = record {
  journal_value = sym c.playing.ensures ∙ c.if-not-playing.false;
  flows_value = (refl, refl);
}

pub slice_bounds-all_home-end : goal.slice_bounds-all_home-end
slice_bounds-all_home-end c = sym c.play_out-ran.ensures.short

pub wipe-requires : goal.wipe-requires
wipe-requires c =
    let from = playing_moves (whole_of c.args.board c.args.journal.now) (sym c.playing.ensures ∙ c.if-not-playing.false) in
    let made = c.play_out-ran.ensures in
    (omega (arith, from), omega (arith, c.saturating_sub-filled.ensures, made.within, made.few))

pub returns-then-not-all_home : goal.returns-then-not-all_home
returns-then-not-all_home c =
    let t = c.args.board in
    let w = c.args.journal.now in
    let filled = c.play_out-ran.new.journal in
    let wiped = c.wipe.ensures ∙ ap (λ (k : ℕ). packed_on k t.moves [] filled) c.saturating_sub-filled.ensures in
    let back = filled_back _ _ _ _ c.play_out-ran.ensures.fills _ wiped in
    let e = ran_refused t w _ _ _ _ c.play_out-ran.ensures (sym c.playing.ensures ∙ c.if-not-playing.false) _ c.all_home.ensures c.if-not-all_home.true in
    rw back (record {
      journal_after = e;
      journal_after_2 = words_refused t w e;
    })

pub play_again-whole-requires : goal.play_again-whole-requires
play_again-whole-requires c =
    let made = c.play_out-ran.ensures in record {
      journal_value = plays_behind _ _ _ _ _ made.fills.packs (sym c.playing.ensures ∙ c.if-not-playing.false);
      moves_bound = made.few;
    }

pub returns : goal.returns
returns c =
    let made = c.play_out-ran.ensures in
    let all = ran_made c.args.board c.args.journal.now _ _ _ _ made (sym c.playing.ensures ∙ c.if-not-playing.false) _ c.all_home.ensures _ _ _ _ _
    (c.play_again-whole.ensures c.args.journal.now made) c.if-not-all_home.false c.saturating_sub-count.ensures in record {
      journal_after = all.0;
      journal_after_2 = all.1;
    }
