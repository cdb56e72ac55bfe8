-- The last entry of a board and its test by the parts: the entry that the code reads is the last one, so its test of the parts is the test of the board.
use mathlib.Core.Path.{◌≡◌, sym, ◌∙◌}
use mathlib.Core.Bool.{Bool, true, false}
use lib.Dec.{leb, eqb}
use Rattle.lists.specs.Choice.{both}
use Rattle.lists.specs.Lists.{all}
use Rattle.board.specs.Limits.{max_edges, max_terminals, max_moves}
use Rattle.board.specs.Record.{play_stage}
use Rattle.board.specs.Whole.{Entry, Board}
use Rattle.text_rules.specs.Rules.{counts_fit}
use Rattle.move_guard.specs.Moved.{last_entry}
use Rattle.move_guard.specs.Guard.{edge_intact, terminal_intact, move_intact, intact, playing}
use Rattle.move_guard.proofs.Facts.{playing-staged}

both_yes : (a c : Bool) → a ≡ true → both a c ≡ c
unfolding both
both_yes a c h = rw h

both_no : (a c : Bool) → a ≡ false → both a c ≡ false
unfolding both
both_no a c h = rw h

module _ (b : Board) where
  -- a test that stops at the counts, and one that goes on to the lists and the last entry
  pub counts_wrong : counts_fit b.network ≡ false → false ≡ intact b
  unfolding intact
  counts_wrong h = sym (both_no _ _ h)

  pub counts_right : (last : Entry) (edges terminals small room rest fits : Bool) → counts_fit b.network ≡ true → edges ≡ all (edge_intact b) 0 max_edges
      → terminals ≡ all (terminal_intact b) 0 max_terminals → last ≡ last_entry b → small ≡ move_intact last.step → room ≡ both (leb b.moves max_moves) small
      → rest ≡ both terminals room → fits ≡ both edges rest → fits ≡ intact b
  unfolding intact
  counts_right last edges terminals small room rest fits counts ee et el es er e ef =
      ef ∙ rw (e, er, es, el, et, ee) (sym (both_yes _ _ counts))

  pub staged : (fits in_play : Bool) → fits ≡ intact b → in_play ≡ both (eqb b.stage play_stage) fits → in_play ≡ playing b
  staged fits in_play ef ep = rw (playing-staged b, ep, ef)
