-- What a piece of the input with a line feed does: its bytes up to there are those of a line, and the line feed ends it.
use mathlib.Core.Path.{◌≡◌, sym, ap, ◌∙◌}
use mathlib.Core.Bool.{true}
use mathlib.Core.List.{List}
use Prim.Native.Nat.{ℕ, ◌+◌, ◌<◌}
use lib.ListN.{length, take}
use borrow.Author.Tests.{lt-ltb}
use Rattle.lists.specs.Lists.{index_of}
use Rattle.lists.proofs.Laws.{pick_yes}
use Rattle.play_session.specs.Machine.{Session}
use Rattle.play_session.specs.Machine.{grown, line_ended, line_told, has_line, taken_of, fed_session, fed_told}

module _ (s : Session) (bytes : List ℕ) (place : ℕ) (e : place ≡ index_of 10 bytes) (h : place < length bytes) where
  a_line : has_line bytes ≡ true
  a_line = lt-ltb (index_of 10 bytes) (length bytes) (rw (← e) h)

  pub taken_line : place + 1 ≡ taken_of bytes
  unfolding taken_of
  taken_line = ap (λ (k : ℕ). k + 1) e ∙ sym (pick_yes _ _ _ a_line)

  module _ (g : Session) (q : g ≡ grown s (take place bytes)) where
    here : g ≡ grown s (take (index_of 10 bytes) bytes)
    here = q ∙ ap (λ (k : ℕ). grown s (take k bytes)) e

    pub fed_ended : line_ended g ≡ fed_session s bytes
    unfolding fed_session
    fed_ended = ap line_ended here ∙ sym (pick_yes _ _ _ a_line)

    pub fed_told_lem : line_told g ≡ fed_told s bytes
    unfolding fed_told
    fed_told_lem = ap line_told here ∙ sym (pick_yes _ _ _ a_line)
