-- The bytes before the first line feed are those of a line, and the line feed ends it; where there is none, all of the bytes are.
use mathlib.Core.Path.{ap, ◌∙◌}
use Rattle.std.proofs.Common.{List, ℕ, arith}
use Rattle.std.proofs.lemmas.Grind.{common_steps}
use lib.ListN.{length}
use lib.Seq.{sets}
use Rattle.lists.specs.Choice.{pick}
use Rattle.play_session.specs.Machine.{taken_of, fed_session, fed_told}
use Rattle.play_session.specs.Lent.{session_of}
use Rattle.play_session.proofs.Feeding.{fed_ended, taken_line, fed_told_lem}
use Rattle.play_session.proofs.feed.Goals as goal

pub returns-then-bytes-at : goal.returns-then-bytes-at
unfolding taken_of fed_session fed_told pick
returns-then-bytes-at c = grind (arith, common_steps)

pub returns : goal.returns
returns c =
    let words = c.args.journal.now in
    let s = session_of c.args.session words in
    let bytes = c.args.bytes.now in
    let e = c.index_of-at.ensures in
    let h = c.if-bytes-at.false in
    let q = c.line_ended-told.ensures in
    let g = session_of c.grown-next.result words in
    let ge = c.grown-next.ensures words in
    let told = fed_told_lem s bytes _ e h g ge in record {
      journal_after = q.journal_after ∙ fed_ended s bytes _ e h g ge;
      taken_value = taken_line s bytes _ e h;
      used_value = q.used_value ∙ ap length told;
      used_le_output_bytes = q.used_le_output_bytes;
      out_after = q.out_after ∙ ap (λ (l : List ℕ). sets c.args.out.now 0 l) told;
      taken_in_bounds = omega arith;
    }
