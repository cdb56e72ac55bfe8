-- The session's last words are written into the buffer, and printed where they fit it.
use Rattle.descriptors.proofs.Printing.{printed_fits}
use Rattle.descriptors.proofs.close.Goals as goal

pub returns-clause-journal_in_bounds : goal.returns-clause-journal_in_bounds
returns-clause-journal_in_bounds g c = λ e.
    printed_fits _ _ _ _ c.close-used.ensures.value c.close-used.ensures.out_after (c.print_part.ensures e)
