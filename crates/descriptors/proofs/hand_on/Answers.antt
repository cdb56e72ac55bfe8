-- What the session says of a piece is written into the buffer, and printed where it fits it.
use Rattle.descriptors.proofs.Printing.{printed_fits}
use Rattle.descriptors.proofs.hand_on.Goals as goal

pub returns-clause-bytes_in_bounds : goal.returns-clause-bytes_in_bounds
returns-clause-bytes_in_bounds g c = λ e.
    printed_fits _ _ _ _ c.feed-fed.ensures.used_value c.feed-fed.ensures.out_after (c.print_part-printed.ensures e)
