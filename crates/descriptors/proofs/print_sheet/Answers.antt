-- What `sheet` says is written into the buffer, and printed where it fits it.
use Rattle.descriptors.proofs.Printing.{printed_fits}
use Rattle.descriptors.proofs.print_sheet.Goals as goal

pub returns-clause-input_in_bounds : goal.returns-clause-input_in_bounds
returns-clause-input_in_bounds g c = λ e.
    printed_fits _ _ _ _ c.sheet_output-size.ensures.value c.sheet_output-size.ensures.out_after (c.print_part.ensures e)
