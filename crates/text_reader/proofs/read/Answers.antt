-- The refusal of the layout decides first, then that of the network judged; where both pass the network is given.
use mathlib.Core.Path.{ap, ◌∙◌}
use Rattle.refusals.proofs.Laws.{passed_on}
use Rattle.text.specs.Results.{as_reading}
use Rattle.text_reader.proofs.Whole.{read_stop, read_counts, read_refused, read_accepted}
use Rattle.text_reader.proofs.read.Goals as goal

pub returns-in_err-network : goal.returns-in_err-network
returns-in_err-network c = ap as_reading (passed_on _ _ c.from_residual.ensures.1) ∙ read_stop _ c.layout.result c.layout.ensures c.in_err-network.was

pub judged-requires : goal.judged-requires
judged-requires c = read_counts _ c.layout.result c.layout.ensures c.in_ok-network.was

pub returns-in_err-judged : goal.returns-in_err-judged
returns-in_err-judged c =
    ap as_reading (passed_on _ _ c.from_residual-in_err-judged.ensures.1)
    ∙ read_refused _ c.layout.result c.layout.ensures c.in_ok-network.was c.judged.result c.judged.ensures c.in_err-judged.was

pub returns : goal.returns
returns c = read_accepted _ c.layout.result c.layout.ensures c.in_ok-network.was c.judged.result c.judged.ensures c.in_ok-judged.was
