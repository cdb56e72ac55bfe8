-- The journal is emptied first; then each way out gives what `load_text` picks at the reader's answer.
use mathlib.Core.Path.{ap, ◌∙◌}
use Rattle.refusals.proofs.Laws.{passed_on}
use Rattle.load.specs.Lent.{loaded_of}
use Rattle.load.proofs.Lent.{refused_lent, accepted_lent, net_bounded}
use Rattle.load.proofs.load.Goals as goal

pub returns-in_err-net-clause-journal_after : goal.returns-in_err-net-clause-journal_after
returns-in_err-net-clause-journal_after c =
    ap (λ r. loaded_of r c.clear.new.journal) (passed_on _ _ c.from_residual.ensures.1) ∙ refused_lent _ c.read.result c.read.ensures _ c.clear.ensures c.in_err-net.was

pub acyclic_flows-flows-requires : goal.acyclic_flows-flows-requires
acyclic_flows-flows-requires c = net_bounded _ c.read.result c.read.ensures _ c.clear.ensures c.in_ok-net.was

pub returns-clause-journal_after : goal.returns-clause-journal_after
returns-clause-journal_after c =
    accepted_lent _ c.read.result c.read.ensures _ c.clear.ensures _ _ c.in_ok-net.was c.acyclic_flows-flows.ensures c.opened.ensures
