-- A board is stored, and a refusal stores nothing.
use mathlib.Core.Path.{sym, ap, ◌∙◌}
use Rattle.refusals.specs.Refusals.{answer_of}
use Rattle.boundary_parts.specs.Memory.{memory}
use Rattle.boundary.specs.Inner.{memory_given}
use Rattle.boundary.proofs.Calls.{stored-memory}
use Rattle.boundary.proofs.store_given.Goals as goal

pub returns-in-Ok : goal.returns-in-Ok
returns-in-Ok c =
    let kept = c.store.ensures in record {
      value = sym (ap answer_of c.in-Ok.is);
      marks_after = λ words. stored-memory _ words _ _ _ _ kept.numbers_after kept.edges_after kept.terminals_after kept.marks_after
          ∙ sym (ap (λ g. memory_given g (memory c.args.numbers.now c.args.edges.now c.args.terminals.now c.args.marks.now words)) c.in-Ok.is);
    }
