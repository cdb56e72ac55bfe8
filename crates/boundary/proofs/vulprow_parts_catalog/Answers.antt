-- What the call ensures.
use mathlib.Core.Path.{ap, ◌∙◌}
use Rattle.text.specs.Results.{Written}
use Rattle.boundary.proofs.vulprow_parts_catalog.Goals as goal

pub returns : goal.returns
returns c =
    let gave = c.write-board_text.ensures in record {
      value = c.store_used.ensures.value ∙ ap (λ (w : Written). w.answer) gave.value;
      used_after = c.store_used.ensures.used_after ∙ ap (λ (w : Written). w.used) gave.value;
      buf_after = gave.buf_after;
    }
