-- The text is written from place 0 on, so the place behind it is its length.
use mathlib.Core.Path.{ap, ◌∙◌}
use Prim.Native.Nat.{ℕ}
use native.Mathlib.Nat.{zero-add}
use lib.Dec.{leb}
use Rattle.report.proofs.has_room.Goals as goal

pub returns : goal.returns
returns c = ap (λ (n : ℕ). leb n c.args.room) (c.put_tables-length.ensures.value ∙ zero-add _)
