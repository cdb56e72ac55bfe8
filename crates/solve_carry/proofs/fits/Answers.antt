-- The mark and the flow that are read are those of the definition.
use mathlib.Core.Path.{ap₂, ◌∙◌}
use mathlib.Core.Bool.{Bool}
use Prim.Native.Nat.{ℕ}
use Rattle.move_carry.specs.Opens.{flow_fits}
use Rattle.solve_carry.proofs.fits.Goals as goal

pub returns : goal.returns
returns c =
    c.flow_fits.ensures ∙ ap₂ (λ (m : Bool) (f : ℕ). flow_fits m f c.args.demand) c.has-mark.ensures c.at_or-flow.ensures
