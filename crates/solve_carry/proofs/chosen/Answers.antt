-- An edge found among the marked ones is picked; where none is found, the lowest of the whole set that fits.
use mathlib.Core.Path.{◌∙◌}
use Rattle.solve_carry.proofs.Finds.{chosen_marked, chosen_other}
use Rattle.solve_carry.proofs.chosen.Goals as goal

pub returns-in-Some : goal.returns-in-Some
returns-in-Some c = chosen_marked _ _ _ _ _ _ c.common-marked.ensures c.lowest_fit.ensures _ c.in-Some.is

pub returns : goal.returns
returns c = c.lowest_fit-2.ensures ∙ chosen_other _ _ _ _ _ _ c.common-marked.ensures c.lowest_fit.ensures c.in_default.is
