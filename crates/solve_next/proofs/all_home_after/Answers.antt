-- Where this terminal is away, not every one is at the source.
use mathlib.Core.Path.{◌≡◌, sym, ◌∙◌}
use mathlib.Core.Bool.{false}
use mathlib.Core.List.{List}
use mathlib.Core.Logic.{◌≢◌}
use Prim.Native.Nat.{ℕ, ◌<◌}
use lib.ListN.{get_or}
use borrow.Author.Tests.{eqb-true}
use Rattle.lists.proofs.Laws.{Known, was_true, was_false, known, all_from}
use Rattle.move_carry.specs.Opens.{is_home_in}
use Rattle.solve_next.specs.Choosing.{all_home_in}
use Rattle.solve_next.proofs.all_home_after.Goals as goal

one_away : (terminals source : ℕ) (places : List ℕ) (i : ℕ) → i < terminals → get_or places i 0 ≢ source → false ≡ all_home_in terminals source places
unfolding all_home_in is_home_in
one_away terminals source places i low out = go (known (all_home_in terminals source places))
  where
    go : Known (all_home_in terminals source places) → false ≡ all_home_in terminals source places
    go (was_true t) = absurd (out (eqb-true _ _ (all_from (is_home_in source places) terminals i t low)))
    go (was_false t) = sym t

pub returns-then-place-source : goal.returns-then-place-source
returns-then-place-source c =
    one_away _ _ _ _ c.if-first-terminals.true (λ q. c.if-place-source.true (c.at_or-place.ensures ∙ q))
