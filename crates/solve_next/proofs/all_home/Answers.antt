-- What the library's `all` answers is the definition's test, as the closure gives that test of each terminal.
use Rattle.std.proofs.Common.{rules}
use borrow.Author.Tests.{tests}
use Rattle.move_carry.specs.Opens.{is_home_in}
use Rattle.text_judge.proofs.Every.{all_below}
use Rattle.solve_next.specs.Choosing.{all_home_in}
use Rattle.solve_next.proofs.all_home.Goals as goal

pub returns : goal.returns
unfolding all_home_in is_home_in
returns c = all_below _ _ _ _ c.all.ensures.ran (λ x b q k. search (rules, tests))
