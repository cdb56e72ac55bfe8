-- What the library's `all` answers is the definition's test, as the closure gives that test of each route.
use Rattle.std.proofs.Common.{rules}
use borrow.Author.Tests.{tests}
use Rattle.text_judge.proofs.Every.{all_below}
use Rattle.report_routes.proofs.routes_fit.Goals as goal

pub returns : goal.returns
returns c = all_below _ _ _ _ c.all.ensures.ran (λ x b q k. search (rules, tests))
