-- Each route has room in its row.
use native.Mathlib.Omega.{arith}
use borrow.Author.Rules.{rules}
use lib.ListN.{get_or, length-take}
use mathlib.Core.List.{[]}
use Rattle.report.proofs.put_routes.Goals as goal

pub put_rows-requires : goal.put_rows-requires
put_rows-requires c κs within = (
  search rules,
  (
    search rules,
    (
      omega arith,
      (
        omega arith,
        (
          (λ i less. (omega arith, c.requires.1.1 i less)),
          λ i given less same. (same, omega (arith, c.requires.1.1 i less, length-take (get_or c.args.routes.now.counts i 0) (get_or c.args.routes.now.rows i []))),
        ),
      ),
    ),
  ),
)
