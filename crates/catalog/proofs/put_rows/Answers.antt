-- The rows that are left fit in the list; a row is what the code lends.
use native.Mathlib.Omega.{arith}
use native.Mathlib.Nat.{mul-le-mul_left}
use borrow.Author.Rules.{rules}
use lib.ListN.{drop, length-take}
use Prim.Native.Nat.{◌*◌, ◌≤◌}
use Rattle.catalog.proofs.Laws.{row_fits}
use Rattle.catalog.proofs.put_rows.Goals as goal

pub put_rows-requires : goal.put_rows-requires
put_rows-requires c κs within =
    let w = c.args.width in
    let small : c.args.count * w ≤ c.args.count * 4 = mul-le-mul_left c.args.count (omega arith) in (
      search rules,
      (
        search rules,
        (
          omega arith,
          (
            omega arith,
            (
              (λ i less. omega (arith, row_fits w i c.args.count less)),
              λ i given less same. (same, omega (arith, length-take w (drop (w * i) c.args.t.now))),
            ),
          ),
        ),
      ),
    )

pub returns : goal.returns
returns c =
    let put = c.put_rows.ensures in
    let small : c.args.count * c.args.width ≤ c.args.count * 4 = mul-le-mul_left c.args.count (omega arith) in record {
      value = put.value;
      upper_bound = omega (arith, put.upper_bound);
      buf_after = put.buf_after;
    }
