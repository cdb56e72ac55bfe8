-- Each range is one citation: from 10 ^ k up to one below 10 ^ (k + 1) there are k + 1 digits. The first range holds 0 as well, one digit by itself.
use mathlib.Core.Path.{sym, ap}
use native.Mathlib.Omega.{arith}
use lib.ListN.{length}
use Rattle.decimal.proofs.Laws.{decimal_small, decimal_exact}
use Rattle.decimal.proofs.digit_count.Goals as goal

pub returns-in-0-to-9 : goal.returns-in-0-to-9
returns-in-0-to-9 c = sym (ap length (decimal_small _ (omega arith)))

pub returns-in-10-to-99 : goal.returns-in-10-to-99
returns-in-10-to-99 c = sym (decimal_exact 1 _ (omega arith) (omega arith))

pub returns-in-100-to-999 : goal.returns-in-100-to-999
returns-in-100-to-999 c = sym (decimal_exact 2 _ (omega arith) (omega arith))

pub returns-in-1000-to-9999 : goal.returns-in-1000-to-9999
returns-in-1000-to-9999 c = sym (decimal_exact 3 _ (omega arith) (omega arith))

pub returns-in-10000-to-99999 : goal.returns-in-10000-to-99999
returns-in-10000-to-99999 c = sym (decimal_exact 4 _ (omega arith) (omega arith))

pub returns-in-100000-to-999999 : goal.returns-in-100000-to-999999
returns-in-100000-to-999999 c = sym (decimal_exact 5 _ (omega arith) (omega arith))

pub returns-in-1000000-to-9999999 : goal.returns-in-1000000-to-9999999
returns-in-1000000-to-9999999 c = sym (decimal_exact 6 _ (omega arith) (omega arith))

pub returns-in-10000000-to-99999999 : goal.returns-in-10000000-to-99999999
returns-in-10000000-to-99999999 c = sym (decimal_exact 7 _ (omega arith) (omega arith))

pub returns-in-100000000-to-999999999 : goal.returns-in-100000000-to-999999999
returns-in-100000000-to-999999999 c = sym (decimal_exact 8 _ (omega arith) (omega arith))

pub returns-in-1000000000-to-4294967295 : goal.returns-in-1000000000-to-4294967295
returns-in-1000000000-to-4294967295 c = sym (decimal_exact 9 _ (omega arith) (omega arith))
