-- The numbers that s has not, and those of m among them: with what both have they are m.
use Prim.Native.Nat.{◌-◌}
use native.Mathlib.Omega.{arith}
use lib.Bits.{and_comm}
use Rattle.std.proofs.lemmas.Nat.{and-not}
use Rattle.sets.specs.Inner.{word_width}
use borrow.Author.Rules.{rules}
use Rattle.sets.proofs.without.Goals as goal

pub returns : goal.returns
returns c = omega (
  arith,
  and-not word_width c.args.s c.args.m (search rules) (search rules),
  and_comm c.args.m (18446744073709551615 - c.args.s),
  and_comm c.args.m c.args.s,
)
