-- Below 64 the shift and the remainder are the definition of bit c; from 64 on, a number below 2 ^ 64 has no bit.
use mathlib.Core.Path.{refl, sym, ◌∙◌}
use borrow.Author.Tests.{le-ltb}
use Rattle.sets.specs.Sets.{has_bit}
use Rattle.sets.specs.Inner.{word_width}
use Rattle.sets.proofs.Bits.{has_past}
use borrow.Author.Rules.{rules}
use Rattle.sets.proofs.word.has.Goals as goal

pub returns-then-c-lt-WIDTH : goal.returns-then-c-lt-WIDTH
unfolding has_bit
returns-then-c-lt-WIDTH c = refl

pub returns-else-c-lt-WIDTH : goal.returns-else-c-lt-WIDTH
returns-else-c-lt-WIDTH c =
    le-ltb _ _ c.if-c-lt-WIDTH.false ∙ sym (has_past c.args.m word_width _ (search rules) c.if-c-lt-WIDTH.false)
