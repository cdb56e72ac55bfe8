-- The zeros below the lowest bit are as many as its number, and 64 where there is none (proofs/Scan.antt).
use Rattle.sets.specs.Inner.{word_width}
use Rattle.sets.proofs.Scan.{lowest_bit}
use Rattle.sets.proofs.word.lowest.Goals as goal

pub returns : goal.returns
returns c = lowest_bit word_width c.args.m
