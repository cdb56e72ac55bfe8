-- The sums are those of each vertex (proofs/Sums.antt). They start at 0 and values are added to an array at most twice, so they stay within what `add_keyed` asks for.
use mathlib.Core.Path.{◌∙◌}
use Rattle.board.specs.Limits.{max_vertices}
use Rattle.text_judge.proofs.Sums.{all-balanced, nothing_most, added_most}
use Rattle.std.proofs.Common.{rules}
use borrow.Author.Tests.{tests}
use Rattle.text_judge.proofs.Every.{all_below}
use Rattle.text_judge.proofs.all_balanced.Goals as goal

pub add_keyed-requires : goal.add_keyed-requires
add_keyed-requires c = record {
  keys_len = search rules;
  by_index = nothing_most;
}

pub add_keyed-requires-2 : goal.add_keyed-requires-2
add_keyed-requires-2 c = record {
  keys_len = search rules;
  by_index = nothing_most;
}

pub add_keyed-requires-3 : goal.add_keyed-requires-3
add_keyed-requires-3 c =
    let at_add_keyed2 = c.add_keyed-2 in record {
      keys_len = search rules;
      by_index = added_most at_add_keyed2.new.sums at_add_keyed2.ensures.by_index_3;
    }

pub returns : goal.returns
returns c =
    all_below _ _ _ _ c.all.ensures.ran (λ x b q k. search (rules, tests))
    ∙ all-balanced c.args.net max_vertices c.add_keyed.new.sums c.add_keyed-2.new.sums c.add_keyed-3.new.sums
    c.add_keyed.ensures.by_index_2 c.add_keyed-2.ensures.by_index_2 (search rules) c.add_keyed-3.ensures.by_index_2 c.requires
