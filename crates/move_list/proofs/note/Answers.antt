-- The move of a hint is stored where there is a place for it; past the end nothing is.
use Rattle.move_list.proofs.Coded.{nothing_noted, one_noted}
use Rattle.solve_next.specs.Views.{advice_given}
use Rattle.move_list.proofs.note.Goals as goal

pub returns-then-buf-k : goal.returns-then-buf-k
returns-then-buf-k c =
    let all = nothing_noted _ _ (advice_given c.args.advice) c.if-buf-k.true in record {
      value = all.0;
      buf_after = all.1;
    }

pub returns : goal.returns
returns c = record {
  value = one_noted _ _ c.if-buf-k.false;
  buf_after = c.put_advice.ensures;
}
