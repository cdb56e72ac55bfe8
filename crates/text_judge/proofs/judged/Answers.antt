-- That the vertices are within the limit is one of the counts asked for.
use borrow.Author.Tests.{leb-true}
use Rattle.lists.proofs.Laws.{both_left, both_right}
use Rattle.text_judge.proofs.judged.Goals as goal

pub all_balanced-requires : goal.all_balanced-requires
all_balanced-requires c = leb-true _ _ (both_right _ _ (both_left _ _ c.requires))
