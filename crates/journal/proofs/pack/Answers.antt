-- The branch says which move it is.
use mathlib.Core.Path.{sym, ap, ◌∙◌}
use Rattle.board.specs.Whole.{Move, Carry, Turn, relocation_of, augmentation_of, move_of}
use Rattle.journal.proofs.Laws.{unpacked-packed}
use Rattle.journal.specs.Words.{move_words}
use borrow.Author.Rules.{rules}
use Rattle.journal.proofs.pack.Goals as goal

pub returns-in-Carry : goal.returns-in-Carry
returns-in-Carry c =
    let is = ap move_of c.in-Carry.is in record {
      value = sym (ap move_words is);
      result_value = unpacked-packed (Carry (relocation_of c.in-Carry.r)) (search rules, search rules) ∙ ap (λ (m : Move). record { step = m }) (sym is);
    }

pub returns-in-Turn : goal.returns-in-Turn
returns-in-Turn c =
    let is = ap move_of c.in-Turn.is in record {
      value = sym (ap move_words is);
      result_value = unpacked-packed (Turn (augmentation_of c.in-Turn.a)) (search rules) ∙ ap (λ (m : Move). record { step = m }) (sym is);
    }
