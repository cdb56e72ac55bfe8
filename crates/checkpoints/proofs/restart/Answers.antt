-- The load gives answer and board; closed tables stand for letters under which nothing is kept.
use Rattle.checkpoints.proofs.Wholes.{restarted}
use Rattle.checkpoints.proofs.restart.Goals as goal

pub returns : goal.returns
returns c =
    let gave = c.load-loaded.ensures in record {
      journals_after = λ journals four. restarted _ _ c.load-loaded.new.journal _ journals four gave.journal_after c.closed-closed.ensures;
      journal_after = gave.journal_after_2;
    }
