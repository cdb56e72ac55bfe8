-- A code stands for a step up exactly where it is at least `code_up` (proofs/Codes.antt).
use Rattle.move_cycle.proofs.Codes.{up_code}
use Rattle.move_cycle.proofs.is_up.Goals as goal

pub returns : goal.returns
returns c = up_code _
