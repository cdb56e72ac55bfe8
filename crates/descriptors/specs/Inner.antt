-- For inner contracts only: a session behind some pieces of its input.
use Rattle.std.specs.Prelude.{◌≡◌, List, ℕ}
use Rattle.play_session.specs.Machine.{Session}
use Rattle.descriptors.specs.Serving.{served_pieces}

-- r is the session s behind some pieces
pub record BehindPieces (s r : Session) : Type 0 where
  pub pieces : List (List ℕ)
  pub session : r ≡ served_pieces s pieces
