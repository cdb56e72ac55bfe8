-- A session of a stage and a kind that there are gets no other, whatever bytes it is handed: line after line it goes on
-- as `fed_session` says.
use mathlib.Core.List.{List, [], ◌∷◌}
use Prim.Native.Nat.{ℕ, zero, suc}
use lib.ListN.{length, drop}
use Rattle.play_session.specs.Machine.{Session}
use Rattle.play_session.specs.Machine.{taken_of, fed_session}
use Rattle.play_session.specs.Inner.{IsSession}
use Rattle.play_session.proofs.Staying.{session_fed}
use Rattle.descriptors.specs.Serving.{served_lines, served_over}

session_lines : (k : ℕ) (s : Session) (bytes : List ℕ) → IsSession s → IsSession (served_lines k s bytes)
unfolding served_lines
session_lines zero s bytes h = h
session_lines (suc k) s [] h = h
session_lines (suc k) s (c ∷ cs) h =
    let rest = drop (taken_of (c ∷ cs)) (c ∷ cs) in
    session_lines k (fed_session s (c ∷ cs)) rest (session_fed s (c ∷ cs) h)

pub session_served : (s : Session) (bytes : List ℕ) → IsSession s → IsSession (served_over s bytes)
session_served s bytes = session_lines (length bytes) s bytes
