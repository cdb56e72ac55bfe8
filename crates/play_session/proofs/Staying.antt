-- A session of a stage and a kind that there are gets no other: a board that was read makes it play or ends it, each
-- line begins with nothing read, and what is read of a line makes no other kind.
use mathlib.Core.Bool.{Bool}
use mathlib.Core.List.{List, [], ◌∷◌}
use Prim.Native.Nat.{ℕ, ◌≤◌}
use native.Mathlib.Omega.{arith}
use lib.Dec.{eqb}
use lib.ListN.{take}
use Rattle.lists.specs.Choice.{pick}
use Rattle.lists.proofs.Laws.{pick_keeps}
use Rattle.lists.specs.Lists.{index_of}
use Rattle.load.specs.Load.{Loaded, load_text}
use Rattle.play_lines.proofs.KindsRead.{kind_read}
use Rattle.play_session.specs.Machine.{Session}
use Rattle.play_session.specs.Machine.{playing_stage, over_stage, new_session, text_grown, grown, text_so_far, ready, board_line, line_ended, fed_session}
use Rattle.play_session.specs.Inner.{IsSession}

pub session_new : IsSession new_session
session_new = (omega arith, tt)

-- of two sessions one is taken
session_picked : (t : Bool) (s r : Session) → IsSession s → IsSession r → IsSession (pick t s r)
session_picked = pick_keeps IsSession

-- bytes of a line
session_grown : (s : Session) (l : List ℕ) → IsSession s → IsSession (grown s l)
unfolding grown
session_grown s l h = session_picked _ _ _ h (session_picked _ _ _ (h.0, kind_read s.scan l h.1) h)

-- a board's line, and any line
session_ready : (l : Loaded) (s : Session) → IsSession (ready l s)
session_ready l s =
    (pick_keeps (λ (n : ℕ). n ≤ over_stage) (eqb l.answer 0) playing_stage over_stage (omega arith) (omega arith), tt)

session_board : (s : Session) → IsSession s → IsSession (board_line s)
unfolding board_line
session_board s h = session_picked _ _ _ (session_ready (load_text (text_so_far s)) s) h

session_ended : (s : Session) → IsSession s → IsSession (line_ended s)
unfolding line_ended
session_ended s h = session_picked _ _ _ (session_board (text_grown s (10 ∷ [])) h) (session_picked _ _ _ (h.0, tt) h)

-- a piece of the input
pub session_fed : (s : Session) (bytes : List ℕ) → IsSession s → IsSession (fed_session s bytes)
unfolding fed_session
session_fed s bytes h =
    let line = take (index_of 10 bytes) bytes in
    session_picked _ _ _ (session_ended (grown s line) (session_grown s line h)) (session_grown s bytes h)
