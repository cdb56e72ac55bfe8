-- The input of the program `play`, handed to its session line by line.
use Rattle.std.specs.Prelude.{◌≡◌, Bool, true, List, [], ◌∷◌, ◌++◌, ℕ, zero, suc, ◌≤◌, length, take, drop}
use Rattle.play_session.specs.Machine.{Session}
use Rattle.play_session.specs.Machine.{over_stage, taken_of, fed_session, fed_told}

-- the session behind the first k lines of the bytes; the last of them may lack its line feed
unfoldable pub served_lines : ℕ → Session → List ℕ → Session
served_lines zero s bytes = s
served_lines (suc k) s [] = s
served_lines (suc k) s (c ∷ cs) = served_lines k (fed_session s (c ∷ cs)) (drop (taken_of (c ∷ cs)) (c ∷ cs))

-- the session behind all of the bytes: they have no more lines than bytes
abbrev pub served_over : Session → List ℕ → Session
served_over s bytes = served_lines (length bytes) s bytes

-- what is printed for the first k lines, and for all of the bytes
unfoldable pub told_lines : ℕ → Session → List ℕ → List ℕ
told_lines zero s bytes = []
told_lines (suc k) s [] = []
told_lines (suc k) s (c ∷ cs) = fed_told s (c ∷ cs) ++ told_lines k (fed_session s (c ∷ cs)) (drop (taken_of (c ∷ cs)) (c ∷ cs))

abbrev pub told_over : Session → List ℕ → List ℕ
told_over s bytes = told_lines (length bytes) s bytes

-- r is the session s that was handed so many of the bytes, all of them where it goes on; and then its board was not refused
pub record ServedPart (s : Session) (bytes : List ℕ) (r : Session) (going : Bool) : Type 0 where
  pub count : ℕ
  pub within : count ≤ length bytes
  pub session : r ≡ served_over s (take count bytes)
  pub whole : going ≡ true → r ≡ served_over s bytes
  pub unrefused : going ≡ true → r.stage ≡ over_stage → ⊥

-- ---- an input that comes in pieces

abbrev pub input_of : List (List ℕ) → List ℕ
input_of [] = []
input_of (p ∷ ps) = p ++ input_of ps

-- the session behind them, and what is printed for them
abbrev pub served_pieces : Session → List (List ℕ) → Session
served_pieces s [] = s
served_pieces s (p ∷ ps) = served_pieces (served_over s p) ps

abbrev pub told_pieces : Session → List (List ℕ) → List ℕ
told_pieces s [] = []
told_pieces s (p ∷ ps) = told_over s p ++ told_pieces (served_over s p) ps
