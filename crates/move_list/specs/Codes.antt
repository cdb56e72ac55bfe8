-- Lists of calls in numbers, and answers and journals written into buffers of numbers: how other programs drive the engine.
use Rattle.std.specs.Prelude.{List, [], ◌∷◌, ◌++◌, ℕ, ◌-◌, leb, eqb, length, take, drop}
use Rattle.lists.specs.Choice.{pick, both}
use Rattle.move_cycle.specs.Steps.{steps_of}
use Rattle.move_list.specs.Calls.{Call, carry, turn, undo, hint, finish}

-- the bytes from a up to c; none where there are no such
unfoldable pub part : List ℕ → ℕ → ℕ → List ℕ
part steps a c = pick (both (leb a c) (leb c (length steps))) (take (c - a) (drop a steps)) []

-- each kind of call has its number; 5 keep, 6 back, 7 careful finish, 8 careful hint, 9 close and 10 open are kept for calls to come
abbrev pub carry_code : ℕ
carry_code = 0

abbrev pub turn_code : ℕ
turn_code = 1

abbrev pub undo_code : ℕ
undo_code = 2

abbrev pub hint_code : ℕ
hint_code = 3

abbrev pub finish_code : ℕ
finish_code = 4

-- the call of three numbers: a carry of terminal a over edge c, a turn along the steps of the bytes from a up to c, an undo, a hint, a finish; a kind without a number is no call
unfoldable pub call_of : List ℕ → ℕ → ℕ → ℕ → List Call
call_of steps kind a c =
    pick (eqb kind carry_code) (carry a c ∷ [])
    (pick (eqb kind turn_code) (turn (steps_of (part steps a c)) ∷ [])
    (pick (eqb kind undo_code) (undo ∷ [])
    (pick (eqb kind hint_code) (hint ∷ [])
    (pick (eqb kind finish_code) (finish ∷ [])
    []))))

-- three numbers a call, and what is no call is left out; one or two numbers left over are none
unfoldable pub calls_of : List ℕ → List ℕ → List Call
calls_of steps [] = []
calls_of steps (k ∷ []) = []
calls_of steps (k ∷ a ∷ []) = []
calls_of steps (k ∷ a ∷ c ∷ codes) = call_of steps k a c ++ calls_of steps codes
