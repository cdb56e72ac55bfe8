-- The lines of a play: document 01, "Program `play`".
use Rattle.std.specs.Prelude.{Bool, true, false, List, [], ◌∷◌, ℕ, eqb, length, get_or}
use Rattle.lists.specs.Choice.{pick, both}
use Rattle.std.specs.Prelude.{Option, Some, None}
use Rattle.decimal.specs.Decimal.{number_of}
use Rattle.graph_flows.specs.Trails.{Step, down, up}
use Rattle.move_list.specs.Calls.{Call, carry, turn, undo, hint, finish}

-- what a line asks for: a call, or nothing, where it is "a line of another form"
pub data Order : Type 0 where
  call : Call → Order
  other : Order

-- a byte in front of the first field
unfoldable pub onto : ℕ → List (List ℕ) → List (List ℕ)
onto c [] = (c ∷ []) ∷ []
onto c (f ∷ fs) = (c ∷ f) ∷ fs

-- the fields of a line: what stands between its commas
unfoldable pub fields_of : List ℕ → List (List ℕ)
unfolding onto
fields_of [] = [] ∷ []
fields_of (c ∷ s) = elim (eqb c 44) [ true ↦ [] ∷ fields_of s | false ↦ onto c (fields_of s) ]

-- whether a field is this letter alone
unfoldable pub is_letter : ℕ → List ℕ → Bool
is_letter x f = both (eqb (length f) 1) (eqb (get_or f 0 0) x)

-- `K,mill,channel`: "Numbers are written as in the board text"
abbrev pub carry_read : Option ℕ → Option ℕ → Order
carry_read (Some i) (Some e) = call (carry i e)
carry_read (Some i) None = other
carry_read None n = other

unfoldable pub carry_of : List (List ℕ) → Order
carry_of [] = other
carry_of (i ∷ []) = other
carry_of (i ∷ e ∷ []) = carry_read (number_of i) (number_of e)
carry_of (i ∷ e ∷ f ∷ fs) = other

-- a step in front of a turn
abbrev pub in_front : Step → Order → Order
in_front s (call (carry i e)) = other
in_front s (call (turn w)) = call (turn (s ∷ w))
in_front s (call undo) = other
in_front s (call hint) = other
in_front s (call finish) = other
in_front s other = other

-- a pair of "channel and way (D or U)" in front of a turn
abbrev pub pair_read : Option ℕ → List ℕ → Order → Order
pair_read (Some e) way rest = pick (is_letter 68 way) (in_front (down e) rest) (pick (is_letter 85 way) (in_front (up e) rest) other)
pair_read None way rest = other

-- `T` with such pairs; "`T` alone is the empty turn"
unfoldable pub turn_of : List (List ℕ) → Order
turn_of [] = call (turn [])
turn_of (e ∷ []) = other
turn_of (e ∷ way ∷ fs) = pair_read (number_of e) way (turn_of fs)

-- `H`, `U`, `F`, with nothing behind them
abbrev pub alone : Order → List (List ℕ) → Order
alone o [] = o
alone o (f ∷ fs) = other

unfoldable pub by_fields : List (List ℕ) → Order
by_fields [] = other
by_fields (x ∷ fs) =
    pick (is_letter 75 x) (carry_of fs)
    (pick (is_letter 84 x) (turn_of fs)
    (pick (is_letter 72 x) (alone (call hint) fs) (pick (is_letter 85 x) (alone (call undo) fs) (pick (is_letter 70 x) (alone (call finish) fs) other))))

-- a line, without its line feed
unfoldable pub order_of : List ℕ → Order
unfolding fields_of is_letter carry_of turn_of by_fields
order_of s = by_fields (fields_of s)
