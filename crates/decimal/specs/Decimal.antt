-- Numbers as decimal digits: how a field is read, and how a number is written.
use Rattle.std.specs.Prelude.{true, false, List, [], ◌∷◌, ◌++◌, ℕ, zero, suc, ◌+◌, ◌-◌, ◌*◌, ◌/◌, ◌%◌, leb, ltb, eqb, get_or, length}
use Rattle.lists.specs.Choice.{pick, both}
use Rattle.std.specs.Prelude.{Option, Some, None}

-- the most digits that a field may have
abbrev pub max_digits : ℕ
max_digits = 7

-- the number that digits write after those of acc; every byte must be a digit
unfoldable pub value_from : ℕ → List ℕ → Option ℕ
value_from acc [] = Some acc
value_from acc (d ∷ ds) = elim (both (leb 48 d) (leb d 57)) [ true ↦ value_from (acc * 10 + (d - 48)) ds | false ↦ None ]

-- a whole field: one to seven digits, and 0 leads only where it stands alone
unfoldable pub number_of : List ℕ → Option ℕ
unfolding value_from
number_of s =
    pick (both (ltb 0 (length s)) (leb (length s) max_digits))
    (pick (both (ltb 1 (length s)) (eqb (get_or s 0 0) 48)) None (value_from 0 s))
    None

-- the last digits of n, at most k of them
unfoldable pub decimal_from : ℕ → ℕ → List ℕ
decimal_from zero n = []
decimal_from (suc k) n = elim (ltb n 10) [ true ↦ (48 + n) ∷ [] | false ↦ decimal_from k (n / 10) ++ ((48 + n % 10) ∷ []) ]

-- n in decimal, with no leading zero; n + 1 is more than its digits
unfoldable pub decimal : ℕ → List ℕ
unfolding decimal_from
decimal n = decimal_from (suc n) n
