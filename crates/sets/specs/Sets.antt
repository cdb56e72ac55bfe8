-- Sets of numbers: c is in the set m where bit c of m is 1.
use Rattle.std.specs.Prelude.{Bool, ℕ, zero, suc, ◌-◌, ◌^◌, ◌/◌, ◌%◌, eqb}
use Rattle.std.specs.Int.Bits.{bit_or, bit_and}
use Rattle.lists.specs.Choice.{pick}

-- the empty set
abbrev pub none : ℕ
none = 0

-- what the code's `EdgeSet` is to the definitions: its one word; the set that it stands for; and the code's empty set
abbrev pub EdgeWord : Type 0
EdgeWord = ℕ

abbrev pub set_of : EdgeWord → ℕ
set_of m = m

abbrev pub no_word : EdgeWord
no_word = none

-- whether c is in the set
unfoldable pub has_bit : ℕ → ℕ → Bool
has_bit m c = eqb (m / 2 ^ c % 2) 1

-- the set with c
unfoldable pub with_bit : ℕ → ℕ → ℕ
with_bit m c = bit_or m (2 ^ c)

-- the numbers of both sets; those that are in both; and those of m that are not in s
abbrev pub joined : ℕ → ℕ → ℕ
joined m s = bit_or m s

abbrev pub common : ℕ → ℕ → ℕ
common m s = bit_and m s

abbrev pub without : ℕ → ℕ → ℕ
without m s = m - common m s

-- the set with those of i, i + 1, .., i + k - 1 that have p
unfoldable pub collect : (ℕ → Bool) → ℕ → ℕ → ℕ → ℕ
collect p m i zero = m
collect p m i (suc k) = collect p (pick (p i) (with_bit m i) m) (suc i) k
