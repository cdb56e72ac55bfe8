-- For inner contracts only: how wide a set is in the code, and what lists of its words stand for.
use Rattle.std.specs.Prelude.{Bool, List, ℕ, ◌-◌, ◌^◌, eqb}
use Rattle.lists.specs.Choice.{pick}
use Rattle.lists.specs.Lists.{lowest}
use Rattle.sets.specs.Sets.{none, EdgeWord, has_bit}

-- how many numbers a word has room for, and how many a set of edges
abbrev pub word_width : ℕ
word_width = 64

abbrev pub set_width : ℕ
set_width = word_width

-- the sets that a list of the code's `EdgeSet` stands for (`set_of`)
abbrev pub sets_of : List EdgeWord → List ℕ
sets_of ms = ms

-- whether a set is empty
abbrev pub is_empty : ℕ → Bool
is_empty m = eqb m none

-- the set without c
unfoldable pub dropped : ℕ → ℕ → ℕ
dropped m c = pick (has_bit m c) (m - 2 ^ c) m

-- the lowest number of the set below n, n where there is none; and of a set of edges
abbrev pub lowest_below : ℕ → ℕ → ℕ
lowest_below n m = lowest (has_bit m) 0 n

abbrev pub lowest_in : ℕ → ℕ
lowest_in m = lowest_below set_width m
