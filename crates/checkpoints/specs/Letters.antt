-- The letters of document 02, E2, "Places to come back to". What is kept under a letter is a checkpoint.
use Rattle.std.specs.Prelude.{ℕ, Option, Some, None, ◌+◌, ◌-◌, leb, ltb}
use Rattle.lists.specs.Choice.{pick, both}

-- "Letters A to D": how many there are, and the byte of the first
abbrev pub letters : ℕ
letters = 4

abbrev pub first_letter : ℕ
first_letter = 65

-- the number of a letter, from 0; a byte outside A to D has that of none
unfoldable pub letter_of : ℕ → ℕ
letter_of letter = pick (both (leb first_letter letter) (ltb letter (first_letter + letters))) (letter - first_letter) letters

-- the same as the code gives it
unfoldable pub place_of : ℕ → Option ℕ
place_of k = pick (ltb k letters) (Some k) None
