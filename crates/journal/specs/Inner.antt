-- For inner contracts only: whether a place of the journal holds the blank.
use Rattle.std.specs.Prelude.{Bool, true, false, List, [], ◌∷◌, ℕ, zero, suc, eqb, get_or}
use Rattle.lists.specs.Choice.{both}
use Rattle.journal.specs.Words.{blank_words}

-- how many words a place of the journal has: the code's `WORDS`
abbrev pub place_words : ℕ
place_words = 5

-- just so many zeros
unfoldable pub is_zeros : ℕ → List ℕ → Bool
is_zeros zero [] = true
is_zeros zero (x ∷ w) = false
is_zeros (suc n) [] = false
is_zeros (suc n) (x ∷ w) = both (eqb x 0) (is_zeros n w)

-- a place holds the blank; past the end there is nothing else
unfoldable pub is_blank_at : List (List ℕ) → ℕ → Bool
is_blank_at words i = is_zeros place_words (get_or words i blank_words)
