-- What a hint gives, as records.
use Rattle.std.specs.Prelude.{List, ℕ}

-- a move to make: its kind, and its parts
pub record Advice : Type 0 where
  pub kind : ℕ
  pub terminal : ℕ
  pub edge : ℕ
  pub count : ℕ
  pub steps : List ℕ

-- what a hint gives: 0 and the move that a finish would make next, or none; or the number that it is refused with
pub record Suggestion : Type 0 where
  pub answer : ℕ
  pub advice : Advice
