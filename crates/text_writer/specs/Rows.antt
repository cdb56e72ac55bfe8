-- For inner contracts only: the rows that are written, a line each.
use Rattle.std.specs.Prelude.{List, ℕ}

-- row i for each place i, and how many numbers a row has at most
pub record Rows : Type 0 where
  pub row : ℕ → List ℕ
  pub width : ℕ
