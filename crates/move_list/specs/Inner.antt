-- For inner contracts only.
use Rattle.std.specs.Prelude.{ℕ}

-- no slice is longer than this
abbrev pub last_place : ℕ
last_place = 9223372036854775807
