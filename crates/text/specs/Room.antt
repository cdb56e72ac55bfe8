-- For inner contracts only: where texts are written, so that no place of a buffer wraps.
use Rattle.std.specs.Prelude.{ℕ, ◌+◌}
use Rattle.text.specs.Sizes.{report_bytes}

-- where a text begins at most, and where a line of it does
abbrev pub start_most : ℕ
start_most = 131072

abbrev pub line_start_most : ℕ
line_start_most = start_most + report_bytes
