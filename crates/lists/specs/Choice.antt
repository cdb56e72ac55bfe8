-- Choice by a test.
use Rattle.std.specs.Prelude.{Bool, true, false}

-- a where the test holds, else b
unfoldable pub pick : {A : Type 0} → Bool → A → A → A
pick true a b = a
pick false a b = b

-- both tests hold
unfoldable pub both : Bool → Bool → Bool
both true b = b
both false b = false

-- one of the tests holds, or both
unfoldable pub either : Bool → Bool → Bool
either true b = true
either false b = b

-- a row of refusals, read from the first to the last: n unless a test holds, or when one does, else what the rest says
abbrev pub unless : {A : Type 0} → Bool → A → A → A
unless ok n rest = pick ok rest n

abbrev pub when : {A : Type 0} → Bool → A → A → A
when bad n rest = pick bad n rest
