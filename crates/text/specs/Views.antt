-- For inner contracts only: what the reader's calls stand for, a value with the text behind it, or a refusal.
use Rattle.std.specs.Prelude.{Result, Ok, Err, List, ℕ, drop}
use Rattle.text.specs.Text.{Read, refused, got, then, header, headed}
use Rattle.board.specs.declared.Network.{Network}
use Rattle.refusals.specs.declared.Refusal.{Refusal}
use Rattle.refusals.specs.Refusals.{number}
use Rattle.text.specs.declared.Taken.{Taken}

-- the value and the text behind the bytes used, or the number of the refusal
abbrev pub as_read : {A : Type 0} → Result (Taken A) Refusal → List ℕ → Read A
as_read (Ok t) s = got t.value (drop t.used s)
as_read (Err r) s = refused (number r)

-- the first line, as the network that it opens
unfoldable pub header_part : List ℕ → Read Network
unfolding header then
header_part s = then (header s) (λ ns s1. got (headed ns) s1)
