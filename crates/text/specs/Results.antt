-- What the calls answer.
use Rattle.std.specs.Prelude.{Bool, Result, Ok, Err, List, ◌++◌, ℕ, leb, eqb, length, drop}
use Rattle.lists.specs.Choice.{pick, both, unless}
use Rattle.board.specs.Record.{empty_network, staged}
use Rattle.text.specs.Text.{Read, refused, got, layout, text_of}
use Rattle.text_rules.specs.Rules.{judged, lawful}
use Rattle.board.specs.declared.Network.{Network}
use Rattle.board.specs.Whole.{Board}
use Rattle.refusals.specs.declared.Refusal.{Refusal}
use Rattle.refusals.specs.Refusals.{number}

-- what reading a text gives: 0 and its network, or the number it is refused with and the empty network
pub record Reading : Type 0 where
  pub answer : ℕ
  pub network : Network

-- a refusal, with no network
abbrev pub refusal : ℕ → Reading
refusal n = record { answer = n; network = empty_network }

-- what the code gives: the network, or why it is refused
abbrev pub as_reading : Result Network Refusal → Reading
as_reading (Ok net) = record { answer = 0; network = net }
as_reading (Err r) = refusal (number r)

-- 0 with the network, or the refusal
unfoldable pub judgement : ℕ → Network → Reading
judgement n net = pick (eqb n 0) (record { answer = 0; network = net }) (refusal n)

unfoldable pub reading_of : Read Network → Reading
unfolding judged judgement
reading_of (refused n) = refusal n
reading_of (got net s) = judgement (judged net) net

-- reading a board text: 1 or 2 by the layout, then 3, 4, 5
unfoldable pub read_text : List ℕ → Reading
unfolding layout reading_of
read_text s = reading_of (layout s)

-- what the writer asks of a board: in play or finished, over a lawful network
unfoldable pub writable : ℕ → Network → Bool
writable stage net = both (staged stage) (lawful net)

-- what writing gives: 0 and the length of the text, or the number it is refused with and 0
pub record Written : Type 0 where
  pub answer : ℕ
  pub used : ℕ

-- a text that is refused, of which nothing is written
abbrev pub unwritten : ℕ → Written
unwritten n = record { answer = n; used = 0 }

-- what the code gives: the length of the text, or why it is refused
abbrev pub as_written : Result ℕ Refusal → Written
as_written (Ok n) = record { answer = 0; used = n }
as_written (Err r) = unwritten (number r)

-- writing into a buffer of n bytes: 29 where no board was loaded, then 8, else 0 and the length of the text; by the stage and the network
unfoldable pub write_text_in : ℕ → Network → ℕ → Written
write_text_in stage net n =
    unless (writable stage net) (unwritten 29)
    (unless (leb (length (text_of net)) n) (unwritten 8) (record { answer = 0; used = length (text_of net) }))

-- the buffer then: the text with the bytes past it kept, or as it was
unfoldable pub written_in : ℕ → Network → List ℕ → List ℕ
written_in stage net buf =
    pick (eqb (write_text_in stage net (length buf)).answer 0) (text_of net ++ drop (length (text_of net)) buf) buf

-- the same of a board
abbrev pub write_text : Board → ℕ → Written
write_text b n = write_text_in b.stage b.network n

abbrev pub written : Board → List ℕ → List ℕ
written b buf = written_in b.stage b.network buf
