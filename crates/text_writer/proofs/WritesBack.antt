-- A board over an accepted text's network writes that text, at every stage of play: the network of an accepted text is lawful, and the text
-- of a network that was read is the text it was read from.
use mathlib.Core.Path.{◌≡◌}
use mathlib.Core.Bool.{true}
use mathlib.Core.List.{List, ◌++◌}
use Prim.Native.Nat.{ℕ, ◌≤◌, ◌<◌}
use lib.ListN.{length, drop}
use borrow.Author.Tests.{le-leb, lt-leb}
use Rattle.lists.specs.Choice.{pick}
use Rattle.lists.proofs.Laws.{both_true}
use Rattle.board.specs.declared.Network.{Network}
use Rattle.board.specs.Record.{play_stage, finished_stage}
use Rattle.board.specs.Whole.{Board}
use Rattle.text_rules.specs.Rules.{lawful}
use Rattle.text_rules.proofs.Meaning.{lawful_tested}
use Rattle.text.specs.Text.{text_of}
use Rattle.text.specs.Results.{read_text, writable, write_text, written, write_text_in, written_in}
use Rattle.text.proofs.Accepted.{accepted_as, accepted_text}

writable_stage : (stage : ℕ) (net : Network) → (play_stage ≤ stage) × (stage ≤ finished_stage) → lawful net ≡ true → writable stage net ≡ true
unfolding writable
writable_stage stage net h l = both_true _ _ (both_true _ _ (le-leb _ _ h.0) (le-leb _ _ h.1)) l

writes : (b : Board) (buf : List ℕ) → writable b.stage b.network ≡ true → length (text_of b.network) ≤ length buf
    → (write_text b (length buf) ≡ record { answer = 0; used = length (text_of b.network) }) × (written b buf ≡ text_of b.network ++ drop (length (text_of b.network)) buf)
unfolding write_text_in written_in pick
writes b buf l fits = let e = le-leb (length (text_of b.network)) (length buf) fits in (rw (l, e), rw (l, e))

-- at every stage of play, into any buffer that is long enough, the text that was loaded, with the bytes past it kept
pub writes_loaded : (s : List ℕ) (b : Board) (buf : List ℕ) → read_text s ≡ accepted_as b.network → (play_stage ≤ b.stage) × (b.stage ≤ finished_stage) → length s ≤ length buf
    → (write_text b (length buf) ≡ record { answer = 0; used = length s }) × (written b buf ≡ s ++ drop (length s) buf)
writes_loaded s b buf h stage fits =
    let a = accepted_text s b.network h in
    let l = writable_stage b.stage b.network stage (lawful_tested b.network a.1) in
    rw a.0 (writes b buf l (rw a.0 at fits))

-- a buffer that is too short for the text is refused, and nothing is written
refuses_short : (b : Board) (buf : List ℕ) → writable b.stage b.network ≡ true → length buf < length (text_of b.network)
    → (write_text b (length buf) ≡ record { answer = 8; used = 0 }) × (written b buf ≡ buf)
unfolding write_text_in written_in pick
refuses_short b buf l short = let e = lt-leb (length (text_of b.network)) (length buf) short in (rw (l, e), rw (l, e))

pub short_refused : (s : List ℕ) (b : Board) (buf : List ℕ) → read_text s ≡ accepted_as b.network → (play_stage ≤ b.stage) × (b.stage ≤ finished_stage)
    → length buf < length s → (write_text b (length buf) ≡ record { answer = 8; used = 0 }) × (written b buf ≡ buf)
short_refused s b buf h stage short =
    let a = accepted_text s b.network h in
    let l = writable_stage b.stage b.network stage (lawful_tested b.network a.1) in
    refuses_short b buf l (rw a.0 at short)
