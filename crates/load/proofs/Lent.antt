-- A table before the first move stands with an empty journal for the board whose places of the journal are all blank, and so does the closed one.
use mathlib.Core.Path.{◌≡◌, refl, sym, ap, ◌∙◌}
use mathlib.Core.List.{List, ◌∷◌, map}
use mathlib.Core.Logic.{◌⊎◌, inl, inr, ◌≢◌}
use Prim.Native.Nat.{ℕ, zero, suc, ◌≤◌}
use lib.ListN.{replicate}
use Rattle.board.specs.Limits.{max_vertices, max_moves}
use Rattle.board.specs.Record.{blank, closed_board}
use Rattle.board.specs.declared.Network.{Network}
use Rattle.journal.specs.Words.{blank_words, unpacked, standing, journal_of, whole_of, no_words, packed_all}
use Rattle.board.specs.Record.{closed_table}
use Rattle.board.specs.Whole.{Entry, Board, Table}
use Rattle.journal.proofs.Places.{packed_none}
use Rattle.lists.proofs.Laws.{eq_or_ne}
use Rattle.text.specs.Results.{as_reading, read_text}
use Rattle.load.specs.Load.{acyclic_of, opened, load_text}
use Rattle.load.specs.Inner.{opened_table}
use Rattle.load.proofs.Loads.{bounded, refused_load, accepted_load, load_accepted, load_refused}
use Rattle.load.specs.Lent.{loaded_of}
use Rattle.std.specs.Prelude.{Result, Ok, Err}
use Rattle.refusals.specs.declared.Refusal.{Refusal}
use Rattle.refusals.proofs.Laws as refusals

none_stand : (n : ℕ) → standing 0 (map unpacked (replicate n blank_words)) ≡ replicate n blank
unfolding standing
none_stand zero = refl
none_stand (suc n) = ap (λ (es : List Entry). blank ∷ es) (none_stand n)

pub no_moves : journal_of 0 no_words ≡ replicate max_moves blank
no_moves = none_stand max_moves

pub closed_whole : whole_of closed_table no_words ≡ closed_board
unfolding closed_table closed_board
closed_whole = rw no_moves

pub opened_whole : (net : Network) (flows : List ℕ) → whole_of (opened_table net flows) no_words ≡ opened net flows
opened_whole net flows = rw no_moves

-- what the code gives, by what the reader gave
module _ (s : List ℕ) (x : Result Network Refusal) (read : as_reading x ≡ read_text s) (words : List (List ℕ)) (empty : words ≡ no_words) where
  pub refused_lent : {r : Refusal} → x ≡ Err r → loaded_of (Err r) words ≡ load_text s
  refused_lent {r} e = refused_load s _ (sym (ap as_reading e) ∙ read) (whole_of closed_table words) (refusals.refused r) (rw empty closed_whole)

  pub accepted_lent : {net : Network} (flows : List ℕ) (b : Table) → x ≡ Ok net → flows ≡ acyclic_of net → b ≡ opened_table net flows → loaded_of (Ok b) words ≡ load_text s
  accepted_lent {net} flows b e f o = accepted_load s _ (sym (ap as_reading e) ∙ read) flows (whole_of b words) refl f (rw (o, empty) (opened_whole net flows))

  pub net_bounded : {net : Network} → x ≡ Ok net → net.vertices ≤ max_vertices
  net_bounded e = bounded s _ (sym (ap as_reading e) ∙ read) refl

-- no move stands on a board that was loaded, nor on the closed one: the words of an empty journal are those of its own
pub loaded_words : (s : List ℕ) → no_words ≡ packed_all (load_text s).board.journal
unfolding closed_board
loaded_words s = go (eq_or_ne (load_text s).answer 0)
  where
    go : ((load_text s).answer ≡ 0) ⊎ ((load_text s).answer ≢ 0) → no_words ≡ packed_all (load_text s).board.journal
    go (inl h) = sym (packed_none max_moves) ∙ ap (λ (b : Board). packed_all b.journal) (sym (load_accepted s h))
    go (inr h) = sym (packed_none max_moves) ∙ ap (λ (b : Board). packed_all b.journal) (sym (load_refused s h))
