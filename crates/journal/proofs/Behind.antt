-- Places behind the standing moves are no part of a board: it is the same whatever is packed there, and so are its first moves.
use mathlib.Core.Path.{◌≡◌, refl, ap, ◌∙◌}
use mathlib.Core.List.{List, [], ◌∷◌}
use Prim.Native.Nat.{ℕ, zero, suc, ◌+◌}
use native.Mathlib.Omega.{arith}
use lib.ListN.{get_or, take}
use Rattle.board.specs.Record.{blank}
use Rattle.board.specs.Whole.{Entry, Table}
use Rattle.journal.specs.Words.{packed, unpacked, entries_of, standing, journal_of, whole_of, packed_on}
use Rattle.journal.proofs.Laws.{map-set, keep_standing}

journal_behind : (m k : ℕ) (es : List Entry) (w : List (List ℕ)) → journal_of m (packed_on k m es w) ≡ journal_of m w
unfolding packed_on
journal_behind m zero es w = refl
journal_behind m (suc k) es w =
    ap (standing m) (map-set unpacked (packed_on k m es w) (m + k) (packed (get_or es (m + k) blank)))
    ∙ keep_standing m (m + k) (entries_of (packed_on k m es w)) _ (omega arith) ∙ journal_behind m k es w

pub whole_behind : (t : Table) (k : ℕ) (es : List Entry) (w : List (List ℕ)) → whole_of t (packed_on k t.moves es w) ≡ whole_of t w
whole_behind t k es w = λ i. record {
  stage = t.stage;
  network = t.network;
  acyclic = t.acyclic;
  flows = t.flows;
  marks = t.marks;
  places = t.places;
  journal = journal_behind t.moves k es w i;
  moves = t.moves;
  finish_from = t.finish_from;
}

pub take-standing : (m : ℕ) (es : List Entry) → take m (standing m es) ≡ take m es
unfolding standing
take-standing zero es = refl
take-standing (suc m) [] = refl
take-standing (suc m) (e ∷ es) = ap (λ (t : List Entry). e ∷ t) (take-standing m es)
