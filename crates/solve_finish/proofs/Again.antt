-- A run whose words do not hold all its moves, made once more. Blanking the places behind the moves leaves the board as it is, and then each place that the run
-- needs is blank; so the second run comes to the same end, and its words hold all the moves. What the first one filled and what was blanked is packed over.
use mathlib.Core.Path.{◌≡◌, sym, ap, ◌∙◌}
use mathlib.Core.Bool.{true, false≢true}
use mathlib.Core.List.{List, []}
use mathlib.Core.Logic.{◌⊎◌, inl, inr}
use Prim.Native.Nat.{ℕ, ◌-◌, ◌<◌, ◌≤◌}
use native.Mathlib.Omega.{arith}
use Rattle.lists.proofs.Laws.{lt_or_ge}
use Rattle.board.specs.Whole.{Entry, Board, Table}
use Rattle.journal.specs.Words.{whole_of, journal_of, packed_on}
use Rattle.journal.specs.Inner.{is_blank_at}
use Rattle.journal.proofs.Places.{wiped_blank, packed_on_over}
use Rattle.journal.proofs.Behind.{whole_behind}
use Rattle.move_guard.specs.Guard.{playing}
use Rattle.solve_finish.specs.declared.Ran.{Ran}
use Rattle.solve_finish.specs.Finishes.{played_out}
use Rattle.solve_finish.specs.Run.{RanOut, RanFull}

-- a board in play is so whatever is packed behind its moves
pub plays_behind : (t : Table) (k : ℕ) (es : List Entry) (words new : List (List ℕ)) → new ≡ packed_on k t.moves es words
    → playing (whole_of t words) ≡ true → playing (whole_of t new) ≡ true
plays_behind t k es words new e play = ap (λ (w : List (List ℕ)). playing (whole_of t w)) e ∙ ap playing (whole_behind t k es words) ∙ play

module _ (t : Table) (old words : List (List ℕ)) (flows places : List ℕ) (r : Ran) (ran : RanOut t old words flows places r) where
  -- the words hold all the moves
  pub full_at_once : r.filled ≡ r.moves → RanFull t old words flows places r
  full_at_once e = record { behind = rw (← e) ran.fills.behind; packs = rw (← e) ran.fills.packs; over = ran.over e }

  abbrev n : ℕ
  n = r.moves - t.moves

  -- they do not, the places were blanked, and the run was made once more
  module _ (wiped : List (List ℕ)) (wipes : wiped ≡ packed_on (r.moves - t.moves) t.moves [] words) (new : List (List ℕ)) (flows' places' : List ℕ) (r' : Ran)
      (again : RanOut t wiped new flows' places' r') where
    whole_same : whole_of t wiped ≡ whole_of t old
    whole_same =
        ap (whole_of t) wipes ∙ whole_behind t n [] words ∙ ap (whole_of t) ran.fills.packs
        ∙ whole_behind t (r.filled - t.moves) (journal_of r.filled words) old

    counts_same : r'.moves ≡ r.moves
    counts_same = again.counts ∙ ap (λ (b : Board). (played_out b).moves) whole_same ∙ sym ran.counts

    all_filled : r'.filled ≡ r'.moves
    all_filled = go (lt_or_ge r'.filled r'.moves)
      where
        go : (r'.filled < r'.moves) ⊎ (r'.moves ≤ r'.filled) → r'.filled ≡ r'.moves
        go (inl h) =
            absurd
            (false≢true
            (sym (again.blocked h) ∙ ap (λ (w : List (List ℕ)). is_blank_at w r'.filled) wipes
            ∙ wiped_blank t.moves n words r'.filled again.fills.behind (omega (arith, h, counts_same, again.fills.behind))))
        go (inr h) = omega (arith, h, again.within)

    -- in place of what was blanked, and in place of what the first run filled
    packs_over : (es : List Entry) → packed_on n t.moves es wiped ≡ packed_on n t.moves es old
    packs_over es =
        ap (packed_on n t.moves es) wipes ∙ packed_on_over t.moves n n [] es words (omega arith)
        ∙ ap (packed_on n t.moves es) ran.fills.packs
        ∙ packed_on_over t.moves (r.filled - t.moves) n (journal_of r.filled words) es old (omega (arith, ran.within))

    pub full_again : RanFull t old new flows' places' r'
    full_again = record {
      behind = omega (arith, again.fills.behind, again.within);
      packs = again.fills.packs ∙ ap (λ (k : ℕ). packed_on (k - t.moves) t.moves (journal_of k new) wiped) all_filled
          ∙ ap (λ (k : ℕ). packed_on (k - t.moves) t.moves (journal_of r'.moves new) wiped) counts_same ∙ packs_over (journal_of r'.moves new)
          ∙ ap (λ (k : ℕ). packed_on (k - t.moves) t.moves (journal_of r'.moves new) old) (sym counts_same);
      over = again.over all_filled ∙ ap played_out whole_same;
    }
