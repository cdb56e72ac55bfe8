-- The words of a finish that has come so far: each place that it filled was blank before and holds the entry of its move, so blanking them again gives back
-- the words of before; and the place behind them is as it was.
use mathlib.Core.Path.{◌≡◌, refl, sym, ap, ◌∙◌}
use mathlib.Core.Bool.{true}
use mathlib.Core.List.{List, []}
use mathlib.Core.Logic.{◌⊎◌, inl, inr}
use Prim.Native.Nat.{ℕ, suc, ◌+◌, ◌-◌, ◌<◌, ◌≤◌}
use native.Mathlib.Omega.{arith}
use lib.ListN.{length, get_or, set, length-map}
use lib.Seq.{get_or-set_same, get_or-set_other, set_out}
use Rattle.lists.proofs.Laws.{lt_or_ge}
use Rattle.board.specs.Record.{blank}
use Rattle.board.specs.Whole.{Entry}
use Rattle.journal.specs.Words.{packed, unpacked, blank_words, entries_of, journal_of, standing, packed_on}
use Rattle.journal.specs.Inner.{place_words, is_zeros, is_blank_at}
use Rattle.solve_finish.specs.Run.{Filled}
use Rattle.journal.proofs.Laws.{add_standing, length-standing}
use Rattle.journal.proofs.Places.{packed_on_same, packed_on_other, wiped_back}

pub filled_none : (from : ℕ) (w : List (List ℕ)) → Filled from from w w
unfolding packed_on
filled_none from w =
    let z : from - from ≡ 0 = omega arith in
    record { behind = omega arith; blanks = λ i low high. absurd (omega arith); packs = rw z refl }

module _ (from filled : ℕ) (old words : List (List ℕ)) (f : Filled from filled old words) where
  pub filled_back : (new : List (List ℕ)) → new ≡ packed_on (filled - from) from [] words → new ≡ old
  filled_back new e =
      e ∙ ap (packed_on (filled - from) from []) f.packs
      ∙ wiped_back from (filled - from) (journal_of filled words) old (λ i low high. f.blanks i low (omega (arith, high, f.behind)))

  -- the next place is as it was
  pub next_same : is_blank_at words filled ≡ is_blank_at old filled
  unfolding is_blank_at
  next_same =
      ap (λ (w : List (List ℕ)). is_zeros place_words (get_or w filled blank_words)) f.packs
      ∙ ap (is_zeros place_words) (packed_on_other from (filled - from) (journal_of filled words) old filled blank_words (inr (omega (arith, f.behind))))

  module _ (entry : Entry) (new : List (List ℕ)) (stored : new ≡ set words filled (packed entry))
      (listed : entries_of new ≡ set (entries_of words) filled entry) where
    pub journal_more : journal_of (filled + 1) new ≡ set (journal_of filled words) filled entry
    journal_more = ap (standing (filled + 1)) listed ∙ sym (add_standing filled (filled + 1) (entries_of words) entry (omega arith))

    long : length (journal_of filled words) ≡ length words
    long = length-standing filled (entries_of words) ∙ length-map words unpacked

    there : set words filled (packed entry) ≡ set words filled (packed (get_or (set (journal_of filled words) filled entry) filled blank))
    there = go (lt_or_ge filled (length words))
      where
        go : (filled < length words) ⊎ (length words ≤ filled)
            → set words filled (packed entry) ≡ set words filled (packed (get_or (set (journal_of filled words) filled entry) filled blank))
        go (inl h) = ap (λ (x : Entry). set words filled (packed x)) (sym (get_or-set_same (journal_of filled words) filled entry blank (omega (arith, h, long))))
        go (inr h) = set_out words filled (packed entry) h ∙ sym (set_out words filled (packed (get_or (set (journal_of filled words) filled entry) filled blank)) h)

    pub filled_more : is_blank_at words filled ≡ true → Filled from (filled + 1) old new
    unfolding packed_on
    filled_more empty = record {
      behind = omega (arith, f.behind);
      blanks = λ i low high. below i low (lt_or_ge i filled) high;
      packs = rw (e, journal_more) (rw at (stored ∙ there ∙ ap (λ (w : List (List ℕ)). set w filled (packed (get_or es filled blank))) before));
    }
      where
        es : List Entry
        es = set (journal_of filled words) filled entry

        e : filled + 1 - from ≡ suc (filled - from)
        e = omega (arith, f.behind)

        at : from + (filled - from) ≡ filled
        at = omega (arith, f.behind)

        below : (i : ℕ) → from ≤ i → (i < filled) ⊎ (filled ≤ i) → i < filled + 1 → is_blank_at old i ≡ true
        below i low (inl h) high = f.blanks i low h
        below i low (inr h) high = let own : i ≡ filled = omega arith in rw own (sym next_same ∙ empty)

        before : words ≡ packed_on (filled - from) from es old
        before =
            f.packs
            ∙ packed_on_same from (filled - from) (journal_of filled words) es old
            (λ i h. sym (get_or-set_other (journal_of filled words) filled i entry blank (λ q. omega (arith, q, h, at))))
