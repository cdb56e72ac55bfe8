-- The boards that tables stand for, each with its words: a store and a look go to table and words alike. A closed table stands for the closed board, whatever its words
-- are, since none of them stands for a move.
use mathlib.Core.Path.{◌≡◌, refl, sym, ap, ◌∙◌}
use mathlib.Core.List.{List, [], ◌∷◌, map}
use mathlib.Core.Logic.{◌≢◌}
use Rattle.std.specs.Prelude.{Result, Ok, Err}
use Rattle.refusals.specs.declared.Refusal.{Refusal}
use Rattle.refusals.specs.Refusals.{number}
use Prim.Native.Nat.{ℕ, zero, suc, ◌<◌}
use native.Mathlib.Omega.{arith}
use lib.ListN.{length, get_or, set, replicate}
use borrow.Author.Tests.{eq-eqb, ne_eqb}
use Rattle.lists.proofs.Laws.{pick_yes, pick_no}
use Rattle.board.specs.Limits.{max_moves}
use Rattle.board.specs.Record.{blank, closed_board, closed_table}
use Rattle.board.specs.Whole.{Entry, Board, Table}
use Rattle.journal.specs.Words.{unpacked, standing, whole_of}
use Rattle.load.specs.Load.{Loaded, load_text}
use Rattle.load.specs.Lent.{loaded_of}
use Rattle.checkpoints.specs.Letters.{letters, letter_of}
use Rattle.checkpoints.specs.Games.{game_of, checkpoint_at, with_checkpoint, back_at, keep_refusal, keep_call, back_refusal, back_call, restart_call}
use Rattle.checkpoints.specs.Lent.{Lent, lent_of, FourJournals, wholes_of, game_in, lent_kept, lent_back, begun_of}
use Rattle.checkpoints.proofs.Laws.{settled_yes, settled_no}

abbrev Words : Type 0
Words = List (List ℕ)

pub wholes_set : (ts : List Table) (ws : List Words) (k : ℕ) (t : Table) (w : Words) → wholes_of (set ts k t) (set ws k w) ≡ set (wholes_of ts ws) k (whole_of t w)
unfolding wholes_of
wholes_set [] ws k t w = refl
wholes_set (u ∷ ts) [] zero t w = refl
wholes_set (u ∷ ts) [] (suc k) t w = refl
wholes_set (u ∷ ts) (x ∷ ws) zero t w = refl
wholes_set (u ∷ ts) (x ∷ ws) (suc k) t w = ap (λ (bs : List Board). whole_of u x ∷ bs) (wholes_set ts ws k t w)

pub wholes_at : (ts : List Table) (ws : List Words) (k : ℕ) (d : Board) (t : Table) (w : Words) → k < length ts → k < length ws
    → get_or (wholes_of ts ws) k d ≡ whole_of (get_or ts k t) (get_or ws k w)
unfolding wholes_of
wholes_at [] ws k d t w h g = absurd (omega arith)
wholes_at (u ∷ ts) [] k d t w h g = absurd (omega arith)
wholes_at (u ∷ ts) (x ∷ ws) zero d t w h g = refl
wholes_at (u ∷ ts) (x ∷ ws) (suc k) d t w h g = wholes_at ts ws k d t w (omega arith) (omega arith)

-- the checkpoint of a number, by the table and the words that the code has there
pub wholes_here : (ts : List Table) (ws : List Words) (k : ℕ) (d t : Table) (x w : Words) → k < length ts → k < length ws → t ≡ get_or ts k d → w ≡ get_or ws k x
    → whole_of t w ≡ get_or (wholes_of ts ws) k closed_board
wholes_here ts ws k d t x w h g e-t e-w = (λ i. whole_of (e-t i) (e-w i)) ∙ sym (wholes_at ts ws k closed_board d x h g)

-- ---- Closed tables.

none_stand : (w : Words) → standing 0 (map unpacked w) ≡ replicate (length w) blank
unfolding standing
none_stand [] = refl
none_stand (x ∷ w) = ap (λ (es : List Entry). blank ∷ es) (none_stand w)

pub closed_whole : (w : Words) → length w ≡ max_moves → whole_of closed_table w ≡ closed_board
unfolding closed_table closed_board
closed_whole w long = rw (none_stand w, long)

closed_wholes : (n : ℕ) (ws : List Words) → length ws ≡ n → ((k : ℕ) → k < n → length (get_or ws k []) ≡ max_moves)
    → wholes_of (replicate n closed_table) ws ≡ replicate n closed_board
unfolding wholes_of
closed_wholes zero ws h long = refl
closed_wholes (suc n) [] h long = absurd (omega (arith, h))
closed_wholes (suc n) (w ∷ ws) h long =
    λ i. closed_whole w (long 0 (omega arith)) i ∷ closed_wholes n ws (omega (arith, h)) (λ k g. long (suc k) (omega arith)) i

pub none_kept : (ws : List Words) → FourJournals ws → wholes_of (replicate letters closed_table) ws ≡ replicate letters closed_board
none_kept ws four = closed_wholes letters ws four.each four.long

-- ---- `keep` and `back` over words that are lent.

module _ (t : Table) (ts : List Table) (v : Lent) (letter number : ℕ) where
  -- what `keep` gives, and the words then
  abbrev Keeps : ℕ → List Table → List Words → Type 0
  Keeps answer ts' js = (record { answer = answer; game = game_in t ts' (lent_of v.journal js) } ≡ keep_call (game_in t ts v) letter)
      × (lent_of v.journal js ≡ lent_kept (game_in t ts v) letter v)

  module _ (is : number ≡ keep_refusal (whole_of t v.journal) letter) where
    pub keep_refused : number ≢ 0 → Keeps number ts v.checkpoints
    unfolding keep_call lent_kept
    keep_refused n =
        let some : keep_refusal (whole_of t v.journal) letter ≢ 0 = λ z. n (is ∙ z) in (
          (λ i. record { answer = is i; game = game_in t ts v }) ∙ sym (settled_no _ (game_in t ts v) (with_checkpoint (game_in t ts v) (letter_of letter)) some),
          sym (pick_no _ _ _ (ne_eqb _ 0 some)),
        )

    pub keep_accepted : (k : ℕ) → k ≡ letter_of letter → number ≡ 0 → Keeps 0 (set ts k t) (set v.checkpoints k v.journal)
    unfolding keep_call lent_kept
    keep_accepted k here z =
        let none : keep_refusal (whole_of t v.journal) letter ≡ 0 = sym is ∙ z in
        let stored = wholes_set ts v.checkpoints k t v.journal in (
          (λ i. record { answer = 0; game = record { board = whole_of t v.journal; checkpoints = stored i } })
              ∙ ap (λ (n : ℕ). record { answer = 0; game = with_checkpoint (game_in t ts v) n }) here
              ∙ sym (settled_yes _ (game_in t ts v) (with_checkpoint (game_in t ts v) (letter_of letter)) none),
          ap (λ (n : ℕ). lent_of v.journal (set v.checkpoints n v.journal)) here ∙ sym (pick_yes _ _ _ (eq-eqb _ 0 none)),
        )

  -- what `back` gives, and the words then
  abbrev Brings : ℕ → Table → Words → Type 0
  Brings answer t' w = (record { answer = answer; game = game_in t' ts (lent_of w v.checkpoints) } ≡ back_call (game_in t ts v) letter)
      × (lent_of w v.checkpoints ≡ lent_back (game_in t ts v) letter v)

  module _ (is : number ≡ back_refusal (whole_of t v.journal) (checkpoint_at (game_in t ts v) (letter_of letter)) letter) where
    pub back_refused : number ≢ 0 → Brings number t v.journal
    unfolding back_call lent_back
    back_refused n =
        let some : back_refusal (whole_of t v.journal) (checkpoint_at (game_in t ts v) (letter_of letter)) letter ≢ 0 = λ z. n (is ∙ z) in (
          (λ i. record { answer = is i; game = game_in t ts v }) ∙ sym (settled_no _ (game_in t ts v) (back_at (game_in t ts v) (letter_of letter)) some),
          sym (pick_no _ _ _ (ne_eqb _ 0 some)),
        )

    pub back_accepted : (k : ℕ) (t' d : Table) (w : Words) → k ≡ letter_of letter → number ≡ 0 → k < length ts → k < length v.checkpoints
        → t' ≡ get_or ts k d → w ≡ get_or v.checkpoints k [] → Brings 0 t' w
    unfolding back_call lent_back
    back_accepted k t' d w here z inside inside' e-t e-w =
        let none : back_refusal (whole_of t v.journal) (checkpoint_at (game_in t ts v) (letter_of letter)) letter ≡ 0 = sym is ∙ z in
        let found : whole_of t' w ≡ checkpoint_at (game_in t ts v) k =
        (λ i. whole_of (e-t i) (e-w i)) ∙ sym (wholes_at ts v.checkpoints k closed_board d [] inside inside') in (
          (λ i. record { answer = 0; game = record { board = found i; checkpoints = wholes_of ts v.checkpoints } })
              ∙ ap (λ (n : ℕ). record { answer = 0; game = back_at (game_in t ts v) n }) here
              ∙ sym (settled_yes _ (game_in t ts v) (back_at (game_in t ts v) (letter_of letter)) none),
          ap (λ (u : Words). lent_of u v.checkpoints) e-w ∙ ap (λ (n : ℕ). lent_of (get_or v.checkpoints n []) v.checkpoints) here ∙ sym (pick_yes _ _ _ (eq-eqb _ 0 none)),
        )

-- what `restart` gives
restarted_at : (text : List ℕ) (answer : ℕ) (t : Table) (w : Words) (shut : Table) (ws : List Words) → FourJournals ws
    → record { answer = answer; board = whole_of t w } ≡ load_text text → shut ≡ closed_table
    → record { answer = answer; game = game_in t (shut ∷ shut ∷ shut ∷ shut ∷ []) (lent_of w ws) } ≡ restart_call text
restarted_at text answer t w shut ws four gave is =
    ap (λ (u : Table). record { answer = answer; game = game_in t (u ∷ u ∷ u ∷ u ∷ []) (lent_of w ws) }) is
    ∙ (λ i. record { answer = answer; game = record { board = whole_of t w; checkpoints = none_kept ws four i } })
    ∙ ap (λ (l : Loaded). record { answer = l.answer; game = game_of l.board }) gave

pub restarted : (text : List ℕ) (r : Result Table Refusal) (w : Words) (shut : Table) (ws : List Words) → FourJournals ws → loaded_of r w ≡ load_text text → shut ≡ closed_table
    → begun_of r (shut ∷ shut ∷ shut ∷ shut ∷ []) (lent_of w ws) ≡ restart_call text
restarted text (Ok t) w shut ws four gave is = restarted_at text 0 t w shut ws four gave is
restarted text (Err r) w shut ws four gave is = restarted_at text (number r) closed_table w shut ws four gave is
