-- Moves taken back, one by one: each takes the last standing move, so its place is blank and the count is one less; the places before those moves and behind all of
-- them are as they were.
use mathlib.Core.Path.{◌≡◌, refl, sym, ◌∙◌}
use mathlib.Core.Bool.{true, false}
use mathlib.Core.List.{List, [], ◌∷◌}
use mathlib.Core.Logic.{◌⊎◌, inl, inr, ◌≢◌}
use Prim.Native.Nat.{ℕ, zero, suc, ◌+◌, ◌-◌, ◌<◌, ◌≤◌}
use native.Mathlib.Omega.{arith}
use lib.ListN.{length, get_or, set, length-set}
use lib.Seq.{get_or-set_other}
use Rattle.std.specs.Prelude.{Result}
use Rattle.refusals.specs.declared.Refusal.{Refusal}
use Rattle.lists.proofs.Laws.{Known, was_true, was_false, known}
use Rattle.board.specs.Record.{blank}
use Rattle.board.specs.Whole.{Entry, Board, Played, Table}
use Rattle.journal.specs.Words.{standing}
use Rattle.journal.proofs.Laws.{back_standing, keep_standing}
use Rattle.move_guard.specs.Guard.{intact}
use Rattle.move_undo.specs.Undone.{undone, taken_back, Taken}

-- the standing moves without the last are blank at its place by themselves
pub less_standing : (m : ℕ) (es : List Entry) → standing (m - 1) es ≡ set (standing m es) (m - 1) blank
unfolding standing
less_standing zero [] = refl
less_standing zero (e ∷ es) = refl
less_standing (suc m) es =
    let e : suc m - 1 ≡ m = omega arith in
    rw e (sym (back_standing m (suc m) es blank refl ∙ keep_standing m m es blank (omega arith)))

-- a place behind the standing moves
pub standing-behind : (m : ℕ) (es : List Entry) (i : ℕ) → m ≤ i → get_or (standing m es) i blank ≡ blank
unfolding standing
standing-behind m [] i h = refl
standing-behind zero (e ∷ es) zero h = refl
standing-behind zero (e ∷ es) (suc i) h = standing-behind zero es i (omega arith)
standing-behind (suc m) (e ∷ es) zero h = absurd (omega arith)
standing-behind (suc m) (e ∷ es) (suc i) h = standing-behind m es i (omega arith)

-- none more, one more, or one that cannot be taken back
pub taken_none : (left : ℕ) (b : Board) → left ≡ 0 → record { answer = 0; board = b } ≡ taken_back left b
unfolding taken_back
taken_none left b e = rw e

module _ (count i : ℕ) (b : Board) (some : i < count) where
  abbrev left : ℕ
  left = count - (i + 1)

  is_left : count - i ≡ suc left
  is_left = omega (arith, some)

  pub taken_one : intact b ≡ true → taken_back (count - (i + 1)) (undone b) ≡ taken_back (count - i) b
  unfolding taken_back
  taken_one t = rw (is_left, t, taken_back)

  pub taken_stuck : intact b ≡ false → record { answer = 20; board = b } ≡ taken_back (count - i) b
  unfolding taken_back
  taken_stuck t = rw (is_left, t, taken_back)

-- what the code gives of a way back, by what it is
pub taken_as : (x y : Result Table Refusal) → x ≡ y → (w : List (List ℕ)) (p : Played) → Taken x w p → Taken y w p
taken_as x y e w p h = rw e at h

-- a claim about so many moves that are taken back, by the test of the first of them
taken_by_lem : (P : Played → Type 0) (k : ℕ) (b : Board) → P (record { answer = 20; board = b }) → (intact b ≡ true → P (taken_back k (undone b))) → P (taken_back (suc k) b)
unfolding taken_back
taken_by_lem P k b stuck on = go (known (intact b))
  where
    go : Known (intact b) → P (taken_back (suc k) b)
    go (was_true t) = rw (t, taken_back) (on t)
    go (was_false t) = rw (t, taken_back) stuck

-- the count of moves at the end of the way
pub taken_moves : (k : ℕ) (b : Board) → (taken_back k b).answer ≡ 0 → (taken_back k b).board.moves ≡ b.moves - k
unfolding taken_back
taken_moves zero b z = omega arith
taken_moves (suc k) b z =
    taken_by_lem (λ (p : Played). p.answer ≡ 0 → p.board.moves ≡ b.moves - suc k) k b (λ e. absurd (omega (arith, e)))
    (λ t e. taken_moves k (undone b) e ∙ omega arith) z

-- the places of its journal
pub taken_length : (k : ℕ) (b : Board) → length (taken_back k b).board.journal ≡ length b.journal
unfolding taken_back
taken_length zero b = refl
taken_length (suc k) b =
    taken_by_lem (λ (p : Played). length p.board.journal ≡ length b.journal) k b refl
    (λ t. taken_length k (undone b) ∙ length-set b.journal (b.moves - 1) blank)

pub taken_same : (k : ℕ) (b : Board) (i : ℕ) → k ≤ b.moves → (i < b.moves - k) ⊎ (b.moves ≤ i) → get_or (taken_back k b).board.journal i blank ≡ get_or b.journal i blank
unfolding taken_back
taken_same zero b i some h = refl
taken_same (suc k) b i some h =
    taken_by_lem (λ (p : Played). get_or p.board.journal i blank ≡ get_or b.journal i blank) k b refl
    (λ t. taken_same k (undone b) i (omega arith) (closer h) ∙ get_or-set_other b.journal (b.moves - 1) i blank blank (apart h))
  where
    closer : (i < b.moves - suc k) ⊎ (b.moves ≤ i) → (i < b.moves - 1 - k) ⊎ (b.moves - 1 ≤ i)
    closer (inl l) = inl (omega arith)
    closer (inr l) = inr (omega arith)

    apart : (i < b.moves - suc k) ⊎ (b.moves ≤ i) → i ≢ b.moves - 1
    apart (inl l) e = omega arith
    apart (inr l) e = omega arith
