-- What a view and a standing move are, where they are given and where they are refused.
use mathlib.Core.Path.{◌≡◌, refl, sym, ap, ◌∙◌}
use mathlib.Core.Logic.{◌≢◌}
use mathlib.Core.Bool.{true, false}
use mathlib.Core.List.{List, [], ◌∷◌}
use Prim.Native.Nat.{ℕ, zero, suc, ◌<◌}
use native.Mathlib.Omega.{arith}
use lib.Dec.{eqb, ltb}
use lib.ListN.{get_or, replicate}
use borrow.Author.Tests.{eq-eqb, ne_eqb, ltb-true}
use Rattle.lists.proofs.Laws.{Known, was_true, was_false, known, pick_yes, pick_no}
use Rattle.board.specs.Limits.{max_terminals}
use Rattle.board.specs.Record.{blank}
use Rattle.board.specs.Whole.{Move, Entry, Board}
use Rattle.journal.specs.Words.{standing}
use Rattle.move_guard.specs.Guard.{loaded}
use Rattle.boundary_parts.specs.Shown.{
  no_row,
  look_refusal,
  board_numbers,
  board_edges,
  board_terminals,
  view_numbers,
  view_edges,
  view_terminals,
  move_numbers,
  move_rows,
  entry_refusal,
  entry_numbers,
  entry_rows,
}

module _ (b : Board) where
  no_look : loaded b ≡ false → look_refusal b ≡ 29
  unfolding look_refusal
  no_look h = pick_no (loaded b) 0 29 h

  a_look : loaded b ≡ true → look_refusal b ≡ 0
  unfolding look_refusal
  a_look h = pick_yes (loaded b) 0 29 h

  -- a view is given where the board was loaded
  pub look_refused : loaded b ≡ false
      → (29 ≡ look_refusal b)
      × ((replicate 6 0 ≡ view_numbers b) × ((replicate 5 no_row ≡ view_edges b) × (replicate 3 (replicate max_terminals 0) ≡ view_terminals b)))
  unfolding view_numbers view_edges view_terminals
  look_refused h =
      let some : eqb (look_refusal b) 0 ≡ false = ap (λ (n : ℕ). eqb n 0) (no_look h) in
      (sym (no_look h), (sym (pick_no _ _ _ some), (sym (pick_no _ _ _ some), sym (pick_no _ _ _ some))))

  pub look_given : loaded b ≡ true
      → (0 ≡ look_refusal b) × ((board_numbers b ≡ view_numbers b) × ((board_edges b ≡ view_edges b) × (board_terminals b ≡ view_terminals b)))
  unfolding view_numbers view_edges view_terminals
  look_given h =
      let none : eqb (look_refusal b) 0 ≡ true = ap (λ (n : ℕ). eqb n 0) (a_look h) in
      (sym (a_look h), (sym (pick_yes _ _ _ none), (sym (pick_yes _ _ _ none), sym (pick_yes _ _ _ none))))

  module _ (i : ℕ) where
    -- a move is given where one stands
    pub entry_refused : (n : ℕ) → n ≡ entry_refusal b i → n ≢ 0
        → (n ≡ entry_refusal b i) × ((replicate 6 0 ≡ entry_numbers b i) × (replicate 3 no_row ≡ entry_rows b i))
    unfolding entry_numbers entry_rows
    entry_refused n e s =
        let some : eqb (entry_refusal b i) 0 ≡ false = ne_eqb (entry_refusal b i) 0 (λ z. s (e ∙ z)) in
        (e, (sym (pick_no _ _ _ some), sym (pick_no _ _ _ some)))

    pub entry_given : (n : ℕ) → n ≡ entry_refusal b i → n ≡ 0 → (s : Move) → s ≡ (get_or b.journal i blank).step
        → (0 ≡ entry_refusal b i) × ((move_numbers s ≡ entry_numbers b i) × (move_rows s ≡ entry_rows b i))
    unfolding entry_numbers entry_rows
    entry_given n e z s is =
        let none : eqb (entry_refusal b i) 0 ≡ true = eq-eqb (entry_refusal b i) 0 (sym e ∙ z) in
        (sym z ∙ e, (ap move_numbers is ∙ sym (pick_yes _ _ _ none), ap move_rows is ∙ sym (pick_yes _ _ _ none)))

    -- a move that is given stands
    pub entry_stands : entry_refusal b i ≡ 0 → i < b.moves
    unfolding entry_refusal
    entry_stands z = split (known (loaded b)) (known (ltb i b.moves))
      where
        split : Known (loaded b) → Known (ltb i b.moves) → i < b.moves
        split (was_true y) (was_true q) = ltb-true i b.moves q
        split (was_true y) (was_false q) =
            let two : ◌≡◌ {A = ℕ} 2 0 = sym (pick_yes (loaded b) _ 29 y ∙ pick_no (ltb i b.moves) 0 2 q) ∙ z in
            absurd (omega (arith, two))
        split (was_false y) q = let late : ◌≡◌ {A = ℕ} 29 0 = sym (pick_no (loaded b) _ 29 y) ∙ z in absurd (omega (arith, late))

-- a standing move of the words is that of the journal
pub standing_at : (m : ℕ) (es : List Entry) (i : ℕ) → i < m → get_or (standing m es) i blank ≡ get_or es i blank
unfolding standing
standing_at m [] i h = refl
standing_at zero (e ∷ es) i h = absurd (omega arith)
standing_at (suc m) (e ∷ es) zero h = refl
standing_at (suc m) (e ∷ es) (suc i) h = standing_at m es i (omega arith)
