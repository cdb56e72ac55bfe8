-- What the calls that only read give. A refused one gives zeros. Past the counts a loaded board has zeros, since it is intact, and no mark is shown there.
use mathlib.Core.Path.{◌≡◌, refl, sym, ap, ◌∙◌}
use mathlib.Core.Logic.{◌≢◌}
use mathlib.Core.Bool.{Bool, true, false}
use mathlib.Core.List.{List, [], ◌∷◌}
use Prim.Native.Nat.{ℕ, zero, suc, ◌<◌, ◌≤◌}
use native.Mathlib.Omega.{arith}
use lib.ListN.{get_or, replicate}
use borrow.Author.Tests.{ne_eqb, eqb-true, le-ltb}
use Rattle.lists.specs.Choice.{pick, both}
use Rattle.lists.specs.Lists.{all, tabulated}
use Rattle.lists.proofs.Laws.{Known, was_true, was_false, known, pick_no, both_left, both_right}
use Rattle.lists.proofs.Tabulated.{tabulated_from}
use Rattle.board.specs.Limits.{max_edges, max_terminals}
use Rattle.board.specs.Whole.{Board}
use Rattle.move_guard.specs.Guard.{loaded, edge_lists_intact, terminal_lists_intact, edge_blank_in, terminal_blank_in}
use Rattle.move_guard.proofs.Facts.{loaded_then_intact, intact_edge, intact_terminal}
use Rattle.move_guard.proofs.Past.{past_edges, past_terminals}
use Rattle.move_cycle.specs.Steps.{code_step, step_byte}
use Rattle.move_cycle.proofs.Codes.{step_down}
use Rattle.solve_next.specs.Choosing.{no_advice}
use Rattle.solve_next.specs.Hints.{hint_refusal, hint_call}
use Rattle.boundary_parts.specs.Shown.{
  advice_numbers,
  advice_bytes,
  byte_at,
  marked_in,
  no_row,
  look_refusal,
  board_edges,
  board_terminals,
  view_numbers,
  view_edges,
  view_terminals,
  entry_refusal,
  entry_numbers,
  entry_rows,
}
use Rattle.boundary_parts.proofs.Shows.{look_refused, look_given, entry_refused}

-- ---- A refused hint.

zero_at : (n i : ℕ) → get_or (replicate {A = ℕ} n 0) i 0 ≡ 0
zero_at zero i = refl
zero_at (suc n) zero = refl
zero_at (suc n) (suc i) = zero_at n i

-- the byte of no step
zero_byte : (n i : ℕ) → byte_at (replicate n 0) i ≡ 0
zero_byte n i = ap (λ (s : ℕ). step_byte (code_step s)) (zero_at n i) ∙ ap step_byte (step_down 0 (omega arith))

zeros_tabulated : (f : ℕ → ℕ) (i k : ℕ) → ((j : ℕ) → f j ≡ 0) → tabulated f i k ≡ replicate k 0
unfolding tabulated
zeros_tabulated f i zero h = refl
zeros_tabulated f i (suc k) h = λ t. h i t ∷ zeros_tabulated f (suc i) k h t

pub hint_zeros : (b : Board) → (hint_call b).answer ≢ 0
    → (advice_numbers (hint_call b).advice ≡ replicate 4 0) × (advice_bytes (hint_call b).advice ≡ replicate max_edges 0)
unfolding hint_call
hint_zeros b s =
    let is : (hint_call b).advice ≡ no_advice = pick_no _ _ _ (ne_eqb (hint_refusal b) 0 s) in (
      ap advice_numbers is,
      ap advice_bytes is ∙ zeros_tabulated (byte_at (replicate max_edges 0)) 0 max_edges (zero_byte max_edges),
    )

-- ---- A refused view, and a refused place of the journal.

pub look_zeros : (b : Board) → look_refusal b ≢ 0
    → (view_numbers b ≡ replicate 6 0) × (view_edges b ≡ replicate 5 no_row) × (view_terminals b ≡ replicate 3 (replicate max_terminals 0))
look_zeros b s = go (known (loaded b))
  where
    go : Known (loaded b)
        → (view_numbers b ≡ replicate 6 0) × (view_edges b ≡ replicate 5 no_row) × (view_terminals b ≡ replicate 3 (replicate max_terminals 0))
    go (was_true t) = absurd (s (sym (look_given b t).0))
    go (was_false t) = let no_view = (look_refused b t).1 in (sym no_view.0, sym no_view.1.0, sym no_view.1.1)

pub entry_zeros : (b : Board) (i : ℕ) → entry_refusal b i ≢ 0 → (entry_numbers b i ≡ replicate 6 0) × (entry_rows b i ≡ replicate 3 no_row)
entry_zeros b i s = let no_entry = (entry_refused b i (entry_refusal b i) refl s).1 in (sym no_entry.0, sym no_entry.1)

-- ---- Past the counts.

-- a test of one place
just_test : (t : Bool) → elim t [ true ↦ true | false ↦ false ] ≡ t
just_test true = refl
just_test false = refl

one_place : (p : ℕ → Bool) (i : ℕ) → all p i 1 ≡ p i
unfolding all
one_place p i = just_test (p i)

module _ (b : Board) (given : loaded b ≡ true) where
  module _ (e : ℕ) (past : b.network.edges ≤ e) (inside : e < max_edges) where
    blank_edge : edge_blank_in b.network.tails b.network.heads b.network.flows b.acyclic b.flows e ≡ true
    blank_edge =
        let net = b.network in
        sym (one_place (edge_blank_in net.tails net.heads net.flows b.acyclic b.flows) e)
        ∙ past_edges net.edges net.vertices net.tails net.heads net.flows b.acyclic b.flows e 1 past
        ∙ one_place (edge_lists_intact net.edges net.vertices net.tails net.heads net.flows b.acyclic b.flows) e
        ∙ intact_edge b (loaded_then_intact b given) e inside

    no_mark_past : get_or (tabulated (marked_in b.network.edges b.marks) 0 max_edges) e 0 ≡ 0
    unfolding both pick
    no_mark_past = tabulated_from (marked_in b.network.edges b.marks) max_edges e 0 inside ∙ rw (le-ltb e b.network.edges past)

    edge_rows_past : (k : ℕ) → get_or (get_or (board_edges b) k []) e 0 ≡ 0
    edge_rows_past zero = eqb-true _ 0 (both_left _ _ blank_edge)
    edge_rows_past (suc zero) = eqb-true _ 0 (both_left _ _ (both_right _ _ blank_edge))
    edge_rows_past (suc (suc zero)) = eqb-true _ 0 (both_left _ _ (both_right _ _ (both_right _ _ (both_right _ _ blank_edge))))
    edge_rows_past (suc (suc (suc zero))) = eqb-true _ 0 (both_right _ _ (both_right _ _ (both_right _ _ (both_right _ _ blank_edge))))
    edge_rows_past (suc (suc (suc (suc zero)))) = no_mark_past
    edge_rows_past (suc (suc (suc (suc (suc k))))) = refl

  module _ (j : ℕ) (past : b.network.terminals ≤ j) (inside : j < max_terminals) where
    blank_terminal : terminal_blank_in b.network.homes b.network.demands b.places j ≡ true
    blank_terminal =
        let net = b.network in
        sym (one_place (terminal_blank_in net.homes net.demands b.places) j)
        ∙ past_terminals net.terminals net.vertices net.homes net.demands b.places j 1 past
        ∙ one_place (terminal_lists_intact net.terminals net.vertices net.homes net.demands b.places) j
        ∙ intact_terminal b (loaded_then_intact b given) j inside

    terminal_rows_past : (k : ℕ) → get_or (get_or (board_terminals b) k []) j 0 ≡ 0
    terminal_rows_past zero = eqb-true _ 0 (both_left _ _ blank_terminal)
    terminal_rows_past (suc zero) = eqb-true _ 0 (both_right _ _ (both_right _ _ blank_terminal))
    terminal_rows_past (suc (suc zero)) = eqb-true _ 0 (both_left _ _ (both_right _ _ blank_terminal))
    terminal_rows_past (suc (suc (suc k))) = refl

pub past_edge_rows : (b : Board) (k e : ℕ) → loaded b ≡ true → b.network.edges ≤ e → e < max_edges → get_or (get_or (view_edges b) k []) e 0 ≡ 0
past_edge_rows b k e given past inside =
    ap (λ (rows : List (List ℕ)). get_or (get_or rows k []) e 0) (sym (look_given b given).1.1.0) ∙ edge_rows_past b given e past inside k

pub past_terminal_rows : (b : Board) (k j : ℕ) → loaded b ≡ true → b.network.terminals ≤ j → j < max_terminals
    → get_or (get_or (view_terminals b) k []) j 0 ≡ 0
past_terminal_rows b k j given past inside =
    ap (λ (rows : List (List ℕ)). get_or (get_or rows k []) j 0) (sym (look_given b given).1.1.1) ∙ terminal_rows_past b given j past inside k
