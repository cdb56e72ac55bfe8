-- One carry more: the row of its terminal takes the edge behind those it has, as the terminal's route does, and every other row stays. So the counts and the
-- rows of a journal come from those of the rest of it by one store each.
use mathlib.Core.Path.{◌≡◌, refl, sym, ap, ◌∙◌}
use mathlib.Core.Logic.{◌⊎◌, inl, inr, ◌≢◌}
use mathlib.Core.List.{List, [], ◌∷◌, ◌++◌, append-nil}
use Prim.Native.Nat.{ℕ, suc, ◌+◌, ◌-◌, ◌<◌, ◌≤◌}
use native.Mathlib.Nat.{zero-add}
use native.Mathlib.Omega.{arith}
use lib.Dec.{eqb}
use lib.ListN.{length, get_or, set, take, drop, replicate, length-append, length-take, length-drop, length-replicate, drop_of_length-le}
use lib.Seq.{length-sets, set_out, drop-cons, get_or-take}
use borrow.Author.Tests.{eq-eqb, ne_eqb, eqb-true, eqb-false}
use Rattle.lists.specs.Choice.{pick}
use Rattle.lists.specs.Lists.{tabulated}
use Rattle.lists.proofs.Laws.{Known, was_true, was_false, known, pick_yes, pick_no}
use Rattle.lists.proofs.Tabulated.{length-tabulated, tabulated_from, set-tabulated, sets_snoc}
use Rattle.board.specs.Limits.{max_vertices, max_terminals}
use Rattle.board.specs.Whole.{Relocation, Augmentation, Move, Carry, Turn, Entry}
use Rattle.report_routes.specs.Routes.{carried_over, route_in}
use Rattle.report_routes.specs.Inner.{row_of, counts_of, rows_of}

row_snoc : (es : List ℕ) (e : ℕ) → set (row_of es) (length es) e ≡ row_of (es ++ (e ∷ []))
unfolding row_of
row_snoc es e = let s = sets_snoc (replicate max_vertices 0) es 0 e in rw zero-add at s

carried_short : (i : ℕ) (s : Move) → length (carried_over i s) ≤ 1
unfolding pick
carried_short i (Carry r) = go (known (eqb r.terminal i))
  where
    go : Known (eqb r.terminal i) → length (pick (eqb r.terminal i) (r.edge ∷ []) []) ≤ 1
    go (was_true t) = rw t (omega arith)
    go (was_false t) = rw t (omega arith)
carried_short i (Turn a) = omega arith

-- no route has more edges than there are moves
route_short : (i : ℕ) (ms : List Entry) → length (route_in i ms) ≤ length ms
unfolding route_in
route_short i [] = omega arith
route_short i (m ∷ ms) = omega (arith, length-append (route_in i ms) (carried_over i m.step), carried_short i m.step, route_short i ms)

-- what the counts and the rows hold
pub counts_at : (ms : List Entry) (i : ℕ) → i < max_terminals → get_or (counts_of ms) i 0 ≡ length (route_in i ms)
unfolding counts_of
counts_at ms i h = tabulated_from (λ j. length (route_in j ms)) max_terminals i 0 h

pub rows_at : (ms : List Entry) (i : ℕ) (d : List ℕ) → i < max_terminals → get_or (rows_of ms) i d ≡ row_of (route_in i ms)
unfolding rows_of
rows_at ms i d h = tabulated_from (λ j. row_of (route_in j ms)) max_terminals i d h

counts_short : (ms : List Entry) (i : ℕ) → i < max_terminals → get_or (counts_of ms) i 0 ≤ length ms
counts_short ms i h = omega (arith, counts_at ms i h, route_short i ms)

-- a row that is full stays
row_full : (es : List ℕ) (e : ℕ) → max_vertices ≤ length es → row_of es ≡ row_of (es ++ (e ∷ []))
unfolding row_of
row_full es e h =
    let zeros : List ℕ = replicate max_vertices 0 in
    let long : length (row_of es) ≡ max_vertices = length-sets zeros 0 es ∙ length-replicate {A = ℕ} max_vertices 0 in
    sym (set_out (row_of es) (length es) e (omega (arith, long))) ∙ row_snoc es e

module _ (ms : List Entry) (r : Relocation) where
  -- the route of terminal i after a carry
  route_other : (i : ℕ) → i ≢ r.terminal → route_in i ms ≡ route_in i ms ++ carried_over i (Carry r)
  route_other i n =
      let q = pick_no (eqb r.terminal i) (r.edge ∷ []) [] (ne_eqb r.terminal i (λ z. n (sym z))) in
      rw q (sym (append-nil (route_in i ms)))

  route_same : route_in r.terminal ms ++ (r.edge ∷ []) ≡ route_in r.terminal ms ++ carried_over r.terminal (Carry r)
  route_same =
      let q = pick_yes (eqb r.terminal r.terminal) (r.edge ∷ []) [] (eq-eqb r.terminal r.terminal refl) in
      rw q

  counts_carried : r.terminal < max_terminals → set (counts_of ms) r.terminal (get_or (counts_of ms) r.terminal 0 + 1) ≡ counts_of (record { step = Carry r } ∷ ms)
  unfolding counts_of route_in
  counts_carried h =
      set-tabulated
      (λ i. length (route_in i ms))
      (λ i. length (route_in i (record { step = Carry r } ∷ ms)))
      max_terminals
      r.terminal
      _
      (λ m n. ap length (route_other m n))
      (rw (counts_at ms r.terminal h) (sym (length-append (route_in r.terminal ms) (r.edge ∷ [])) ∙ ap length route_same))

  rows_carried : r.terminal < max_terminals
      → set (rows_of ms) r.terminal (set (get_or (rows_of ms) r.terminal []) (get_or (counts_of ms) r.terminal 0) r.edge)
      ≡ rows_of (record { step = Carry r } ∷ ms)
  unfolding rows_of route_in
  rows_carried h =
      set-tabulated
      (λ i. row_of (route_in i ms))
      (λ i. row_of (route_in i (record { step = Carry r } ∷ ms)))
      max_terminals
      r.terminal
      _
      (λ m n. ap row_of (route_other m n))
      (rw (counts_at ms r.terminal h, rows_at ms r.terminal [] h) (row_snoc (route_in r.terminal ms) r.edge ∙ ap row_of route_same))

  -- no room in the row of the terminal
  rows_full : r.terminal < max_terminals → max_vertices ≤ get_or (counts_of ms) r.terminal 0 → rows_of ms ≡ rows_of (record { step = Carry r } ∷ ms)
  unfolding rows_of route_in
  rows_full h full = λ t. tabulated (λ i. same i t) 0 max_terminals
    where
      same : (i : ℕ) → row_of (route_in i ms) ≡ row_of (route_in i ms ++ carried_over i (Carry r))
      same i = go (known (eqb i r.terminal))
        where
          go : Known (eqb i r.terminal) → row_of (route_in i ms) ≡ row_of (route_in i ms ++ carried_over i (Carry r))
          go (was_true t) =
              rw (eqb-true i r.terminal t) (row_full (route_in r.terminal ms) r.edge (omega (arith, counts_at ms r.terminal h)) ∙ ap row_of route_same)
          go (was_false t) = ap row_of (route_other i (eqb-false _ _ t))

  -- no row for the terminal
  past : (A : Type 0) (f g : ℕ → A) → max_terminals ≤ r.terminal → ((m : ℕ) → m ≢ r.terminal → f m ≡ g m) → tabulated f 0 max_terminals ≡ tabulated g 0 max_terminals
  past A f g h e =
      let long = length-tabulated f 0 max_terminals in
      sym (set_out (tabulated f 0 max_terminals) r.terminal (g r.terminal) (omega (arith, long))) ∙ set-tabulated f g max_terminals r.terminal (g r.terminal) e refl

  counts_past : max_terminals ≤ r.terminal → counts_of ms ≡ counts_of (record { step = Carry r } ∷ ms)
  unfolding counts_of route_in
  counts_past h = past ℕ (λ i. length (route_in i ms)) (λ i. length (route_in i (record { step = Carry r } ∷ ms))) h (λ m n. ap length (route_other m n))

  rows_past : max_terminals ≤ r.terminal → rows_of ms ≡ rows_of (record { step = Carry r } ∷ ms)
  unfolding rows_of route_in
  rows_past h = past (List ℕ) (λ i. row_of (route_in i ms)) (λ i. row_of (route_in i (record { step = Carry r } ∷ ms))) h (λ m n. ap row_of (route_other m n))

-- a turn changes no route
counts_turned : (ms : List Entry) (a : Augmentation) → counts_of ms ≡ counts_of (record { step = Turn a } ∷ ms)
unfolding counts_of route_in
counts_turned ms a = sym (λ t. tabulated (λ i. length (append-nil (route_in i ms) t)) 0 max_terminals)

rows_turned : (ms : List Entry) (a : Augmentation) → rows_of ms ≡ rows_of (record { step = Turn a } ∷ ms)
unfolding rows_of route_in
rows_turned ms a = sym (λ t. tabulated (λ i. row_of (append-nil (route_in i ms) t)) 0 max_terminals)

-- no move stands
rows_none : replicate max_terminals (replicate max_vertices 0) ≡ rows_of []
unfolding rows_of tabulated route_in row_of
rows_none = refl

counts_none : replicate max_terminals 0 ≡ counts_of []
unfolding counts_of tabulated route_in
counts_none = refl

-- A walk from the last standing move of a journal to the first that has come to a place: the rows and the counts are those of the moves from there on.
abbrev pub Filled : ℕ → List Entry → ℕ → List (List ℕ) → List ℕ → Type 0
Filled moves journal at rows counts = (rows ≡ rows_of (drop at (take moves journal))) × (counts ≡ counts_of (drop at (take moves journal)))

module _ (moves : ℕ) (journal : List Entry) where
  -- as many moves stand as the count says, or as there are places: none is behind them
  pub fill_start : (standing : ℕ) → length (take moves journal) ≤ standing
      → Filled moves journal standing (replicate max_terminals (replicate max_vertices 0)) (replicate max_terminals 0)
  fill_start standing h =
      let none = drop_of_length-le (take moves journal) h in
      (rw none rows_none, rw none counts_none)

  module _ (at : ℕ) (rows : List (List ℕ)) (counts : List ℕ) (inv : Filled moves journal at rows counts) where
    -- no count wraps
    pub fill_short : (i : ℕ) → i < max_terminals → get_or counts i 0 ≤ length journal
    fill_short i h = rw inv.1 (omega (arith, counts_short (drop at (take moves journal)) i h, length-drop at (take moves journal), length-take moves journal))

    -- the walk has come to the first move
    pub fill_end : at ≤ 0 → (rows ≡ rows_of (take moves journal)) × (counts ≡ counts_of (take moves journal))
    fill_end h = let z : at ≡ 0 = omega arith in (rw z at inv.0, rw z at inv.1)

    module _ (d : Entry) (below : 0 < at) (inside : at ≤ length (take moves journal)) where
      -- the next move of the walk
      behind_next : drop (at - 1) (take moves journal) ≡ get_or journal (at - 1) d ∷ drop at (take moves journal)
      behind_next =
          let s : suc (at - 1) ≡ at = omega arith in
          let less : at - 1 < length (take moves journal) = omega arith in
          let here = get_or-take moves journal (at - 1) d (omega (arith, length-take moves journal)) in
          rw (drop-cons (take moves journal) (at - 1) d less, here, s)

      stepped : (s : Move) (next : List (List ℕ)) (lengths : List ℕ) → (get_or journal (at - 1) d).step ≡ s
          → next ≡ rows_of (record { step = s } ∷ drop at (take moves journal))
          → lengths ≡ counts_of (record { step = s } ∷ drop at (take moves journal))
          → Filled moves journal (at - 1) next lengths
      stepped s next lengths q p c =
          let passed = behind_next ∙ ap (λ (m : Move). record { step = m } ∷ drop at (take moves journal)) q in
          (p ∙ ap rows_of (sym passed), c ∙ ap counts_of (sym passed))

      -- it was a turn; or a carry of no terminal; or the carry of a terminal, whose row has room or is full
      pub fill_turned : (a : Augmentation) → (get_or journal (at - 1) d).step ≡ Turn a → Filled moves journal (at - 1) rows counts
      fill_turned a q = stepped (Turn a) rows counts q (inv.0 ∙ rows_turned _ a) (inv.1 ∙ counts_turned _ a)

      pub fill_past : (r : Relocation) → (get_or journal (at - 1) d).step ≡ Carry r → max_terminals ≤ r.terminal
          → Filled moves journal (at - 1) rows counts
      fill_past r q past = stepped (Carry r) rows counts q (inv.0 ∙ rows_past _ r past) (inv.1 ∙ counts_past _ r past)

      pub fill_carried : (r : Relocation) (next : List (List ℕ)) → (get_or journal (at - 1) d).step ≡ Carry r → r.terminal < max_terminals
          → ((get_or counts r.terminal 0 < max_vertices) × (next ≡ set rows r.terminal (set (get_or rows r.terminal []) (get_or counts r.terminal 0) r.edge)))
          ⊎ ((max_vertices ≤ get_or counts r.terminal 0) × (next ≡ rows))
          → Filled moves journal (at - 1) next (set counts r.terminal (get_or counts r.terminal 0 + 1))
      fill_carried r next q inside (inl w) =
          stepped (Carry r) next _ q (w.1 ∙ rw (inv.0, inv.1) (rows_carried _ r inside)) (rw inv.1 (counts_carried _ r inside))
      fill_carried r next q inside (inr w) =
          let full = rw inv.1 at w.0 in
          stepped (Carry r) next _ q (w.1 ∙ inv.0 ∙ rows_full _ r inside full) (rw inv.1 (counts_carried _ r inside))
