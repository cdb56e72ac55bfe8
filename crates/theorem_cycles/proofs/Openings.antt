-- When some carry is open: each test, one after the other, read as the fact it tests.
use mathlib.Core.Path.{◌≡◌, refl, sym, ◌∙◌}
use mathlib.Core.Bool.{Bool, true, false, true≢false}
use Prim.Native.Nat.{ℕ, ◌<◌, ◌≤◌}
use native.Mathlib.Omega.{arith}
use borrow.Author.Tests.{eqb-true, eq-eqb, ltb-true, lt-ltb, leb-true, le-leb}
use Rattle.lists.specs.Choice.{pick}
use Rattle.lists.proofs.Laws.{Known, was_true, was_false, known, both_left, both_right, both_true}
use Rattle.lists.proofs.Lowest.{lowest_least, lowest_found}
use Rattle.board.specs.Whole.{Board}
use Rattle.move_guard.specs.Parts.{flow, head, marked, demand, place}
use Rattle.move_carry.specs.Opens.{flow_fits, is_open, open_edge, has_open, open_terminal, some_open, enters_in, has_open_in, is_open_in, open_edge_in, open_terminal_in, some_open_in}

-- the flow of an edge that may be carried over, both ways
pub fits_facts : (m : Bool) (f d : ℕ) → flow_fits m f d ≡ true → (d ≤ f) × (m ≡ true → f ≡ d)
unfolding flow_fits pick
fits_facts true f d h = let q : f ≡ d = eqb-true f d h in (omega arith, λ t. q)
fits_facts false f d h = (leb-true d f h, λ t. absurd (true≢false (sym t)))

pub facts_fit : (m : Bool) (f d : ℕ) → d ≤ f → (m ≡ true → f ≡ d) → flow_fits m f d ≡ true
unfolding flow_fits pick
facts_fit true f d h q = eq-eqb f d (q refl)
facts_fit false f d h q = le-leb d f h

module _ (b : Board) (i e : ℕ) where
  -- an open carry, both ways
  pub open_facts : is_open b i e ≡ true → (head b e ≡ place b i) × (demand b i ≤ flow b e) × (marked b e ≡ true → flow b e ≡ demand b i)
  unfolding is_open_in enters_in
  open_facts h =
      let f = fits_facts (marked b e) (flow b e) (demand b i) (both_right _ _ h) in
      (eqb-true _ _ (both_left _ _ h), f.0, f.1)

  pub facts_open : head b e ≡ place b i → demand b i ≤ flow b e → (marked b e ≡ true → flow b e ≡ demand b i) → is_open b i e ≡ true
  unfolding is_open_in enters_in
  facts_open h d m = both_true _ _ (eq-eqb _ _ h) (facts_fit _ _ _ d m)

  -- an open carry is found by the searches
  has_open_lem : e < b.network.edges → is_open b i e ≡ true → has_open b i ≡ true
  unfolding has_open_in open_edge_in
  has_open_lem h t = lt-ltb (open_edge b i) b.network.edges (omega (arith, lowest_found (is_open b i) 0 b.network.edges e (omega arith) t))

  pub some_open_lem : i < b.network.terminals → e < b.network.edges → is_open b i e ≡ true → some_open b ≡ true
  unfolding some_open_in open_terminal_in
  some_open_lem g h t = lt-ltb (open_terminal b) b.network.terminals (omega (arith, lowest_found (has_open b) 0 b.network.terminals i (omega arith) (has_open_lem h t)))

  pub none_open : i < b.network.terminals → e < b.network.edges → some_open b ≡ false → is_open b i e ≡ false
  none_open g h n = go (known (is_open b i e))
    where
      go : Known (is_open b i e) → is_open b i e ≡ false
      go (was_true t) = absurd (true≢false (sym (some_open_lem g h t) ∙ n))
      go (was_false t) = t

-- an open carry of the board
pub record Opening (b : Board) : Type 0 where
  pub terminal : ℕ
  pub edge : ℕ
  pub on_terminal : terminal < b.network.terminals
  pub on_edge : edge < b.network.edges
  pub opens : is_open b terminal edge ≡ true

pub opening : (b : Board) → some_open b ≡ true → Opening b
unfolding some_open_in open_terminal_in has_open_in open_edge_in
opening b h =
    let i = open_terminal b in
    let low : i < b.network.terminals = ltb-true _ _ h in
    let has : has_open b i ≡ true = (lowest_least (has_open b) 0 b.network.terminals).hit (omega arith) in
    let found : open_edge b i < b.network.edges = ltb-true _ _ has in
    record {
      terminal = i;
      edge = open_edge b i;
      on_terminal = low;
      on_edge = found;
      opens = (lowest_least (is_open b i) 0 b.network.edges).hit (omega arith);
    }
