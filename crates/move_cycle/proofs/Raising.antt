-- The laws of a turn's amount that the code cites: what is left of a run over the terminals or over the steps, before and after one turn of the loop, in the code's own shape;
-- and that the amount, being one flow or one demand less a flow, is at most what bounds them all.
use mathlib.Core.Path.{◌≡◌, refl}
use mathlib.Core.Bool.{Bool, true, false, true≢false, false≢true}
use mathlib.Core.List.{List, [], ◌∷◌}
use Prim.Native.Nat.{ℕ, zero, suc, ◌+◌, ◌-◌, ◌<◌, ◌≤◌}
use native.Mathlib.Numerals.{add-one}
use native.Mathlib.Omega.{arith}
use lib.Dec.{ltb, eqb}
use lib.ListN.{length, get_or, drop, drop_of_length-le}
use lib.Seq.{drop-cons}
use Rattle.lists.specs.Choice.{pick}
use Rattle.board.specs.Whole.{Board}
use Rattle.graph_flows.specs.Trails.{Step, down, up, edge_of}
use Rattle.move_guard.specs.Parts.{flow, demand}
use Rattle.move_cycle.specs.Steps.{code_step, code_steps, is_up}
use Rattle.move_cycle.specs.Amounts.{smaller, is_short_in, lessened, raise_in, allowed_in, amount_in, amount}

-- a run over the terminals below n that has passed i
module _ (places demands : List ℕ) (head flow a i n total : ℕ) where
  pub raise_turn : i < n → raise_in places demands head flow a i (n - i) ≡ total
      → raise_in places demands head flow (lessened head flow (get_or places i 0) (get_or demands i 0) a) (i + 1) (n - (i + 1)) ≡ total
  unfolding raise_in
  raise_turn h inv = let s : n - i ≡ suc (n - suc i) = omega arith in rw (add-one i) (rw s at inv)

  pub raise_end : n ≤ i → raise_in places demands head flow a i (n - i) ≡ total → a ≡ total
  unfolding raise_in
  raise_end h inv = let s : n - i ≡ 0 = omega arith in rw s at inv

module _ (heads flows places demands : List ℕ) (terminals a : ℕ) where
  -- what a step allows, by its direction
  pub allowed_down : (s : Step) → is_up s ≡ false → smaller a (get_or flows (edge_of s) 0) ≡ allowed_in heads flows places demands terminals a s
  unfolding allowed_in
  allowed_down (down e) h = refl
  allowed_down (up e) h = absurd (true≢false h)

  pub allowed_up : (s : Step) → is_up s ≡ true
      → raise_in places demands (get_or heads (edge_of s) 0) (get_or flows (edge_of s) 0) a 0 terminals ≡ allowed_in heads flows places demands terminals a s
  unfolding allowed_in
  allowed_up (down e) h = absurd (false≢true h)
  allowed_up (up e) h = refl

  -- a run over the codes of the steps that has passed i of them
  module _ (codes : List ℕ) (i total : ℕ) where
    pub amount_turn : (r : ℕ) → i < length codes → r ≡ allowed_in heads flows places demands terminals a (code_step (get_or codes i 0))
        → amount_in heads flows places demands terminals a (code_steps (drop i codes)) ≡ total
        → amount_in heads flows places demands terminals r (code_steps (drop (i + 1) codes)) ≡ total
    unfolding amount_in code_steps
    amount_turn r h e inv = rw (add-one i, e) (rw (drop-cons codes i 0 h) at inv)

    pub amount_end : length codes ≤ i → amount_in heads flows places demands terminals a (code_steps (drop i codes)) ≡ total → a ≡ total
    unfolding amount_in code_steps
    amount_end h inv = rw (drop_of_length-le codes h) at inv

-- a bound of both is one of the choice
pick-most : (t : Bool) (a x c : ℕ) → a ≤ c → x ≤ c → pick t a x ≤ c
unfolding pick
pick-most true a x c p q = p
pick-most false a x c p q = q

smaller-most : (a x c : ℕ) → a ≤ c → x ≤ c → smaller a x ≤ c
unfolding smaller
smaller-most a x c p q = pick-most (eqb a 0) x (pick (ltb x a) x a) c q (pick-most (ltb x a) x a c q p)

module _ (heads flows places demands : List ℕ) (terminals c : ℕ) (most : (e : ℕ) → get_or flows e 0 ≤ c) (asked : (i : ℕ) → get_or demands i 0 ≤ c) where
  raise-most : (head flow a i k : ℕ) → a ≤ c → raise_in places demands head flow a i k ≤ c
  unfolding raise_in
  raise-most head flow a i zero h = h
  raise-most head flow a i (suc k) h =
      let x = get_or demands i 0 - flow in
      raise-most head flow (lessened head flow (get_or places i 0) (get_or demands i 0) a) (suc i) k
      (pick-most (is_short_in head flow (get_or places i 0) (get_or demands i 0)) (smaller a x) a c (smaller-most a x c h (omega (arith, asked i))) h)

  allowed-most : (a : ℕ) (s : Step) → a ≤ c → allowed_in heads flows places demands terminals a s ≤ c
  unfolding allowed_in
  allowed-most a (down e) h = smaller-most a (get_or flows e 0) c h (most e)
  allowed-most a (up e) h = raise-most (get_or heads e 0) (get_or flows e 0) a 0 terminals h

  amount-most : (a : ℕ) (w : List Step) → a ≤ c → amount_in heads flows places demands terminals a w ≤ c
  unfolding amount_in
  amount-most a [] h = h
  amount-most a (s ∷ w) h = amount-most (allowed_in heads flows places demands terminals a s) w (allowed-most a s h)

  pub least_small : (w : List Step) → amount_in heads flows places demands terminals 0 w ≤ c
  least_small w = amount-most 0 w (omega arith)

pub amount_small : (b : Board) (w : List Step) (c : ℕ) → ((e : ℕ) → flow b e ≤ c) → ((i : ℕ) → demand b i ≤ c) → amount b w ≤ c
amount_small b w c flows demands = least_small b.network.heads b.flows b.places b.network.demands b.network.terminals c flows demands w
