-- The amount of a turn. It starts at 0, which stands for none, and each down-step's flow and each short terminal's lack at an up-step's head makes it that
-- number or leaves it, whichever is smaller. All these are positive, so from the first one on it stays positive and falls, and it is one of them.
use mathlib.Core.Path.{◌≡◌, refl, ap, ◌∙◌}
use mathlib.Core.Bool.{true}
use mathlib.Core.Logic.{◌⊎◌, inl, inr}
use mathlib.Core.List.{List, [], ◌∷◌}
use Prim.Native.Nat.{ℕ, zero, suc, ◌+◌, ◌-◌, ◌<◌, ◌≤◌}
use native.Mathlib.Omega.{arith}
use native.Mathlib.Nat.{zero-add}
use lib.Dec.{ltb, eqb}
use lib.ListN.{length, get_or}
use borrow.Author.Tests.{eqb-true, eqb-false, eq-eqb, ltb-true, ltb-false, lt-ltb}
use Rattle.lists.specs.Choice.{pick}
use Rattle.lists.proofs.Laws.{Known, was_true, was_false, known, eq_or_ne, pick_yes, pick_no, both_left, both_right, both_true}
use Rattle.board.specs.Whole.{Board}
use Rattle.graph_flows.specs.Trails.{Step, down, up, edge_of, Trail, stay, go, Closed, In}
use Rattle.move_guard.specs.Parts.{flow, head, demand, place}
use Rattle.move_cycle.specs.Amounts.{smaller, is_short, raise, amount_from, amount, allowed, allowed_in, amount_in, raise_in}
use Rattle.theorem_cycles.specs.Allowed.{Attained, zeroed, met}

-- r is positive and at most a
abbrev Under : ℕ → ℕ → Type 0
Under a r = (0 < r) × (r ≤ a)

under_trans : (a x r : ℕ) → Under a x → Under x r → Under a r
under_trans a x r p q = (q.0, omega (arith, p.1, q.1))

-- the smaller of two
record Smaller (a x r : ℕ) : Type 0 where
  old : 0 < a → Under a r
  new : Under x r
  one : (r ≡ a) ⊎ (r ≡ x)

smaller_so : (a x : ℕ) → 0 < x → Smaller a x (smaller a x)
unfolding smaller
smaller_so a x h = at (known (eqb a 0)) (known (ltb x a))
  where
    at : Known (eqb a 0) → Known (ltb x a) → Smaller a x (pick (eqb a 0) x (pick (ltb x a) x a))
    at (was_true t) k =
        let z : a ≡ 0 = eqb-true a 0 t in
        rw (pick_yes (eqb a 0) x (pick (ltb x a) x a) t) (record { old = λ p. absurd (omega (arith, p, z)); new = (h, omega arith); one = inr refl })
    at (was_false t) (was_true k) =
        let l : x < a = ltb-true x a k in
        rw (pick_no (eqb a 0) x (pick (ltb x a) x a) t, pick_yes (ltb x a) x a k) (record { old = λ p. (h, omega arith); new = (h, omega arith); one = inr refl })
    at (was_false t) (was_false k) =
        let l : a ≤ x = ltb-false x a k in
        let z : 0 < a = omega (arith, eqb-false a 0 t) in
        rw (pick_no (eqb a 0) x (pick (ltb x a) x a) t, pick_no (ltb x a) x a k) (record { old = λ p. (z, omega arith); new = (z, l); one = inl refl })

module _ (b : Board) where
  -- terminal i is short at edge e
  record Short (e i : ℕ) : Type 0 where
    here : place b i ≡ head b e
    lack : flow b e < demand b i

  short_so : (e i : ℕ) → is_short b e i ≡ true → Short e i
  short_so e i t = record {
    here = eqb-true (place b i) (head b e) (both_left _ _ t);
    lack = ltb-true (flow b e) (demand b i) (both_right (eqb (place b i) (head b e)) _ t);
  }

  so_short : (e i : ℕ) → Short e i → is_short b e i ≡ true
  so_short e i s = both_true _ _ (eq-eqb (place b i) (head b e) s.here) (lt-ltb (flow b e) (demand b i) s.lack)

  -- one terminal
  module _ (e a i : ℕ) where
    abbrev next : ℕ
    next = pick (is_short b e i) (smaller a (demand b i - flow b e)) a

    next_old : 0 < a → Under a next
    next_old p = at (known (is_short b e i))
      where
        at : Known (is_short b e i) → Under a next
        at (was_true t) = rw (pick_yes (is_short b e i) (smaller a (demand b i - flow b e)) a t)
            ((smaller_so a (demand b i - flow b e) (omega (arith, (short_so e i t).lack))).old p)
        at (was_false t) = rw (pick_no (is_short b e i) (smaller a (demand b i - flow b e)) a t) (p, omega arith)

    next_new : Short e i → Under (demand b i - flow b e) next
    next_new s = rw (pick_yes (is_short b e i) (smaller a (demand b i - flow b e)) a (so_short e i s))
        (smaller_so a (demand b i - flow b e) (omega (arith, s.lack))).new

    next_one : (next ≡ a) ⊎ ((Short e i) × (next ≡ demand b i - flow b e))
    next_one = at (known (is_short b e i))
      where
        of : Short e i → (next ≡ smaller a (demand b i - flow b e)) → (smaller a (demand b i - flow b e) ≡ a) ⊎ (smaller a (demand b i - flow b e) ≡ demand b i - flow b e)
            → (next ≡ a) ⊎ ((Short e i) × (next ≡ demand b i - flow b e))
        of s q (inl p) = inl (q ∙ p)
        of s q (inr p) = inr (s, q ∙ p)

        at : Known (is_short b e i) → (next ≡ a) ⊎ ((Short e i) × (next ≡ demand b i - flow b e))
        at (was_true t) =
            let s = short_so e i t in
            of s (pick_yes (is_short b e i) (smaller a (demand b i - flow b e)) a t) (smaller_so a (demand b i - flow b e) (omega (arith, s.lack))).one
        at (was_false t) = inl (pick_no (is_short b e i) (smaller a (demand b i - flow b e)) a t)

  -- a run over terminals
  raise_old : (e a i k : ℕ) → 0 < a → Under a (raise b e a i k)
  unfolding raise_in
  raise_old e a i zero p = (p, omega arith)
  raise_old e a i (suc k) p =
      let u = next_old e a i p in
      under_trans a (next e a i) (raise b e (next e a i) (suc i) k) u (raise_old e (next e a i) (suc i) k u.0)

  raise_new : (e a i k j : ℕ) → i ≤ j → j < i + k → Short e j → Under (demand b j - flow b e) (raise b e a i k)
  unfolding raise_in
  raise_new e a i zero j l h s = absurd (omega arith)
  raise_new e a i (suc k) j l h s = at (eq_or_ne i j) (λ g. raise_new e (next e a i) (suc i) k j g (omega arith) s)
    where
      at : (i ≡ j) ⊎ (i ≡ j → ⊥) → (suc i ≤ j → Under (demand b j - flow b e) (raise b e (next e a i) (suc i) k))
          → Under (demand b j - flow b e) (raise b e (next e a i) (suc i) k)
      at (inl q) ih =
          let u : Under (demand b j - flow b e) (next e a i) = rw (← q) (next_new e a i (rw q s)) in
          under_trans (demand b j - flow b e) (next e a i) (raise b e (next e a i) (suc i) k) u (raise_old e (next e a i) (suc i) k u.0)
      at (inr q) ih = ih (omega arith)

  record Lack (e n r : ℕ) : Type 0 where
    terminal : ℕ
    below : terminal < n
    short : Short e terminal
    value : r ≡ demand b terminal - flow b e

  raise_one : (e a i k : ℕ) → (raise b e a i k ≡ a) ⊎ Lack e (i + k) (raise b e a i k)
  unfolding raise_in
  raise_one e a i zero = inl refl
  raise_one e a i (suc k) = at (raise_one e (next e a i) (suc i) k) (next_one e a i)
    where
      at : (raise b e (next e a i) (suc i) k ≡ next e a i) ⊎ Lack e (suc i + k) (raise b e (next e a i) (suc i) k)
          → (next e a i ≡ a) ⊎ ((Short e i) × (next e a i ≡ demand b i - flow b e))
          → (raise b e (next e a i) (suc i) k ≡ a) ⊎ Lack e (i + suc k) (raise b e (next e a i) (suc i) k)
      at (inr l) q = inr (record { terminal = l.terminal; below = omega (arith, l.below); short = l.short; value = l.value })
      at (inl p) (inl q) = inl (p ∙ q)
      at (inl p) (inr q) = inr (record { terminal = i; below = omega arith; short = q.0; value = p ∙ q.1 })

  -- every edge of the steps is positive
  abbrev AllPositive : List Step → Type 0
  AllPositive w = (s : Step) → In s w → 0 < flow b (edge_of s)

  allowed_old : (a : ℕ) (s : Step) → 0 < flow b (edge_of s) → 0 < a → Under a (allowed b a s)
  unfolding allowed_in
  allowed_old a (down e) f p = (smaller_so a (flow b e) f).old p
  allowed_old a (up e) f p = raise_old e a 0 b.network.terminals p

  from_old : (a : ℕ) (w : List Step) → AllPositive w → 0 < a → Under a (amount_from b a w)
  unfolding amount_in
  from_old a [] above p = (p, omega arith)
  from_old a (s ∷ w) above p =
      let u = allowed_old a s (above s (inl refl)) p in
      under_trans a (allowed b a s) (amount_from b (allowed b a s) w) u (from_old (allowed b a s) w (λ t i. above t (inr i)) u.0)

  -- what one step bounds, the amount keeps
  from_new : (a : ℕ) (w : List Step) (s : Step) (x : ℕ) → AllPositive w → In s w → ((c : ℕ) → Under x (allowed b c s)) → Under x (amount_from b a w)
  unfolding amount_in
  from_new a [] s x above i f = absurd i
  from_new a (t ∷ w) s x above (inl q) f =
      let u : Under x (allowed b a t) = rw (← q) (f a) in
      under_trans x (allowed b a t) (amount_from b (allowed b a t) w) u (from_old (allowed b a t) w (λ d i. above d (inr i)) u.0)
  from_new a (t ∷ w) s x above (inr i) f = from_new (allowed b a t) w s x (λ d j. above d (inr j)) i f

  -- x is a flow or a lack of one of the steps
  data Got (w : List Step) (x : ℕ) : Type 0 where
    flow_got : (e : ℕ) → In (down e) w → x ≡ flow b e → Got w x
    lack_got : (e : ℕ) → In (up e) w → Lack e b.network.terminals x → Got w x

  got_later : (t : Step) (w : List Step) (x : ℕ) → Got w x → Got (t ∷ w) x
  got_later t w x (flow_got e i q) = flow_got e (inr i) q
  got_later t w x (lack_got e i l) = lack_got e (inr i) l

  allowed_one : (a : ℕ) (s : Step) (w : List Step) → 0 < flow b (edge_of s) → (allowed b a s ≡ a) ⊎ Got (s ∷ w) (allowed b a s)
  unfolding allowed_in
  allowed_one a (down e) w f = at (smaller_so a (flow b e) f).one
    where
      at : (smaller a (flow b e) ≡ a) ⊎ (smaller a (flow b e) ≡ flow b e) → (smaller a (flow b e) ≡ a) ⊎ Got (down e ∷ w) (smaller a (flow b e))
      at (inl q) = inl q
      at (inr q) = inr (flow_got e (inl refl) q)
  allowed_one a (up e) w f = at (raise_one e a 0 b.network.terminals)
    where
      at : (raise b e a 0 b.network.terminals ≡ a) ⊎ Lack e (0 + b.network.terminals) (raise b e a 0 b.network.terminals)
          → (raise b e a 0 b.network.terminals ≡ a) ⊎ Got (up e ∷ w) (raise b e a 0 b.network.terminals)
      at (inl q) = inl q
      at (inr l) = inr (lack_got e (inl refl) (rw zero-add at l))

  from_one : (a : ℕ) (w : List Step) → AllPositive w → (amount_from b a w ≡ a) ⊎ Got w (amount_from b a w)
  unfolding amount_in
  from_one a [] above = inl refl
  from_one a (s ∷ w) above = at (from_one (allowed b a s) w (λ t i. above t (inr i))) (allowed_one a s w (above s (inl refl)))
    where
      at : (amount_from b (allowed b a s) w ≡ allowed b a s) ⊎ Got w (amount_from b (allowed b a s) w) → (allowed b a s ≡ a) ⊎ Got (s ∷ w) (allowed b a s)
          → (amount_from b (allowed b a s) w ≡ a) ⊎ Got (s ∷ w) (amount_from b (allowed b a s) w)
      at (inr g) q = inr (got_later s w (amount_from b (allowed b a s) w) g)
      at (inl p) (inl q) = inl (p ∙ q)
      at (inl p) (inr g) = inr (rw p g)

-- the amount
down_under : (b : Board) (w : List Step) (e : ℕ) → AllPositive b w → In (down e) w → Under (flow b e) (amount b w)
unfolding allowed_in
down_under b w e above i = from_new b 0 w (down e) (flow b e) above i (λ c. (smaller_so c (flow b e) (above (down e) i)).new)

pub amount_down : (b : Board) (w : List Step) (e : ℕ) → ((s : Step) → In s w → 0 < flow b (edge_of s)) → In (down e) w → amount b w ≤ flow b e
amount_down b w e above i = (down_under b w e above i).1

pub amount_above : (b : Board) (w : List Step) (e : ℕ) → ((s : Step) → In s w → 0 < flow b (edge_of s)) → In (down e) w → 0 < amount b w
amount_above b w e above i = (down_under b w e above i).0

pub amount_up : (b : Board) (w : List Step) (e i : ℕ) → ((s : Step) → In s w → 0 < flow b (edge_of s)) → In (up e) w → i < b.network.terminals
    → place b i ≡ head b e → flow b e < demand b i → flow b e + amount b w ≤ demand b i
unfolding allowed_in
amount_up b w e i above m h p l =
    omega (
      arith,
      l,
      (from_new b 0 w (up e) (demand b i - flow b e) above m
          (λ c. raise_new b e c 0 b.network.terminals i (omega arith) (omega arith) (record { here = p; lack = l }))).1,
    )

pub amount_attained : (b : Board) (w : List Step) (e : ℕ) → ((s : Step) → In s w → 0 < flow b (edge_of s)) → In (down e) w → Attained b w
amount_attained b w e above i = at (from_one b 0 w above) (amount_above b w e above i)
  where
    at : (amount_from b 0 w ≡ 0) ⊎ Got b w (amount_from b 0 w) → 0 < amount b w → Attained b w
    at (inl q) p = absurd (omega (arith, p, q))
    at (inr (flow_got d j q)) p = zeroed d j q
    at (inr (lack_got d j l)) p =
        met d l.terminal j l.below l.short.here (omega (arith, l.value, l.short.lack))

-- a closed trail over edges that all rise in level has a down-step: up-steps alone would lead below where it began
pub record SomeDown (w : List Step) : Type 0 where
  pub edge : ℕ
  pub among : In (down edge) w

module _ (tails heads : List ℕ) (level : ℕ → ℕ) where
  down_or_lower : {a c : ℕ} (w : List Step) → Trail tails heads a w c
      → ((s : Step) → In s w → level (get_or tails (edge_of s) 0) < level (get_or heads (edge_of s) 0)) → SomeDown w ⊎ (level c + length w ≤ level a)
  down_or_lower [] stay rises = inr (omega arith)
  down_or_lower (down e ∷ w) (go s q t) rises = inl (record { edge = e; among = inl refl })
  down_or_lower {a} {c} (up e ∷ w) (go s q t) rises = at (down_or_lower {a = get_or tails e 0} w t (λ d i. rises d (inr i)))
    where
      at : SomeDown w ⊎ (level c + length w ≤ level (get_or tails e 0)) → SomeDown (up e ∷ w) ⊎ (level c + length (up e ∷ w) ≤ level a)
      at (inl d) = inl (record { edge = d.edge; among = inr d.among })
      at (inr l) = let same : level (get_or heads e 0) ≡ level a = ap level q in inr (omega (arith, l, rises (up e) (inl refl), same))

  pub some_down : (w : List Step) → Closed tails heads w
      → ((s : Step) → In s w → level (get_or tails (edge_of s) 0) < level (get_or heads (edge_of s) 0)) → SomeDown w
  some_down w closed rises = at (down_or_lower w closed.trail rises)
    where
      at : SomeDown w ⊎ (level closed.vertex + length w ≤ level closed.vertex) → SomeDown w
      at (inl d) = d
      at (inr l) = absurd (omega (arith, l, closed.some))
