-- Routes and loads after a carry of terminal i over edge e: the edge is put in front of that terminal's route, and the other routes stay. So only the
-- load of that edge may grow, by what the terminal needs at most.
use mathlib.Core.Path.{◌≡◌, refl, sym, ap, ◌∙◌}
use mathlib.Core.Bool.{Bool}
use mathlib.Core.Logic.{◌⊎◌, inl, inr, ◌≢◌}
use mathlib.Core.List.{List, [], ◌∷◌, ◌++◌, append-nil, append_assoc}
use Prim.Native.Nat.{ℕ, ◌+◌, ◌<◌, ◌≤◌}
use native.Mathlib.Numerals.{add-one}
use native.Mathlib.Omega.{arith}
use lib.Dec.{eqb}
use lib.ListN.{length, take}
use lib.Seq.{take-suc-set}
use borrow.Author.Tests.{eq-eqb, ne_eqb}
use Rattle.lists.specs.Choice.{pick}
use Rattle.lists.specs.Members.{has}
use Rattle.lists.proofs.Laws.{eq_or_ne, pick_yes, pick_no}
use Rattle.lists.proofs.Pigeon.{has_here}
use Rattle.lists.proofs.Totals.{total_same, total_raised, most_same, most_at}
use Rattle.board.specs.Whole.{Carry, Entry, Board}
use Rattle.move_guard.specs.Parts.{demand}
use Rattle.move_carry.specs.Carries.{carried, carried_in}
use Rattle.report_routes.specs.Routes.{carried_over, route_in, route, share, load, largest}

-- one more move at the end of the list
route_more : (i : ℕ) (ms : List Entry) (m : Entry) → route_in i (ms ++ (m ∷ [])) ≡ carried_over i m.step ++ route_in i ms
unfolding route_in
route_more i [] m = sym (append-nil (carried_over i m.step))
route_more i (n ∷ ms) m =
    ap (λ (l : List ℕ). l ++ carried_over i n.step) (route_more i ms m) ∙ append_assoc (carried_over i m.step) (route_in i ms) (carried_over i n.step)

module _ (b : Board) (i e : ℕ) (room : b.moves < length b.journal) where
  -- the routes
  route_carried : (k : ℕ) → route (carried b i e) k ≡ pick (eqb i k) (e ∷ []) [] ++ route b k
  unfolding carried_in route
  route_carried k = rw (add-one b.moves, take-suc-set b.journal b.moves (record { step = Carry (record { terminal = i; edge = e }) }) room)
      (route_more k (take b.moves b.journal) (record { step = Carry (record { terminal = i; edge = e }) }))

  pub route-moved : route (carried b i e) i ≡ e ∷ route b i
  route-moved = route_carried i ∙ ap (λ (l : List ℕ). l ++ route b i) (pick_yes (eqb i i) _ _ (eq-eqb i i refl))

  pub route_kept : (k : ℕ) → k ≢ i → route (carried b i e) k ≡ route b k
  route_kept k n = route_carried k ∙ ap (λ (l : List ℕ). l ++ route b k) (pick_no (eqb i k) _ _ (ne_eqb i k (λ q. n (sym q))))

  -- the shares in a load
  has_other : (g : ℕ) → g ≢ e → has g (route (carried b i e) i) ≡ has g (route b i)
  unfolding has
  has_other g n = rw (route-moved, ne_eqb g e n, has) refl

  share_kept : (g k : ℕ) → k ≢ i → share (carried b i e) g k ≡ share b g k
  unfolding carried_in
  share_kept g k n = ap (λ (l : List ℕ). pick (has g l) (demand b k) 0) (route_kept k n)

  share_other : (g k : ℕ) → g ≢ e → share (carried b i e) g k ≡ share b g k
  unfolding carried_in
  share_other g k n = go (eq_or_ne k i)
    where
      go : (k ≡ i) ⊎ (k ≢ i) → share (carried b i e) g k ≡ share b g k
      go (inl q) = rw q (ap (λ (t : Bool). pick t (demand b i) 0) (has_other g n))
      go (inr d) = share_kept g k d

  share-moved : share (carried b i e) e i ≡ demand b i
  unfolding carried_in
  share-moved = pick_yes _ _ _ (rw route-moved (has_here e e (route b i) refl))

  -- the loads
  pub load_kept : (g : ℕ) → g ≢ e → load (carried b i e) g ≡ load b g
  unfolding load carried_in
  load_kept g n = total_same (share (carried b i e) g) (share b g) 0 b.network.terminals (λ k h l. share_other g k n)

  pub largest_kept : (g : ℕ) → g ≢ e → largest (carried b i e) g ≡ largest b g
  unfolding largest carried_in
  largest_kept g n = most_same (share (carried b i e) g) (share b g) 0 b.network.terminals (λ k. share_other g k n)

  pub load_moved : load (carried b i e) e ≤ load b e + demand b i
  unfolding load carried_in
  load_moved = rw share-moved at (total_raised (share (carried b i e) e) (share b e) 0 b.network.terminals i (λ k n. share_kept e k n))

  pub largest-moved : i < b.network.terminals → demand b i ≤ largest (carried b i e) e
  unfolding largest carried_in
  largest-moved h = rw share-moved at (most_at (share (carried b i e) e) 0 b.network.terminals i (omega arith) (omega arith))
