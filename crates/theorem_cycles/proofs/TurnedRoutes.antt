-- A turn carries no terminal, so it leaves every route, and with the routes the loads.
use mathlib.Core.Path.{◌≡◌, refl, ap}
use mathlib.Core.List.{List, [], ◌∷◌, ◌++◌}
use Prim.Native.Nat.{ℕ, zero, suc}
use native.Mathlib.Numerals.{add-one}
use lib.ListN.{set, take}
use Rattle.lists.specs.Choice.{pick}
use Rattle.lists.specs.Lists.{total, most}
use Rattle.lists.specs.Members.{has}
use Rattle.board.specs.Whole.{Entry, Board}
use Rattle.graph_flows.specs.Trails.{Step}
use Rattle.move_guard.specs.Parts.{demand}
use Rattle.move_turn.specs.Turns.{turned, turned_in}
use Rattle.report_routes.specs.Routes.{carried_over, route_in, route, share, load, largest}

-- one more entry, which carries nobody
route_same : (i n : ℕ) (l : List Entry) (a : Entry) → carried_over i a.step ≡ [] → route_in i (take (suc n) (set l n a)) ≡ route_in i (take n l)
unfolding route_in
route_same i zero [] a none = refl
route_same i (suc n) [] a none = refl
route_same i zero (m ∷ ms) a none = none
route_same i (suc n) (m ∷ ms) a none = ap (λ (r : List ℕ). r ++ carried_over i m.step) (route_same i n ms a none)

module _ (b : Board) (w : List Step) where
  pub route_after : (i : ℕ) → route (turned b w) i ≡ route b i
  unfolding route turned_in
  route_after i = rw (add-one b.moves) (route_same i b.moves b.journal _ refl)

  share_after : (e i : ℕ) → share (turned b w) e i ≡ share b e i
  unfolding turned_in
  share_after e i = ap (λ (r : List ℕ). pick (has e r) (demand b i) 0) (route_after i)

  pub load_after : (e : ℕ) → load (turned b w) e ≡ load b e
  unfolding load turned_in
  load_after e = λ j. total (λ i. share_after e i j) 0 b.network.terminals

  pub largest_after : (e : ℕ) → largest (turned b w) e ≡ largest b e
  unfolding largest turned_in
  largest_after e = λ j. most (λ i. share_after e i j) 0 b.network.terminals
