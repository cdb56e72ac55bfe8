-- Every route has room in its row on a board that keeps the invariant. Ranks in the acyclic flow rise along a route, so the vertices it passes are distinct; they
-- are one more than its edges, and there are no more of them than vertices, which are at most as many as a row holds.
use mathlib.Core.Path.{◌≡◌, refl, ap}
use mathlib.Core.Bool.{true}
use mathlib.Core.Logic.{◌⊎◌, inl, inr}
use mathlib.Core.List.{List, [], ◌∷◌}
use Prim.Native.Nat.{ℕ, suc, ◌<◌, ◌≤◌}
use native.Mathlib.Omega.{arith}
use lib.ListN.{length, get_or}
use borrow.Author.Tests.{le-leb}
use Rattle.lists.specs.Members.{Distinct}
use Rattle.lists.specs.Inner.{Below}
use Rattle.lists.proofs.Laws.{lt_or_ge, all_zero}
use Rattle.lists.proofs.Pigeon.{pigeon}
use Rattle.board.specs.Limits.{max_vertices}
use Rattle.board.specs.Whole.{Board}
use Rattle.board.specs.declared.Network.{Network}
use Rattle.text_rules.specs.Sound.{Sound}
use Rattle.text_rules.specs.Rules.{Within}
use Rattle.move_guard.specs.Parts.{place}
use Rattle.report_routes.specs.Routes.{route}
use Rattle.report_routes.specs.Tables.{routes_fit}
use Rattle.theorem_cycles.specs.Invariant.{Invariant}
use Rattle.theorem_cycles.specs.Potential.{level}
use Rattle.theorem_cycles.proofs.Potential.{acyclic_rises}
use Rattle.theorem_list.specs.Complete.{vertices_along}
use Rattle.theorem_list.proofs.Ends.{rising_once}

-- the vertices that edges lead over: one more than the edges, and all vertices of the board
vertices_along-length : (heads : List ℕ) (v : ℕ) (es : List ℕ) → length (vertices_along heads v es) ≡ suc (length es)
vertices_along-length heads v [] = refl
vertices_along-length heads v (e ∷ es) = ap suc (vertices_along-length heads (get_or heads e 0) es)

vertices_along_below : (heads : List ℕ) (n v : ℕ) (es : List ℕ) → v < n → ((e : ℕ) → get_or heads e 0 < n) → Below n (vertices_along heads v es)
vertices_along_below heads n v [] h ends = (h, tt)
vertices_along_below heads n v (e ∷ es) h ends = (h, vertices_along_below heads n (get_or heads e 0) es (ends e) ends)

module _ (net : Network) (sound : Sound net) where
  -- a place past the edges holds 0, which is a vertex
  head_below : (e : ℕ) → get_or net.heads e 0 < net.vertices
  head_below e = go (lt_or_ge e net.edges)
    where
      go : (e < net.edges) ⊎ (net.edges ≤ e) → get_or net.heads e 0 < net.vertices
      go (inl h) = sound.head e h
      go (inr h) = omega (arith, (sound.no_edge e h).1, sound.source)

  -- edges that lead over distinct vertices are fewer than the vertices
  pub distinct_few : (v : ℕ) (es : List ℕ) → v < net.vertices → Distinct (vertices_along net.heads v es) → length es < net.vertices
  distinct_few v es h once =
      let below = vertices_along_below net.heads net.vertices v es h head_below in
      let few = pigeon net.vertices (vertices_along net.heads v es) once below in
      omega (arith, few, vertices_along-length net.heads v es)

module _ (b : Board) (inv : Invariant b) (within : Within b.network) where
  route_short : (i : ℕ) → i < b.network.terminals → length (route b i) ≤ max_vertices
  route_short i h =
      let once =
      rising_once b.network.tails b.network.heads (level b) (route b i) (inv.routes i h) (λ e t. acyclic_rises b inv e (inv.on_routes i e h t)) in
      omega (arith, distinct_few b.network inv.sound (place b i) (route b i) (inv.placed i h) once, within.vertices)

  pub routes_fit_lem : routes_fit b ≡ true
  unfolding routes_fit
  routes_fit_lem = all_zero _ b.network.terminals (λ i h. le-leb _ _ (route_short i h))
