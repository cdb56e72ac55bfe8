-- One vertex of the walk, case by case in the code's shape: the walk w stops at v, where none is left to see or v was met before; or takes one step down, or one
-- step up.
use mathlib.Core.Path.{◌≡◌, refl, sym, ap, ◌∙◌, subst}
use mathlib.Core.Bool.{Bool, true, false}
use mathlib.Core.List.{List, [], ◌∷◌, ◌++◌}
use Prim.Native.Nat.{ℕ, zero, suc, ◌+◌, ◌-◌, ◌<◌, ◌≤◌}
use native.Mathlib.Omega.{arith}
use lib.Dec.{ltb, eqb}
use lib.ListN.{length, get_or, drop}
use borrow.Author.Tests.{lt-ltb, le-ltb, ne_eqb, eqb-false}
use Rattle.board.specs.Limits.{max_vertices, max_edges}
use Rattle.lists.specs.Choice.{either}
use Rattle.lists.proofs.Laws.{either_left, either_right}
use Rattle.sets.specs.Sets.{has_bit}
use Rattle.graph_flows.specs.Trails.{Step, down, up}
use Rattle.move_cycle.specs.Steps.{code_up}
use Rattle.solve_walk.specs.Walk.{another, parts, first_met, down_walk, up_walk}
use Rattle.solve_walk.proofs.Packed.{another-most}

-- what the calls ask for: n steps, and the vertices left, have room together
module _ (n left : ℕ) (room : n + left ≤ max_vertices) where
  pub room_now : n ≤ max_vertices
  room_now = omega (arith, room)

  pub room_step : (ends flows : List ℕ) (v x e : ℕ) → (left ≡ 0 → ⊥) → length flows ≡ max_edges → e ≡ another ends flows v x
      → (n < max_vertices) × (e < code_up)
  room_step ends flows v x e some few i = (omega (arith, room, some), omega (arith, few, i, another-most ends flows v x))

  pub room_on : (m : ℕ) → (left ≡ 0 → ⊥) → m ≡ n + 1 → m + (left - 1) ≤ max_vertices
  room_on m some i = omega (arith, room, some, i)

-- where the walk goes on, a vertex is left
pub left_some : (left : ℕ) (seen stop : Bool) → stop ≡ either (eqb left 0) seen → stop ≡ false → left ≡ 0 → ⊥
left_some left seen stop stops goes = eqb-false left 0 (either_left _ _ (sym stops ∙ goes))

module _ (tails heads flows : List ℕ) where
  abbrev pub downs : ℕ → List Step → ℕ → ℕ → List Step
  downs = down_walk tails heads flows (another tails flows) (another heads flows)

  abbrev pub ups : ℕ → List Step → ℕ → ℕ → List Step
  ups = up_walk tails heads flows (another tails flows) (another heads flows)

  module _ (left : ℕ) (w : List Step) (x v seen : ℕ) (stop : Bool) (P : List Step → Type 0) (met : has_bit seen v ≡ ltb (first_met tails heads w v) (length w))
      (stops : stop ≡ either (eqb left 0) (has_bit seen v)) where
    -- with a vertex left, the walk stops where v was met before
    before : (k : ℕ) → left ≡ suc k → stop ≡ true → ltb (first_met tails heads w v) (length w) ≡ true
    unfolding either
    before k one t = sym met ∙ (rw (ne_eqb left 0 (λ z. omega (arith, z, one))) at (sym stops ∙ t))

    pub down_stops : stop ≡ true → P (drop (first_met tails heads w v) w) → P (downs left w x v)
    unfolding down_walk
    down_stops t e = subst P (go left refl) e
      where
        go : (k : ℕ) → left ≡ k → drop (first_met tails heads w v) w ≡ downs k w x v
        go zero one = refl
        go (suc k) one = rw (before k one t, down_walk)

    pub up_stops : stop ≡ true → P (drop (first_met tails heads w v) w) → P (ups left w x v)
    unfolding down_walk
    up_stops t e = subst P (go left refl) e
      where
        go : (k : ℕ) → left ≡ k → drop (first_met tails heads w v) w ≡ ups k w x v
        go zero one = refl
        go (suc k) one = rw (before k one t, up_walk)

    -- v is new: one step on, over edge e, to the vertex `next`
    module _ (goes : stop ≡ false) (e next : ℕ) (longer : List Step) where
      fresh : ltb (first_met tails heads w v) (length w) ≡ false
      fresh = sym met ∙ either_right _ _ (sym stops ∙ goes)

      one : left ≡ suc (left - 1)
      one = let some = left_some left (has_bit seen v) stop stops goes in omega (arith, some)

      -- the step, as the definition and as the code name its parts
      fallen : (k : ℕ) → e ≡ another tails flows v x → longer ≡ w ++ (down e ∷ []) → next ≡ get_or heads e 0
          → downs k longer e next ≡ downs k (w ++ (down (another tails flows v x) ∷ [])) (another tails flows v x) (get_or heads (another tails flows v x) 0)
      fallen k i l g = rw (l, g, i)

      climbed : (k : ℕ) → e ≡ another heads flows v x → longer ≡ w ++ (up e ∷ []) → next ≡ get_or tails e 0
          → ups k longer e next ≡ ups k (w ++ (up (another heads flows v x) ∷ [])) (another heads flows v x) (get_or tails (another heads flows v x) 0)
      climbed k i l g = rw (l, g, i)

      pub down_falls : e ≡ another tails flows v x → e < length flows → longer ≡ w ++ (down e ∷ []) → next ≡ get_or heads e 0
          → P (downs (left - 1) longer e next) → P (downs left w x v)
      unfolding down_walk
      down_falls i h l g q =
          let leaves : ltb (another tails flows v x) (length flows) ≡ true = rw i at (lt-ltb e (length flows) h) in
          let turn : downs (suc (left - 1)) w x v
          ≡ downs (left - 1) (w ++ (down (another tails flows v x) ∷ [])) (another tails flows v x) (get_or heads (another tails flows v x) 0) =
          rw (fresh, leaves, down_walk) in
          subst P (fallen (left - 1) i l g ∙ sym turn ∙ ap (λ (k : ℕ). downs k w x v) (sym one)) q

      pub down_climbs : (b : ℕ) → b ≡ another tails flows v x → length flows ≤ b → e ≡ another heads flows v x → longer ≡ w ++ (up e ∷ [])
          → next ≡ get_or tails e 0 → P (ups (left - 1) longer e next) → P (downs left w x v)
      unfolding down_walk
      down_climbs b j h i l g q =
          let stuck : ltb (another tails flows v x) (length flows) ≡ false = rw j at (le-ltb b (length flows) h) in
          let turn : downs (suc (left - 1)) w x v
          ≡ ups (left - 1) (w ++ (up (another heads flows v x) ∷ [])) (another heads flows v x) (get_or tails (another heads flows v x) 0) =
          rw (fresh, stuck, down_walk) in
          subst P (climbed (left - 1) i l g ∙ sym turn ∙ ap (λ (k : ℕ). downs k w x v) (sym one)) q

      pub up_falls : parts tails flows v ≡ true → e ≡ another tails flows v x → longer ≡ w ++ (down e ∷ []) → next ≡ get_or heads e 0
          → P (downs (left - 1) longer e next) → P (ups left w x v)
      unfolding down_walk
      up_falls p i l g q =
          let turn : ups (suc (left - 1)) w x v
          ≡ downs (left - 1) (w ++ (down (another tails flows v x) ∷ [])) (another tails flows v x) (get_or heads (another tails flows v x) 0) =
          rw (fresh, p, up_walk) in
          subst P (fallen (left - 1) i l g ∙ sym turn ∙ ap (λ (k : ℕ). ups k w x v) (sym one)) q

      pub up_climbs : parts tails flows v ≡ false → e ≡ another heads flows v x → longer ≡ w ++ (up e ∷ []) → next ≡ get_or tails e 0
          → P (ups (left - 1) longer e next) → P (ups left w x v)
      unfolding down_walk
      up_climbs p i l g q =
          let turn : ups (suc (left - 1)) w x v
          ≡ ups (left - 1) (w ++ (up (another heads flows v x) ∷ [])) (another heads flows v x) (get_or tails (another heads flows v x) 0) =
          rw (fresh, p, up_walk) in
          subst P (climbed (left - 1) i l g ∙ sym turn ∙ ap (λ (k : ℕ). ups k w x v) (sym one)) q
