-- The cycle of the solver: document 01, "The ring". The edges of a network are three lists: tails, heads and flows. A walk is the list of its steps,
-- the first one first.
use Rattle.std.specs.Prelude.{Bool, true, false, not, List, [], ◌∷◌, ◌++◌, ℕ, zero, suc, ltb, eqb, length, get_or, drop, replicate}
use Rattle.std.proofs.lemmas.List.Edits.{sets}
use Rattle.lists.specs.Choice.{both}
use Rattle.lists.specs.Lists.{index_of, lowest}
use Rattle.board.specs.Limits.{max_edges}
use Rattle.move_edges.specs.Singular.{leaves, leaving}
use Rattle.graph_flows.specs.Trails.{Step, down, up, start_of}
use Rattle.move_cycle.specs.Steps.{codes_of}
use Rattle.solve_walk.specs.declared.Walk.{Walk}

-- edge e is wet, has this end at v, and is another than x
unfoldable pub touches : List ℕ → List ℕ → ℕ → ℕ → ℕ → Bool
touches ends flows v x e = both (leaves ends flows v e) (not (eqb e x))

-- "the lowest", with its tail or its head at v, "other than the one just used": no edge's number where there is none
unfoldable pub another : List ℕ → List ℕ → ℕ → ℕ → ℕ
another ends flows v x = lowest (touches ends flows v x) 0 (length flows)

-- two or more wet channels leave v
unfoldable pub parts : List ℕ → List ℕ → ℕ → Bool
parts tails flows v = ltb (leaving tails flows v (suc (leaving tails flows v 0))) (length flows)

module _ (tails heads : List ℕ) where
  -- where the steps of a walk started
  abbrev pub starts_of : List Step → List ℕ
  starts_of [] = []
  starts_of (s ∷ w) = start_of tails heads s ∷ starts_of w

  -- how many steps came before v was first met; all of them where it was not
  unfoldable pub first_met : List Step → ℕ → ℕ
  first_met w v = index_of v (starts_of w)

-- The walk w came over edge x to v; k pools are not yet seen. `falls` and `climbs` choose the edge to go down and up by, from a vertex and the edge just
-- used. "Stop at the first pool seen before. The ring is the walk since that pool was first met."
module _ (tails heads flows : List ℕ) (falls climbs : ℕ → ℕ → ℕ) where
  unfoldable mutual
    -- by a down-step, or none: go down; "where none leaves, go up"
    pub down_walk : ℕ → List Step → ℕ → ℕ → List Step
    down_walk zero w x v = drop (first_met tails heads w v) w
    down_walk (suc k) w x v =
        elim (ltb (first_met tails heads w v) (length w)) [
          | true ↦ drop (first_met tails heads w v) w
          | false ↦ elim (ltb (falls v x) (length flows)) [
            | true ↦ down_walk k (w ++ (down (falls v x) ∷ [])) (falls v x) (get_or heads (falls v x) 0)
            | false ↦ up_walk k (w ++ (up (climbs v x) ∷ [])) (climbs v x) (get_or tails (climbs v x) 0)
          ]
        ]

    -- by an up-step: "where two or more leave, go down"; up "while exactly one wet channel leaves"
    pub up_walk : ℕ → List Step → ℕ → ℕ → List Step
    up_walk zero w x v = drop (first_met tails heads w v) w
    up_walk (suc k) w x v =
        elim (ltb (first_met tails heads w v) (length w)) [
          | true ↦ drop (first_met tails heads w v) w
          | false ↦ elim (parts tails flows v) [
            | true ↦ down_walk k (w ++ (down (falls v x) ∷ [])) (falls v x) (get_or heads (falls v x) 0)
            | false ↦ up_walk k (w ++ (up (climbs v x) ∷ [])) (climbs v x) (get_or tails (climbs v x) 0)
          ]
        ]

-- "start at the spring", with n pools not yet seen and no edge used; down and up by the lowest
unfoldable pub cycle_of : List ℕ → List ℕ → List ℕ → ℕ → ℕ → List Step
cycle_of tails heads flows n source = down_walk tails heads flows (another tails flows) (another heads flows) n [] (length flows) source

-- the record of a walk: its steps, and 0 in the places past them
abbrev pub packed : List Step → Walk
packed w = record { count = length w; steps = sets (replicate max_edges 0) 0 (codes_of w) }
