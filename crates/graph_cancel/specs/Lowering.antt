-- Lowering a cycle: document 01, "Draining".
use Rattle.std.specs.Prelude.{List, [], ◌∷◌, ℕ, ◌-◌, ltb, get_or, set}
use Rattle.lists.specs.Choice.{pick}

-- the smallest of x and the flows of the edges
unfoldable pub smallest : List ℕ → ℕ → List ℕ → ℕ
smallest flows x [] = x
smallest flows x (e ∷ es) = smallest flows (pick (ltb (get_or flows e 0) x) (get_or flows e 0) x) es

-- the flows, each edge lowered by x
unfoldable pub lowered : List ℕ → ℕ → List ℕ → List ℕ
lowered flows x [] = flows
lowered flows x (e ∷ es) = lowered (set flows e (get_or flows e 0 - x)) x es

-- "Lower each channel walked since its first visit by the smallest flow among them."
unfoldable pub lower_cycle : List ℕ → List ℕ → List ℕ
lower_cycle flows es = lowered flows (smallest flows (get_or flows (get_or es 0 0) 0) es) es
