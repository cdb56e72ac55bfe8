-- The steps of a turn: document 01, "Moves".
use Rattle.std.specs.Prelude.{Bool, true, false, not, List, [], ◌∷◌, ℕ, ◌+◌, ◌-◌, ◌%◌, leb, eqb}
use Rattle.lists.specs.Choice.{pick, both}
use Rattle.sets.specs.Sets.{none, has_bit, with_bit}
use Rattle.graph_flows.specs.Trails.{Step, down, up, edge_of, start_of, end_of}

-- the step of a number, where the numbers of steps up begin at `base`
abbrev pub step_from : ℕ → ℕ → Step
step_from base s = pick (leb base s) (up (s - base)) (down s)

-- "one byte each: channel number, plus 128 for an up-step, that is from head to tail"
abbrev pub up_from : ℕ
up_from = 128

-- the step of a byte, and the steps of bytes
unfoldable pub step_of : ℕ → Step
step_of s = step_from up_from s

unfoldable pub steps_of : List ℕ → List Step
steps_of [] = []
steps_of (s ∷ w) = step_of s ∷ steps_of w

-- the byte of a step; of a number that no board has for an edge, the last seven bits
abbrev pub step_byte : Step → ℕ
step_byte (down e) = e % up_from
step_byte (up e) = e % up_from + up_from

-- inside the engine a step is a code: its edge's number, with this one added for a step up. No board has so many edges
abbrev pub code_up : ℕ
code_up = 32768

-- the step of a code, and the steps of codes
unfoldable pub code_step : ℕ → Step
code_step s = step_from code_up s

unfoldable pub code_steps : List ℕ → List Step
code_steps [] = []
code_steps (s ∷ w) = code_step s ∷ code_steps w

-- the code of a step, and the codes of steps
abbrev pub step_code : Step → ℕ
step_code (down e) = e
step_code (up e) = e + code_up

abbrev pub codes_of : List Step → List ℕ
codes_of [] = []
codes_of (s ∷ w) = step_code s ∷ codes_of w

-- a step up or down over e
abbrev pub stride : Bool → ℕ → Step
stride true e = up e
stride false e = down e

-- whether a step goes up
abbrev pub is_up : Step → Bool
is_up (down e) = false
is_up (up e) = true

-- every step has p
unfoldable pub every : (Step → Bool) → List Step → Bool
every p [] = true
every p (s ∷ w) = elim (p s) [ true ↦ every p w | false ↦ false ]

-- from v: each step starts where the last one ended and goes over a channel that is not in the set m and joins it; the last one ends at r
unfoldable pub leads_back : List ℕ → List ℕ → ℕ → ℕ → ℕ → List Step → Bool
leads_back tails heads r m v [] = eqb v r
leads_back tails heads r m v (s ∷ w) =
    elim (both (eqb (start_of tails heads s) v) (not (has_bit m (edge_of s)))) [
      | true ↦ leads_back tails heads r (with_bit m (edge_of s)) (end_of tails heads s) w
      | false ↦ false
    ]

-- "Each step starts where the last one ended, the last ends where the first began, no channel occurs twice", and there is a first
unfoldable pub is_cycle : List ℕ → List ℕ → List Step → Bool
is_cycle tails heads [] = false
is_cycle tails heads (s ∷ w) = leads_back tails heads (start_of tails heads s) none (start_of tails heads s) (s ∷ w)

-- whether a step goes the given way: up, or down
abbrev pub goes : Bool → Step → Bool
goes ups s = pick ups (is_up s) (not (is_up s))

-- the set m with the edges of the steps that go that way
unfoldable pub gather : Bool → ℕ → List Step → ℕ
gather ups m [] = m
gather ups m (s ∷ w) = gather ups (pick (goes ups s) (with_bit m (edge_of s)) m) w
