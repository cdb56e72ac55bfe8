-- A turn one step longer. While there is a place for it the step goes behind those that the form keeps; the first step too many is counted, and later ones
-- change nothing but the greatest edge. A code gives back its step where its edge has one, and the greatest edge tells whether all are.
use mathlib.Core.Path.{◌≡◌, ap, ◌∙◌}
use mathlib.Core.Bool.{Bool}
use mathlib.Core.Logic.{◌⊎◌, inl, inr}
use mathlib.Core.List.{List, [], ◌∷◌, ◌++◌}
use Prim.Native.Nat.{ℕ, suc, ◌+◌, ◌<◌, ◌≤◌, max}
use native.Mathlib.Numerals.{add-one}
use native.Mathlib.Omega.{arith}
use lib.Dec.{leb, ltb}
use lib.ListN.{length, take, length-append, length-set}
use lib.Seq.{take-suc-set}
use borrow.Author.Tests.{ltb-true, ltb-false, leb-true, leb-false, lt-ltb, le-leb}
use Rattle.lists.specs.Choice.{pick}
use Rattle.lists.proofs.Laws.{Known, was_true, was_false, known, lt_or_ge, pick_yes, pick_no}
use Rattle.board.specs.Limits.{max_edges}
use Rattle.graph_flows.specs.Trails.{Step, edge_of}
use Rattle.move_cycle.specs.Steps.{code_up, code_step, code_steps, step_code, stride}
use Rattle.move_cycle.specs.Inner.{greatest_edge}
use Rattle.move_cycle.proofs.Codes.{stride_edge, stride_code, steps_join}
use Rattle.play_lines.specs.declared.Kind.TheVariants.{Turn}
use Rattle.play_lines.specs.declared.Form.{Form}
use Rattle.play_lines.specs.Scans.{kept_code, with_step}
use Rattle.play_lines.specs.Inner.{KeepsSteps}

-- what a form keeps of the steps w
pub record HoldsSteps (w : List Step) (f : Form) : Type 0 where
  pub places : length f.steps ≡ max_edges
  pub greatest : f.greatest ≡ greatest_edge w
  pub few : length w ≤ max_edges → f.count ≡ length w
  pub many : max_edges < length w → max_edges < f.count
  pub steps : length w ≤ max_edges → greatest_edge w < code_up → code_steps (take f.count f.steps) ≡ w

-- the step of an edge that has a code
kept_step : (goes_up : Bool) (e : ℕ) → e < code_up → code_step (kept_code goes_up e) ≡ stride goes_up e
unfolding kept_code
kept_step goes_up e h = rw (pick_yes (ltb e code_up) (step_code (stride goes_up e)) 0 (lt-ltb e code_up h)) (stride_code goes_up e h)

-- the larger of two numbers
larger : (a b : ℕ) → pick (ltb a b) b a ≡ max a b
larger a b = split (known (ltb a b))
  where
    split : Known (ltb a b) → pick (ltb a b) b a ≡ max a b
    split (was_true e) = pick_yes (ltb a b) b a e ∙ omega (arith, ltb-true a b e)
    split (was_false e) = pick_no (ltb a b) b a e ∙ omega (arith, ltb-false a b e)

greatest_join : (w : List Step) (s : Step) → greatest_edge (w ++ (s ∷ [])) ≡ max (greatest_edge w) (edge_of s)
unfolding greatest_edge
greatest_join [] s = larger (edge_of s) 0 ∙ omega arith
greatest_join (t ∷ w) s = rw (larger (edge_of t) (greatest_edge (w ++ (s ∷ []))), larger (edge_of t) (greatest_edge w), greatest_join w s) (omega arith)

-- one step more
module _ (w : List Step) (f : Form) (goes_up : Bool) (h : HoldsSteps w f) where
  abbrev added : List Step
  added = w ++ (stride goes_up f.first ∷ [])

  long : length added ≡ length w + 1
  long = length-append w (stride goes_up f.first ∷ [])

  greatest_added : greatest_edge added ≡ max (greatest_edge w) f.first
  greatest_added = greatest_join w (stride goes_up f.first) ∙ ap (max (greatest_edge w)) (stride_edge goes_up f.first)

  grown_greatest : (with_step goes_up f).greatest ≡ greatest_edge added
  unfolding with_step
  grown_greatest = larger f.greatest f.first ∙ rw (h.greatest, greatest_added)

  grown_few : length w + 1 ≤ max_edges → (with_step goes_up f).count ≡ suc f.count
  unfolding with_step
  grown_few l =
      let c = h.few (omega arith) in
      pick_yes (leb f.count max_edges) (f.count + 1) f.count (le-leb f.count max_edges (omega arith)) ∙ add-one f.count

  grown_many : max_edges < length w + 1 → max_edges < (with_step goes_up f).count
  unfolding with_step
  grown_many l = split (known (leb f.count max_edges)) (lt_or_ge max_edges (length w))
    where
      split : Known (leb f.count max_edges) → (max_edges < length w) ⊎ (length w ≤ max_edges) → max_edges < pick (leb f.count max_edges) (f.count + 1) f.count
      split (was_true e) (inl m) = absurd (omega (arith, leb-true f.count max_edges e, h.many m))
      split (was_true e) (inr m) = rw (pick_yes (leb f.count max_edges) (f.count + 1) f.count e) (omega (arith, h.few m))
      split (was_false e) m = rw (pick_no (leb f.count max_edges) (f.count + 1) f.count e) (leb-false f.count max_edges e)

  grown_steps : length w + 1 ≤ max_edges → greatest_edge w < code_up → f.first < code_up
      → code_steps (take (with_step goes_up f).count (with_step goes_up f).steps) ≡ added
  unfolding with_step code_steps
  grown_steps l g b =
      let c = h.few (omega arith) in
      let i : f.count < length f.steps = omega (arith, h.places) in
      rw (
        grown_few l,
        take-suc-set f.steps f.count (kept_code goes_up f.first) i,
        steps_join (take f.count f.steps) (kept_code goes_up f.first ∷ []),
        h.steps (omega arith) g,
        kept_step goes_up f.first b,
      )

  pub grown : HoldsSteps added (with_step goes_up f)
  unfolding with_step
  grown = record {
    places = length-set f.steps f.count (kept_code goes_up f.first) ∙ h.places;
    greatest = grown_greatest;
    few = λ l. let n = long in grown_few (omega arith) ∙ omega (arith, h.few (omega arith));
    many = λ l. grown_many (omega (arith, long));
    steps = λ l g. grown_steps (omega (arith, long)) (omega (arith, greatest_added)) (omega (arith, greatest_added));
  }

-- nothing kept yet
pub holds_none : (f : Form) → f.count ≡ 0 → f.greatest ≡ 0 → length f.steps ≡ max_edges → HoldsSteps [] f
unfolding greatest_edge code_steps
holds_none f c g l = record { places = l; greatest = g; few = λ m. c; many = λ m. absurd (omega arith); steps = λ m b. rw c }

-- a form that keeps steps is that of their turn
pub keeps_steps : (w : List Step) (f : Form) → f.kind ≡ Turn → HoldsSteps w f → KeepsSteps w f
keeps_steps w f k h = record { kind = k; greatest = h.greatest; few = h.few; many = h.many; steps = h.steps }
