-- Why the tests of a turn's steps can be run step by step: the steps from i on are the step at i and those after it, so one turn of the loop leaves the same test.
-- And why the sets have room: where every step is on the board, each edge is one of the board's, of which there are no more than a set has bits.
use mathlib.Core.Path.{◌≡◌, refl, ap, ◌∙◌}
use mathlib.Core.Bool.{Bool, true, false, ◌&&◌}
use mathlib.Core.Logic.{inl, inr}
use mathlib.Core.List.{List, [], ◌∷◌}
use denote.Param.Members.{Mut}
use Rattle.std.specs.Borrow.{Bor}
use Rattle.std.specs.Prelude.{Option}
use Rattle.std.specs.Iterator.{YieldsThen}
use Rattle.std.specs.List.{FoldsTo, list_all}
use Rattle.std.specs.Fn.{Called}
use Rattle.std.proofs.lemmas.Fn.{fronts}
use Rattle.std.specs.Option.{MatchOption}
use Rattle.std.specs.declared.slice.Iter.{Iter}
use Rattle.std.specs.Slice.Iter.{iter_rest}
use Rattle.std.proofs.lemmas.Iterator.{YieldsList-from_slice}
use Rattle.std.proofs.lemmas.Iterator.Search.{all_from_yields_List}
use Prim.Native.Nat.{ℕ, zero, suc, ◌<◌, ◌≤◌, ◌^◌}
use native.Mathlib.Omega.{arith}
use lib.ListN.{length, get_or}
use borrow.Author.Tests.{ltb-true}
use Rattle.lists.specs.Choice.{pick}
use Rattle.sets.specs.Inner.{set_width}
use Rattle.board.specs.Limits.{max_edges}
use Rattle.graph_flows.specs.Trails.{Step, edge_of, In}
use Rattle.move_cycle.specs.Steps.{code_step, code_steps, every, is_cycle}
use Rattle.move_cycle.specs.Inner.{InSets}
use Rattle.move_cycle.proofs.Cycled.{every_in}
use Rattle.board.specs.declared.Network.{Network}
use Rattle.move_edges.specs.Marking.{singular_in, singular_by}
use Rattle.move_edges.specs.Inner.{ChartedOut}
use Rattle.move_edges.proofs.Following.{singular_same}
use Rattle.move_turn.specs.Turns.{StepRule, OnBoard, Positive, UpSingular, meets_in, turn_refusal_in}

-- what the library's test of every code of a slice answers: the test of every step
every_code : (p : Step → Bool) (s : List ℕ) → list_all (λ (k : ℕ). p (code_step k)) s ≡ every p (code_steps s)
unfolding every code_steps
every_code p [] = refl
every_code p (k ∷ s) = rw (every_code p s) (first (p (code_step k)) (every p (code_steps s)))
  where
    first : (a b : Bool) → (a && b) ≡ elim a [ true ↦ b | false ↦ false ]
    first true b = refl
    first false b = refl

pub all_steps : {F : Type 0} {g : Mut F (Bor ℕ × Unit {0}) Bool} (p : Step → Bool) (s : Iter ℕ) (u : Iter ℕ) (f : F) (r : Bool) (codes : List ℕ) → iter_rest s ≡ codes
    → (xs : List (Bor ℕ)) × (o : Option (Bor ℕ)) × (j : F) × YieldsThen fronts s xs o u
    × FoldsTo (λ p x q. Called g p (x, tt) true q) f xs j × MatchOption o (r ≡ true) (λ x. (r ≡ false) × ((h : F) × Called g j (x, tt) false h))
    → ((x : Bor ℕ) (b : Bool) (q : F) → Called g f (x, tt) b q → (q ≡ f) × (b ≡ p (code_step x.now))) → r ≡ every p (code_steps codes)
all_steps p s u f r codes at ran each = all_from_yields_List (λ (k : ℕ). p (code_step k)) u f r ran (YieldsList-from_slice codes at) each ∙ every_code p codes

in_steps : (s : List ℕ) (i : ℕ) → i < length s → In (code_step (get_or s i 0)) (code_steps s)
unfolding code_steps
in_steps [] i h = absurd (omega arith)
in_steps (x ∷ s) zero h = inl refl
in_steps (x ∷ s) (suc i) h = inr (in_steps s i (omega arith))

-- where every step is on the board
pub in_sets : (edges : ℕ) (flows : List ℕ) (single : ℕ → Bool) → edges ≤ max_edges → (s : List ℕ) → every (meets_in OnBoard edges flows single) (code_steps s) ≡ true → InSets s
in_sets edges flows single room s on i h =
    let there : edge_of (code_step (get_or s i 0)) < edges =
    ltb-true _ _ (every_in (meets_in OnBoard edges flows single) (code_steps s) (code_step (get_or s i 0)) on (in_steps s i h)) in
    omega arith

-- the tests in their order, each with the number it refuses with, on a board in play; the rules by any test for a singular edge that is the definition's
module _ (any_open : Bool) (net : Network) (flows : List ℕ) (w : List Step) where
  abbrev number : ℕ
  number = turn_refusal_in true any_open net flows w

  abbrev pub meet : StepRule → Bool
  meet rule = every (meets_in rule net.edges flows (singular_in net.tails net.heads flows net.vertices)) w

  pub refused_6 : meet OnBoard ≡ false → 6 ≡ number
  unfolding turn_refusal_in pick
  refused_6 o = rw o

  module _ (o : meet OnBoard ≡ true) where
    pub refused_7 : is_cycle net.tails net.heads w ≡ false → 7 ≡ number
    unfolding turn_refusal_in pick
    refused_7 y = rw (o, y)

    module _ (y : is_cycle net.tails net.heads w ≡ true) where
      pub refused_24 : any_open ≡ true → 24 ≡ number
      unfolding turn_refusal_in pick
      refused_24 s = rw (o, y, s)

      module _ (s : any_open ≡ false) where
        pub refused_25 : meet Positive ≡ false → 25 ≡ number
        unfolding turn_refusal_in pick
        refused_25 f = rw (o, y, s, f)

        module _ (f : meet Positive ≡ true) where
          pub refused_26 : meet UpSingular ≡ false → 26 ≡ number
          unfolding turn_refusal_in pick
          refused_26 u = rw (o, y, s, f, u)

          pub steps_accepted : meet UpSingular ≡ true → 0 ≡ number
          unfolding turn_refusal_in pick
          steps_accepted u = rw (o, y, s, f, u)

-- the edges of up-steps are singular by the sets where they are by the lists
pub ups_same : (tails heads flows leaving : List ℕ) (positive : ℕ) → ChartedOut tails heads flows leaving positive → positive < 2 ^ set_width → (edges vertices : ℕ) (w : List Step)
    → every (meets_in UpSingular edges flows (singular_by heads leaving positive vertices)) w ≡ every (meets_in UpSingular edges flows (singular_in tails heads flows vertices)) w
ups_same tails heads flows leaving positive chart fits edges vertices w =
    ap (λ (single : ℕ → Bool). every (meets_in UpSingular edges flows single) w) (λ i e. singular_same tails heads flows leaving positive chart fits vertices e i)
