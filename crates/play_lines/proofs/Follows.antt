-- A form follows the shape of the fields read: it has the shape's kind, its numbers, and what it keeps of its steps. A field taken into both leaves it so,
-- since the record of a field gives the number and the letter that the field is; and at the end of the line a form stands for the order that its shape makes.
use mathlib.Core.Path.{◌≡◌, refl, ap, subst}
use mathlib.Core.Bool.{Bool, true, false}
use mathlib.Core.List.{List, [], ◌∷◌, ◌++◌, append-nil}
use Prim.Native.Nat.{ℕ}
use lib.ListN.{length}
use Rattle.lists.specs.Choice.{pick}
use Rattle.board.specs.Limits.{max_edges}
use Rattle.std.specs.Prelude.{Option, Some, None}
use Rattle.decimal.specs.Decimal.{number_of}
use Rattle.graph_flows.specs.Trails.{Step, down, up}
use Rattle.play_lines.specs.declared.Kind.{Kind}
use Rattle.play_lines.specs.declared.Kind.TheVariants.{Nothing, Other, Hint, Undo, Finish, Carry, CarryFrom, CarryWhole, Turn, TurnEdge}
use Rattle.play_lines.specs.declared.Piece.{Piece}
use Rattle.play_lines.specs.declared.Form.{Form}
use Rattle.play_lines.specs.Orders.{is_letter, turn_of, carry_of, by_fields}
use Rattle.play_lines.specs.Scans.{of_kind, with_first, with_second, numbered, with_step, begun, way_taken, taken_by, form_taken}
use Rattle.play_lines.specs.Inner.{StandsFor}
use Rattle.play_lines.proofs.Pieces.{Reads, is_number, is_letter_lem}
use Rattle.play_lines.proofs.Shapes.{Shape, begin, wrong, hinted, undone, finished, carry_none, carry_one, carry_both, turn_even, turn_odd, order_from, shape_by, begun_by, way_by, shape_taken}
use Rattle.play_lines.proofs.Grown.{HoldsSteps, grown, holds_none, keeps_steps}

abbrev pub FollowsShape : Shape → Form → Type 0
FollowsShape begin f = (f.kind ≡ Nothing) × (f.count ≡ 0) × (f.greatest ≡ 0) × (length f.steps ≡ max_edges)
FollowsShape wrong f = f.kind ≡ Other
FollowsShape hinted f = f.kind ≡ Hint
FollowsShape undone f = f.kind ≡ Undo
FollowsShape finished f = f.kind ≡ Finish
FollowsShape carry_none f = f.kind ≡ Carry
FollowsShape (carry_one i) f = (f.kind ≡ CarryFrom) × (f.first ≡ i)
FollowsShape (carry_both i e) f = (f.kind ≡ CarryWhole) × (f.first ≡ i) × (f.second ≡ e)
FollowsShape (turn_even w) f = (f.kind ≡ Turn) × HoldsSteps w f
FollowsShape (turn_odd w e) f = (f.kind ≡ TurnEdge) × (f.first ≡ e) × HoldsSteps w f

-- one field more, by the kind
taken_kind : (f : Form) (p : Piece) (k : Kind) → f.kind ≡ k → form_taken f p ≡ taken_by k f p
unfolding form_taken
taken_kind f p k e = ap (λ (j : Kind). taken_by j f p) e

-- steps are kept whatever the numbers
holds_first : (w : List Step) (f : Form) (k : Kind) (n : ℕ) → HoldsSteps w f → HoldsSteps w (with_first k n f)
holds_first w f k n h = record { places = h.places; greatest = h.greatest; few = h.few; many = h.many; steps = h.steps }

-- a number
first_follows : (f : Form) (n : Option ℕ) → FollowsShape (shape_by carry_one n) (numbered (λ m. with_first CarryFrom m f) f n)
first_follows f (Some n) = (refl, refl)
first_follows f None = refl

second_follows : (f : Form) (i : ℕ) (n : Option ℕ) → f.first ≡ i → FollowsShape (shape_by (carry_both i) n) (numbered (λ m. with_second CarryWhole m f) f n)
second_follows f i (Some n) e = (refl, e, refl)
second_follows f i None e = refl

edge_follows : (f : Form) (w : List Step) (n : Option ℕ) → HoldsSteps w f → FollowsShape (shape_by (turn_odd w) n) (numbered (λ m. with_first TurnEdge m f) f n)
edge_follows f w (Some n) h = (refl, refl, holds_first w f TurnEdge n h)
edge_follows f w None h = refl

-- a letter
module _ (f : Form) (x : List ℕ) (p : Piece) (r : Reads x p) where
  begin_follows : FollowsShape begin f → FollowsShape (shape_taken begin x) (begun f p)
  unfolding begun pick
  begin_follows a =
      rw (is_letter_lem x p r 75, is_letter_lem x p r 84, is_letter_lem x p r 72, is_letter_lem x p r 85, is_letter_lem x p r 70)
      (split (is_letter 75 x) (is_letter 84 x) (is_letter 72 x) (is_letter 85 x) (is_letter 70 x))
    where
      split : (k t h u y : Bool)
          → FollowsShape (begun_by k t h u y)
          (pick k (of_kind Carry f)
          (pick t (of_kind Turn f) (pick h (of_kind Hint f) (pick u (of_kind Undo f) (pick y (of_kind Finish f) (of_kind Other f))))))
      split true t h u y = refl
      split false true h u y = (refl, holds_none (of_kind Turn f) a.1 a.2 a.3)
      split false false true u y = refl
      split false false false true y = refl
      split false false false false true = refl
      split false false false false false = refl

  way_follows : (w : List Step) (e : ℕ) → f.first ≡ e → HoldsSteps w f → FollowsShape (shape_taken (turn_odd w e) x) (way_taken f p)
  unfolding way_taken with_step pick
  way_follows w e q h = rw (is_letter_lem x p r 68, is_letter_lem x p r 85) (split (is_letter 68 x) (is_letter 85 x))
    where
      split : (d u : Bool) → FollowsShape (way_by d u w e) (pick d (with_step false f) (pick u (with_step true f) (of_kind Other f)))
      split true u = (refl, subst (λ (n : ℕ). HoldsSteps (w ++ (down n ∷ [])) (with_step false f)) q (grown w f false h))
      split false true = (refl, subst (λ (n : ℕ). HoldsSteps (w ++ (up n ∷ [])) (with_step true f)) q (grown w f true h))
      split false false = refl

pub follows_next : (sh : Shape) (f : Form) (x : List ℕ) (p : Piece) → Reads x p → FollowsShape sh f → FollowsShape (shape_taken sh x) (form_taken f p)
unfolding pick
follows_next begin f x p r a = rw (taken_kind f p Nothing a.0) (begin_follows f x p r a)
follows_next wrong f x p r a = rw (taken_kind f p Other a)
follows_next hinted f x p r a = rw (taken_kind f p Hint a)
follows_next undone f x p r a = rw (taken_kind f p Undo a)
follows_next finished f x p r a = rw (taken_kind f p Finish a)
follows_next carry_none f x p r a = rw (taken_kind f p Carry a, is_number x p r) (first_follows f (number_of x))
follows_next (carry_one i) f x p r a = rw (taken_kind f p CarryFrom a.0, is_number x p r) (second_follows f i (number_of x) a.1)
follows_next (carry_both i e) f x p r a = rw (taken_kind f p CarryWhole a.0)
follows_next (turn_even w) f x p r a = rw (taken_kind f p Turn a.0, is_number x p r) (edge_follows f w (number_of x) a.1)
follows_next (turn_odd w e) f x p r a = rw (taken_kind f p TurnEdge a.0) (way_follows f x p r w e a.1 a.2)

-- at the end of the line
pub follows_end : (sh : Shape) (f : Form) → FollowsShape sh f → StandsFor (order_from sh []) f
unfolding by_fields carry_of turn_of
follows_end begin f a = rw a.0 tt
follows_end wrong f a = rw a tt
follows_end hinted f a = a
follows_end undone f a = a
follows_end finished f a = a
follows_end carry_none f a = rw a tt
follows_end (carry_one i) f a = rw a.0 tt
follows_end (carry_both i e) f a = a
follows_end (turn_even w) f a = rw append-nil (keeps_steps w f a.0 a.1)
follows_end (turn_odd w e) f a = rw a.0 tt
