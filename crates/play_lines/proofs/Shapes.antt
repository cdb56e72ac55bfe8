-- A line read field by field. A shape says what the fields so far begin, and with the fields to come it makes an order; nothing read yet makes the order of
-- the line. A field taken into the shape is a field less to come, and the order stays the same. A turn is put together from its last step, and read from
-- its first one: the steps read so far stand in front of those that the rest makes.
use mathlib.Core.Path.{◌≡◌, refl, sym, ap}
use mathlib.Core.Bool.{Bool, true, false}
use mathlib.Core.List.{List, [], ◌∷◌, ◌++◌}
use Prim.Native.Nat.{ℕ}
use lib.Seq.{append_snoc}
use Rattle.lists.specs.Choice.{pick}
use Rattle.std.specs.Prelude.{Option, Some, None}
use Rattle.decimal.specs.Decimal.{number_of}
use Rattle.graph_flows.specs.Trails.{Step, down, up}
use Rattle.move_list.specs.Calls.{carry, turn, undo, hint, finish}
use Rattle.play_lines.specs.Orders.{Order, call, other, is_letter, carry_read, carry_of, in_front, pair_read, turn_of, alone, by_fields}

-- nothing; a line of another form; `H`, `U`, `F`; `K` with no, one and both numbers; `T` with steps, and with an edge whose way is to come
pub data Shape : Type 0 where
  begin : Shape
  wrong : Shape
  hinted : Shape
  undone : Shape
  finished : Shape
  carry_none : Shape
  carry_one : ℕ → Shape
  carry_both : ℕ → ℕ → Shape
  turn_even : List Step → Shape
  turn_odd : List Step → ℕ → Shape

-- the second number of a carry
abbrev pub last_of : ℕ → List (List ℕ) → Order
last_of i [] = other
last_of i (e ∷ []) = carry_read (Some i) (number_of e)
last_of i (e ∷ f ∷ fs) = other

-- steps in front of a turn
abbrev pub behind : List Step → Order → Order
behind w (call (carry i e)) = other
behind w (call (turn v)) = call (turn (w ++ v))
behind w (call undo) = other
behind w (call hint) = other
behind w (call finish) = other
behind w other = other

-- the way of an edge, and the rest of a turn
abbrev pub way_of : ℕ → List (List ℕ) → Order
way_of e [] = other
way_of e (way ∷ fs) = pair_read (Some e) way (turn_of fs)

abbrev pub order_from : Shape → List (List ℕ) → Order
order_from begin fs = by_fields fs
order_from wrong fs = other
order_from hinted fs = alone (call hint) fs
order_from undone fs = alone (call undo) fs
order_from finished fs = alone (call finish) fs
order_from carry_none fs = carry_of fs
order_from (carry_one i) fs = last_of i fs
order_from (carry_both i e) fs = alone (call (carry i e)) fs
order_from (turn_even w) fs = behind w (turn_of fs)
order_from (turn_odd w e) fs = behind w (way_of e fs)

-- a number that leads to a shape
abbrev pub shape_by : (ℕ → Shape) → Option ℕ → Shape
shape_by k (Some n) = k n
shape_by k None = wrong

-- the shape that the first field begins, by which letter it is; and the one that a way leads to
abbrev pub begun_by : Bool → Bool → Bool → Bool → Bool → Shape
begun_by k t h u f = pick k carry_none (pick t (turn_even []) (pick h hinted (pick u undone (pick f finished wrong))))

abbrev pub way_by : Bool → Bool → List Step → ℕ → Shape
way_by d u w e = pick d (turn_even (w ++ (down e ∷ []))) (pick u (turn_even (w ++ (up e ∷ []))) wrong)

-- one field more
abbrev pub shape_taken : Shape → List ℕ → Shape
shape_taken begin f = begun_by (is_letter 75 f) (is_letter 84 f) (is_letter 72 f) (is_letter 85 f) (is_letter 70 f)
shape_taken wrong f = wrong
shape_taken hinted f = wrong
shape_taken undone f = wrong
shape_taken finished f = wrong
shape_taken carry_none f = shape_by carry_one (number_of f)
shape_taken (carry_one i) f = shape_by (carry_both i) (number_of f)
shape_taken (carry_both i e) f = wrong
shape_taken (turn_even w) f = shape_by (turn_odd w) (number_of f)
shape_taken (turn_odd w e) f = way_by (is_letter 68 f) (is_letter 85 f) w e

-- a turn with no steps in front of it
none_front : (s : Step) (o : Order) → behind [] (in_front s o) ≡ in_front s o
none_front s (call (carry i e)) = refl
none_front s (call (turn v)) = refl
none_front s (call undo) = refl
none_front s (call hint) = refl
none_front s (call finish) = refl
none_front s other = refl

none_pair : (n : Option ℕ) (way : List ℕ) (o : Order) → behind [] (pair_read n way o) ≡ pair_read n way o
unfolding pick
none_pair None way o = refl
none_pair (Some e) way o = split (is_letter 68 way) (is_letter 85 way)
  where
    split : (d u : Bool) → behind [] (pick d (in_front (down e) o) (pick u (in_front (up e) o) other)) ≡ pick d (in_front (down e) o) (pick u (in_front (up e) o) other)
    split true u = none_front (down e) o
    split false true = none_front (up e) o
    split false false = refl

none_turn : (fs : List (List ℕ)) → behind [] (turn_of fs) ≡ turn_of fs
unfolding turn_of
none_turn [] = refl
none_turn (e ∷ []) = refl
none_turn (e ∷ way ∷ fs) = none_pair (number_of e) way (turn_of fs)

-- a step between the steps read and the rest of the turn
one_front : (w : List Step) (s : Step) (o : Order) → behind w (in_front s o) ≡ behind (w ++ (s ∷ [])) o
one_front w s (call (carry i e)) = refl
one_front w s (call (turn v)) = ap (λ (u : List Step). call (turn u)) (sym (append_snoc w s v))
one_front w s (call undo) = refl
one_front w s (call hint) = refl
one_front w s (call finish) = refl
one_front w s other = refl

-- the step law, by the shape
module _ (fs : List (List ℕ)) where
  begin_step : (f : List ℕ) → by_fields (f ∷ fs) ≡ order_from (shape_taken begin f) fs
  unfolding by_fields pick
  begin_step f = split (is_letter 75 f) (is_letter 84 f) (is_letter 72 f) (is_letter 85 f) (is_letter 70 f)
    where
      split : (k t h u x : Bool)
          → pick k (carry_of fs) (pick t (turn_of fs) (pick h (alone (call hint) fs) (pick u (alone (call undo) fs) (pick x (alone (call finish) fs) other))))
          ≡ order_from (begun_by k t h u x) fs
      split true t h u x = refl
      split false true h u x = sym (none_turn fs)
      split false false true u x = refl
      split false false false true x = refl
      split false false false false true = refl
      split false false false false false = refl

  way_step : (w : List Step) (e : ℕ) (f : List ℕ) → behind w (way_of e (f ∷ fs)) ≡ order_from (shape_taken (turn_odd w e) f) fs
  unfolding pick
  way_step w e f = split (is_letter 68 f) (is_letter 85 f)
    where
      split : (d u : Bool) → behind w (pick d (in_front (down e) (turn_of fs)) (pick u (in_front (up e) (turn_of fs)) other)) ≡ order_from (way_by d u w e) fs
      split true u = one_front w (down e) (turn_of fs)
      split false true = one_front w (up e) (turn_of fs)
      split false false = refl

first_step : (n : Option ℕ) (f : List ℕ) (fs : List (List ℕ)) → number_of f ≡ n → carry_of (f ∷ fs) ≡ order_from (shape_by carry_one n) fs
unfolding carry_of
first_step (Some i) f [] e = refl
first_step (Some i) f (g ∷ []) e = rw e
first_step (Some i) f (g ∷ h ∷ fs) e = refl
first_step None f [] e = refl
first_step None f (g ∷ []) e = rw e
first_step None f (g ∷ h ∷ fs) e = refl

last_step : (i : ℕ) (n : Option ℕ) (f : List ℕ) (fs : List (List ℕ)) → number_of f ≡ n → last_of i (f ∷ fs) ≡ order_from (shape_by (carry_both i) n) fs
last_step i (Some m) f [] e = rw e
last_step i (Some m) f (g ∷ fs) e = refl
last_step i None f [] e = rw e
last_step i None f (g ∷ fs) e = refl

edge_step : (w : List Step) (n : Option ℕ) (f : List ℕ) (fs : List (List ℕ)) → number_of f ≡ n
    → behind w (turn_of (f ∷ fs)) ≡ order_from (shape_by (turn_odd w) n) fs
unfolding turn_of
edge_step w (Some m) f [] e = refl
edge_step w (Some m) f (g ∷ fs) e = rw e
edge_step w None f [] e = refl
edge_step w None f (g ∷ fs) e = rw e

pub shape_step : (sh : Shape) (f : List ℕ) (fs : List (List ℕ)) → order_from sh (f ∷ fs) ≡ order_from (shape_taken sh f) fs
shape_step begin f fs = begin_step fs f
shape_step wrong f fs = refl
shape_step hinted f fs = refl
shape_step undone f fs = refl
shape_step finished f fs = refl
shape_step carry_none f fs = first_step (number_of f) f fs refl
shape_step (carry_one i) f fs = last_step i (number_of f) f fs refl
shape_step (carry_both i e) f fs = refl
shape_step (turn_even w) f fs = edge_step w (number_of f) f fs refl
shape_step (turn_odd w e) f fs = way_step fs w e f
