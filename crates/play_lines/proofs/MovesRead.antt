-- The line of a move is read as the call that makes the move. Digits are no commas, so the bytes between two commas of the line are the digits of one number
-- or the letter of one way, and these are its fields. A number of at most seven digits is read back from its digits, and a way from its letter; so the two
-- numbers of a carry are its terminal and its edge, and by induction over the steps of a turn the pairs of fields behind the `T` are its steps in their order.
use mathlib.Core.Path.{◌≡◌, refl, sym, ap, ◌∙◌}
use mathlib.Core.Bool.{false}
use mathlib.Core.List.{List, [], ◌∷◌, ◌++◌, append_assoc, append-nil}
use Prim.Native.Nat.{ℕ, ◌+◌, ◌/◌, ◌%◌, ◌<◌}
use native.Mathlib.Omega.{arith}
use lib.Dec.{eqb}
use lib.Seq.{append_snoc}
use borrow.Author.Tests.{ne_eqb}
use Rattle.lists.specs.Choice.{pick, both}
use Rattle.lists.specs.Inner.{Below}
use Rattle.std.specs.Prelude.{Option, Some}
use Rattle.decimal.specs.Decimal.{decimal}
use Rattle.decimal.proofs.Laws.{decimal_small, decimal_large, by_digits, number_decimal}
use Rattle.graph_flows.specs.Trails.{Step, down, up, edge_of, edges_of}
use Rattle.solve_next.specs.Choosing.{Act, relocate, augment}
use Rattle.move_list.specs.Calls.{carry, turn, call_for}
use Rattle.play_lines.specs.Orders.{call, fields_of, is_letter, pair_read, turn_of, by_fields, order_of}
use Rattle.play_lines.specs.MoveLines.{way_letter, steps_text, move_text}
use Rattle.play_lines.proofs.Exact.{into, into_none, comma_fields, byte_fields}

-- the numbers of a move have at most seven digits
abbrev pub ShortMove : Act → Type 0
ShortMove (relocate i e) = (i < 10000000) × (e < 10000000)
ShortMove (augment w) = Below 10000000 (edges_of w)

-- ---- digits as a field

-- the digits of a number join the field begun
digits_join : (n : ℕ) (f rest : List ℕ) → into f (fields_of (decimal n ++ rest)) ≡ into (f ++ decimal n) (fields_of rest)
digits_join = by_digits (λ n. (f rest : List ℕ) → into f (fields_of (decimal n ++ rest)) ≡ into (f ++ decimal n) (fields_of rest))
    (λ n h f rest. rw (decimal_small n h) (byte_fields (48 + n) rest f (ne_eqb (48 + n) 44 (λ e. omega arith))))
    (λ n h ih f rest.
    let d : ℕ = 48 + n % 10 in
    let cut : decimal n ++ rest ≡ decimal (n / 10) ++ (d ∷ rest) = rw (decimal_large n h) (append_snoc (decimal (n / 10)) d rest) in
    let last : into (f ++ decimal (n / 10)) (fields_of (d ∷ rest)) ≡ into ((f ++ decimal (n / 10)) ++ (d ∷ [])) (fields_of rest) =
    byte_fields d rest (f ++ decimal (n / 10)) (ne_eqb d 44 (λ e. omega arith)) in
    let whole : (f ++ decimal (n / 10)) ++ (d ∷ []) ≡ f ++ decimal n = rw (decimal_large n h) (append_assoc f (decimal (n / 10)) (d ∷ [])) in
    ap (λ (s : List ℕ). into f (fields_of s)) cut ∙ ih f (d ∷ rest) ∙ last ∙ ap (λ (g : List ℕ). into g (fields_of rest)) whole)

-- a number before a comma, and at the end
number_field : (n : ℕ) (s : List ℕ) → fields_of (decimal n ++ (44 ∷ s)) ≡ decimal n ∷ fields_of s
number_field n s = sym (into_none (decimal n ++ (44 ∷ s))) ∙ digits_join n [] (44 ∷ s) ∙ comma_fields 44 s (decimal n) refl

number_last : (n : ℕ) → fields_of (decimal n) ≡ decimal n ∷ []
unfolding fields_of
number_last n =
    let joined : into [] (fields_of (decimal n ++ [])) ≡ (decimal n ++ []) ∷ [] = digits_join n [] [] in
    sym (into_none (decimal n)) ∙ (rw append-nil at joined)

-- ---- a carry

carry_read_lem : (i e : ℕ) → i < 10000000 → e < 10000000 → order_of (move_text (relocate i e)) ≡ call (carry i e)
unfolding order_of pick both
carry_read_lem i e hi he = rw (number_field i (decimal e), number_last e, number_decimal i hi, number_decimal e he)

-- ---- a turn

-- the fields of steps: each an edge and a way
abbrev step_fields : List Step → List (List ℕ)
step_fields [] = []
step_fields (s ∷ w) = decimal (edge_of s) ∷ (way_letter s ∷ []) ∷ step_fields w

way_no_comma : (s : Step) → eqb (way_letter s) 44 ≡ false
way_no_comma (down e) = refl
way_no_comma (up e) = refl

-- a letter and steps behind it
steps_fields : (x : ℕ) (w : List Step) → eqb x 44 ≡ false → fields_of (x ∷ steps_text w) ≡ (x ∷ []) ∷ step_fields w
unfolding fields_of steps_text
steps_fields x [] h = rw (h, fields_of)
steps_fields x (s ∷ w) h =
    let text : List ℕ = decimal (edge_of s) ++ (44 ∷ way_letter s ∷ []) in
    let cut : text ++ steps_text w ≡ decimal (edge_of s) ++ (44 ∷ way_letter s ∷ steps_text w) = append_assoc (decimal (edge_of s)) (44 ∷ way_letter s ∷ []) (steps_text w) in
    let rest : fields_of (text ++ steps_text w) ≡ step_fields (s ∷ w) =
    ap fields_of cut ∙ number_field (edge_of s) (way_letter s ∷ steps_text w) ∙ ap (λ (fs : List (List ℕ)). decimal (edge_of s) ∷ fs) (steps_fields (way_letter s) w (way_no_comma s)) in
    rw (h, fields_of) (ap (λ (fs : List (List ℕ)). (x ∷ []) ∷ fs) rest)

pair_read_lem : (s : Step) (w : List Step) → pair_read (Some (edge_of s)) (way_letter s ∷ []) (call (turn w)) ≡ call (turn (s ∷ w))
unfolding is_letter pick both
pair_read_lem (down e) w = refl
pair_read_lem (up e) w = refl

turn_read : (w : List Step) → Below 10000000 (edges_of w) → turn_of (step_fields w) ≡ call (turn w)
unfolding turn_of
turn_read [] b = refl
turn_read (s ∷ w) b =
    ap (λ (n : Option ℕ). pair_read n (way_letter s ∷ []) (turn_of (step_fields w))) (number_decimal (edge_of s) b.0)
    ∙ ap (pair_read (Some (edge_of s)) (way_letter s ∷ [])) (turn_read w b.1)
    ∙ pair_read_lem s w

-- ---- a move

pub move_read : (a : Act) → ShortMove a → order_of (move_text a) ≡ call (call_for a)
unfolding order_of pick both
move_read (relocate i e) h = carry_read_lem i e h.0 h.1
move_read (augment w) h = ap by_fields (steps_fields 84 w refl) ∙ turn_read w h
