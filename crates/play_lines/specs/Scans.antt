-- A line read byte by byte, in a record of fixed size; and which orders the record stands for. That every line is read as its order is a theorem.
use Rattle.std.specs.Prelude.{Bool, true, false, List, [], ◌∷◌, ℕ, ◌+◌, ◌-◌, ◌*◌, leb, ltb, eqb, set, replicate}
use Rattle.lists.specs.Choice.{pick, both}
use Rattle.decimal.specs.Decimal.{max_digits}
use Rattle.std.specs.Prelude.{Option, Some, None}
use Rattle.board.specs.Limits.{max_edges}
use Rattle.move_cycle.specs.Steps.{code_up, step_code, stride}
use Rattle.play_lines.specs.declared.Kind.{Kind}
use Rattle.play_lines.specs.declared.Kind.TheVariants.{Nothing, Other, Hint, Undo, Finish, Carry, CarryFrom, CarryWhole, Turn, TurnEdge}
use Rattle.play_lines.specs.declared.Piece.{Piece}
use Rattle.play_lines.specs.declared.Form.{Form}
use Rattle.play_lines.specs.declared.Scan.{Scan}

-- ---- a field: how many bytes, more than seven counted as eight; the first; whether all are digits; and their number

abbrev pub no_piece : Piece
no_piece = record { size = 0; initial = 0; digits = true; value = 0 }

abbrev pub is_digit : ℕ → Bool
is_digit c = both (leb 48 c) (leb c 57)

-- one byte more
unfoldable pub piece_taken : Piece → ℕ → Piece
piece_taken p c = record {
  size = pick (leb p.size max_digits) (p.size + 1) p.size;
  initial = pick (eqb p.size 0) c p.initial;
  digits = both p.digits (is_digit c);
  value = pick (both (is_digit c) (ltb p.value 1000000)) (p.value * 10 + (c - 48)) p.value;
}

-- the number that the field is, and whether it is this letter alone
unfoldable pub piece_number : Piece → Option ℕ
piece_number p =
    pick (both p.digits (both (ltb 0 p.size) (leb p.size max_digits)))
    (pick (both (ltb 1 p.size) (eqb p.initial 48)) None (Some p.value))
    None

abbrev pub piece_is : ℕ → Piece → Bool
piece_is x p = both (eqb p.size 1) (eqb p.initial x)

-- ---- the fields before it: which line they begin, with its numbers so far

-- nothing was read yet
abbrev pub is_nothing : Kind → Bool
is_nothing Nothing = true
is_nothing _ = false

-- a hint or a finish is asked for
abbrev pub is_hint : Kind → Bool
is_hint Hint = true
is_hint _ = false

abbrev pub is_finish : Kind → Bool
is_finish Finish = true
is_finish _ = false

abbrev pub no_form : Form
no_form = record { kind = Nothing; first = 0; second = 0; count = 0; greatest = 0; steps = replicate max_edges 0 }

-- a form of another kind, with nothing else changed; with a first number; and with a second
abbrev pub of_kind : Kind → Form → Form
of_kind k f = record { kind = k; first = f.first; second = f.second; count = f.count; greatest = f.greatest; steps = f.steps }

abbrev pub with_first : Kind → ℕ → Form → Form
with_first k n f = record { kind = k; first = n; second = f.second; count = f.count; greatest = f.greatest; steps = f.steps }

abbrev pub with_second : Kind → ℕ → Form → Form
with_second k n f = record { kind = k; first = f.first; second = n; count = f.count; greatest = f.greatest; steps = f.steps }

-- a number field that leads to kind k
abbrev pub numbered : (ℕ → Form) → Form → Option ℕ → Form
numbered k f (Some n) = k n
numbered k f None = of_kind Other f

-- a step's code, 0 for an edge too large for one
unfoldable pub kept_code : Bool → ℕ → ℕ
kept_code goes_up e = pick (ltb e code_up) (step_code (stride goes_up e)) 0

-- one step more: how many, more than there are edges counted as one more than these; the greatest edge; and the first of them
unfoldable pub with_step : Bool → Form → Form
with_step goes_up f = record {
  kind = Turn;
  first = 0;
  second = f.second;
  count = pick (leb f.count max_edges) (f.count + 1) f.count;
  greatest = pick (ltb f.greatest f.first) f.first f.greatest;
  steps = set f.steps f.count (kept_code goes_up f.first);
}

-- the first field
unfoldable pub begun : Form → Piece → Form
begun f p =
    pick (piece_is 75 p) (of_kind Carry f)
    (pick (piece_is 84 p) (of_kind Turn f)
    (pick (piece_is 72 p) (of_kind Hint f)
    (pick (piece_is 85 p) (of_kind Undo f)
    (pick (piece_is 70 p) (of_kind Finish f) (of_kind Other f)))))

-- a way
unfoldable pub way_taken : Form → Piece → Form
way_taken f p = pick (piece_is 68 p) (with_step false f) (pick (piece_is 85 p) (with_step true f) (of_kind Other f))

-- one field more, by the kind
abbrev pub taken_by : Kind → Form → Piece → Form
taken_by Nothing f p = begun f p
taken_by Carry f p = numbered (λ n. with_first CarryFrom n f) f (piece_number p)
taken_by CarryFrom f p = numbered (λ n. with_second CarryWhole n f) f (piece_number p)
taken_by Turn f p = numbered (λ n. with_first TurnEdge n f) f (piece_number p)
taken_by TurnEdge f p = way_taken f p
taken_by _ f p = of_kind Other f

unfoldable pub form_taken : Form → Piece → Form
form_taken f p = taken_by f.kind f p

-- ---- a line

abbrev pub no_scan : Scan
no_scan = record { form = no_form; piece = no_piece }

-- one byte more; a comma ends a field
unfoldable pub scan_taken : Scan → ℕ → Scan
scan_taken s c =
    pick (eqb c 44)
    (record { form = form_taken s.form s.piece; piece = no_piece })
    (record { form = s.form; piece = piece_taken s.piece c })

-- bytes more
unfoldable pub scan_all : Scan → List ℕ → Scan
scan_all s [] = s
scan_all s (c ∷ cs) = scan_all (scan_taken s c) cs

-- the form of the whole line, at its end
unfoldable pub scanned : Scan → Form
scanned s = form_taken s.form s.piece

-- whether no byte of the line was read yet
unfoldable pub is_blank : Scan → Bool
is_blank s = both (is_nothing s.form.kind) (eqb s.piece.size 0)

-- ---- what a form stands for
