-- A line read byte by byte is read exactly. The bytes since the last comma are the field begun, and the rest of the line goes on from there: its fields are
-- those of the rest with the bytes of the field begun in front of the first. A comma ends the field, any other byte joins it; so by induction over the bytes
-- left the form follows the shape of the fields, and at the end it stands for the order of the line. After one byte or more a field is begun or was taken.
use mathlib.Core.Path.{◌≡◌, refl, sym, ap, ◌∙◌}
use mathlib.Core.Bool.{Bool, true, false}
use mathlib.Core.List.{List, [], ◌∷◌, ◌++◌, append-nil}
use Prim.Native.Nat.{ℕ, suc, ◌+◌}
use native.Mathlib.Omega.{arith}
use lib.Dec.{leb, eqb}
use lib.ListN.{length}
use lib.Seq.{append_snoc}
use borrow.Author.Tests.{leb-false, ne_eqb}
use Rattle.lists.specs.Choice.{pick, both}
use Rattle.lists.proofs.Laws.{Known, was_true, was_false, known, pick_yes, pick_no}
use Rattle.std.specs.Prelude.{Option, Some, None}
use Rattle.decimal.specs.Decimal.{max_digits}
use Rattle.play_lines.specs.declared.Kind.{Kind}
use Rattle.play_lines.specs.declared.Kind.TheVariants.{Nothing, Carry, CarryFrom, CarryWhole, Turn, TurnEdge}
use Rattle.play_lines.specs.declared.Piece.{Piece}
use Rattle.play_lines.specs.declared.Form.{Form}
use Rattle.play_lines.specs.declared.Scan.{Scan}
use Rattle.play_lines.specs.Orders.{onto, fields_of, order_of}
use Rattle.play_lines.specs.Scans.{no_piece, piece_taken, piece_number, with_first, with_second, is_nothing, numbered, begun, way_taken, with_step, taken_by, form_taken, no_scan, scan_taken, scan_all, scanned, is_blank}
use Rattle.play_lines.specs.Inner.{StandsFor}
use Rattle.play_lines.proofs.Pieces.{Reads, reads_none, reads_next}
use Rattle.play_lines.proofs.Shapes.{Shape, begin, order_from, shape_taken, shape_step}
use Rattle.play_lines.proofs.Follows.{FollowsShape, follows_next, follows_end}

-- bytes in front of the first field
abbrev pub into : List ℕ → List (List ℕ) → List (List ℕ)
into f [] = f ∷ []
into f (g ∷ gs) = (f ++ g) ∷ gs

into_onto : (f : List ℕ) (c : ℕ) (gs : List (List ℕ)) → into f (onto c gs) ≡ into (f ++ (c ∷ [])) gs
unfolding onto
into_onto f c [] = refl
into_onto f c (g ∷ gs) = ap (λ l. l ∷ gs) (sym (append_snoc f c g))

pub into_none : (s : List ℕ) → into [] (fields_of s) ≡ fields_of s
unfolding fields_of
into_none [] = refl
into_none (c ∷ s) = split (known (eqb c 44))
  where
    first : (gs : List (List ℕ)) → into [] (onto c gs) ≡ onto c gs
    first [] = refl
    first (g ∷ gs) = refl

    split : Known (eqb c 44) → into [] (fields_of (c ∷ s)) ≡ fields_of (c ∷ s)
    split (was_true e) = rw (e, fields_of)
    split (was_false e) = rw (e, fields_of) (first (fields_of s))

-- the fields after one byte
module _ (c : ℕ) (s f : List ℕ) where
  pub comma_fields : eqb c 44 ≡ true → into f (fields_of (c ∷ s)) ≡ f ∷ fields_of s
  unfolding fields_of
  comma_fields e = rw (e, fields_of, append-nil)

  pub byte_fields : eqb c 44 ≡ false → into f (fields_of (c ∷ s)) ≡ into (f ++ (c ∷ [])) (fields_of s)
  unfolding fields_of
  byte_fields e = rw (e, fields_of) (into_onto f c (fields_of s))

-- the record after a comma, and after another byte
abbrev field_ended : Scan → Scan
field_ended t = record { form = form_taken t.form t.piece; piece = no_piece }

abbrev joined : Scan → ℕ → Scan
joined t c = record { form = t.form; piece = piece_taken t.piece c }

comma_scan : (t : Scan) (c : ℕ) → eqb c 44 ≡ true → scan_taken t c ≡ field_ended t
unfolding scan_taken
comma_scan t c e = pick_yes (eqb c 44) (field_ended t) (joined t c) e

byte_scan : (t : Scan) (c : ℕ) → eqb c 44 ≡ false → scan_taken t c ≡ joined t c
unfolding scan_taken
byte_scan t c e = pick_no (eqb c 44) (field_ended t) (joined t c) e

-- from a shape and a field begun on
rest_exact : (s : List ℕ) (t : Scan) (sh : Shape) (f : List ℕ) → FollowsShape sh t.form → Reads f t.piece
    → StandsFor (order_from sh (into f (fields_of s))) (scanned (scan_all t s))
unfolding fields_of scan_all scanned
rest_exact [] t sh f a r =
    rw (append-nil, shape_step sh f [])
    (follows_end (shape_taken sh f) (form_taken t.form t.piece) (follows_next sh t.form f t.piece r a))
rest_exact (c ∷ s) t sh f a r = split (known (eqb c 44)) (λ u z g b q. rest_exact s u z g b q)
  where
    split : Known (eqb c 44)
        → ((u : Scan) (z : Shape) (g : List ℕ) → FollowsShape z u.form → Reads g u.piece → StandsFor (order_from z (into g (fields_of s))) (scanned (scan_all u s)))
        → StandsFor (order_from sh (into f (fields_of (c ∷ s)))) (scanned (scan_all (scan_taken t c) s))
    split (was_true e) ih =
        rw (comma_fields c s f e, comma_scan t c e, shape_step sh f (fields_of s), ← (into_none s))
        (ih (field_ended t) (shape_taken sh f) [] (follows_next sh t.form f t.piece r a) reads_none)
    split (was_false e) ih = rw (byte_fields c s f e, byte_scan t c e) (ih (joined t c) sh (f ++ (c ∷ [])) a (reads_next f t.piece c r))

pub line_exact : (s : List ℕ) → StandsFor (order_of s) (scanned (scan_all no_scan s))
unfolding order_of
line_exact s = rw (into_none s) at (rest_exact s no_scan begin [] (refl, refl, refl, refl) reads_none)

pub scan_join : (s : Scan) (l l' : List ℕ) → scan_all s (l ++ l') ≡ scan_all (scan_all s l) l'
unfolding scan_all
scan_join s [] l' = refl
scan_join s (c ∷ l) l' = scan_join (scan_taken s c) l l'

-- a form into which a field was taken has a kind
abbrev HasKind : Form → Type 0
HasKind f = is_nothing f.kind ≡ false

pick-begun : (b : Bool) (f g : Form) → HasKind f → HasKind g → HasKind (pick b f g)
unfolding pick
pick-begun true f g h k = h
pick-begun false f g h k = k

numbered-begun : (f : Form) (k : ℕ → Form) (n : Option ℕ) → ((m : ℕ) → HasKind (k m)) → HasKind (numbered k f n)
numbered-begun f k (Some n) h = h n
numbered-begun f k None h = refl

first_begun : (f : Form) (p : Piece) → HasKind (begun f p)
unfolding begun
first_begun f p = search pick-begun depth 8

way_begun : (f : Form) (p : Piece) → HasKind (way_taken f p)
unfolding way_taken with_step
way_begun f p = search pick-begun depth 8

taken_begun : (f : Form) (p : Piece) → HasKind (form_taken f p)
unfolding form_taken
taken_begun f p = split f.kind
  where
    split : (k : Kind) → HasKind (taken_by k f p)
    split Nothing = first_begun f p
    split Carry = numbered-begun f (λ n. with_first CarryFrom n f) (piece_number p) (λ n. refl)
    split CarryFrom = numbered-begun f (λ n. with_second CarryWhole n f) (piece_number p) (λ n. refl)
    split Turn = numbered-begun f (λ n. with_first TurnEdge n f) (piece_number p) (λ n. refl)
    split TurnEdge = way_begun f p
    split _ = refl

-- a field into which a byte was taken has a size
taken_size : (p : Piece) (c : ℕ) → eqb (piece_taken p c).size 0 ≡ false
unfolding piece_taken pick
taken_size p c = split (known (leb p.size max_digits))
  where
    split : Known (leb p.size max_digits) → eqb (piece_taken p c).size 0 ≡ false
    split (was_true e) = rw e (ne_eqb (p.size + 1) 0 (λ q. omega arith))
    split (was_false e) = rw e (ne_eqb p.size 0 (λ q. omega (arith, leb-false p.size max_digits e)))

-- after a byte
taken_blank : (t : Scan) (c : ℕ) → is_blank (scan_taken t c) ≡ false
unfolding is_blank both
taken_blank t c = split (known (eqb c 44))
  where
    neither : (b : Bool) → both b false ≡ false
    neither true = refl
    neither false = refl

    split : Known (eqb c 44) → is_blank (scan_taken t c) ≡ false
    split (was_true e) = rw (comma_scan t c e, taken_begun t.form t.piece)
    split (was_false e) = rw (byte_scan t c e, taken_size t.piece c) (neither (is_nothing t.form.kind))

all-blank : (s : List ℕ) (t : Scan) → is_blank t ≡ false → is_blank (scan_all t s) ≡ false
unfolding scan_all
all-blank [] t e = e
all-blank (c ∷ s) t e = all-blank s (scan_taken t c) (taken_blank t c)

pub blank_empty : (s : List ℕ) → is_blank (scan_all no_scan s) ≡ eqb (length s) 0
unfolding scan_all is_blank both
blank_empty [] = refl
blank_empty (c ∷ s) = all-blank s (scan_taken no_scan c) (taken_blank no_scan c) ∙ sym (ne_eqb (suc (length s)) 0 (λ e. omega arith))
