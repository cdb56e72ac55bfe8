-- Reading makes no kind that there is not. A field taken leaves one of the ten, whatever the kind was, so a whole line
-- has one; and other bytes leave the kind, so by induction over the bytes a line that has one of the ten keeps one.
use mathlib.Core.Bool.{Bool}
use mathlib.Core.List.{List, [], ◌∷◌}
use Prim.Native.Nat.{ℕ}
use lib.Dec.{eqb}
use Rattle.lists.specs.Choice.{pick}
use Rattle.lists.proofs.Laws.{pick_keeps}
use Rattle.std.specs.Prelude.{Option, Some, None}
use Rattle.play_lines.specs.declared.Kind.{Kind}
use Rattle.play_lines.specs.declared.Kind.TheVariants.{Nothing, Carry, CarryFrom, CarryWhole, Turn, TurnEdge}
use Rattle.play_lines.specs.declared.Piece.{Piece}
use Rattle.play_lines.specs.declared.Form.{Form}
use Rattle.play_lines.specs.declared.Scan.{Scan}
use Rattle.play_lines.specs.Scans.{piece_number, piece_is, with_first, with_second, numbered, with_step, begun, way_taken, taken_by, form_taken, scan_taken, scan_all, scanned}
use Rattle.play_lines.specs.Inner.{IsKind}

-- of two forms one is taken
kind_picked : (t : Bool) (f g : Form) → IsKind f.kind → IsKind g.kind → IsKind (pick t f g).kind
kind_picked = pick_keeps (λ (f : Form). IsKind f.kind)

-- the first field, a number, and a way
module _ (f : Form) (p : Piece) where
  kind_begun : IsKind (begun f p).kind
  unfolding begun
  kind_begun =
      kind_picked (piece_is 75 p) _ _ tt
      (kind_picked (piece_is 84 p) _ _ tt
      (kind_picked (piece_is 72 p) _ _ tt (kind_picked (piece_is 85 p) _ _ tt (kind_picked (piece_is 70 p) _ _ tt tt))))

  kind_numbered : (g : ℕ → Form) → ((n : ℕ) → IsKind (g n).kind) → (o : Option ℕ) → IsKind (numbered g f o).kind
  kind_numbered g h (Some n) = h n
  kind_numbered g h None = tt

  kind_way : IsKind (way_taken f p).kind
  unfolding way_taken with_step
  kind_way = kind_picked (piece_is 68 p) _ _ tt (kind_picked (piece_is 85 p) _ _ tt tt)

  -- a field
  kind_by : (k : Kind) → IsKind (taken_by k f p).kind
  kind_by Nothing = kind_begun
  kind_by Carry = kind_numbered (λ n. with_first CarryFrom n f) (λ n. tt) (piece_number p)
  kind_by CarryFrom = kind_numbered (λ n. with_second CarryWhole n f) (λ n. tt) (piece_number p)
  kind_by Turn = kind_numbered (λ n. with_first TurnEdge n f) (λ n. tt) (piece_number p)
  kind_by TurnEdge = kind_way
  kind_by _ = tt

  kind_taken : IsKind (form_taken f p).kind
  unfolding form_taken
  kind_taken = kind_by f.kind

-- the whole line
pub kind_whole : (s : Scan) → IsKind (scanned s).kind
unfolding scanned
kind_whole s = kind_taken s.form s.piece

-- a byte, and bytes
kind_byte : (s : Scan) (c : ℕ) → IsKind s.form.kind → IsKind (scan_taken s c).form.kind
unfolding scan_taken
kind_byte s c h = pick_keeps (λ (r : Scan). IsKind r.form.kind) (eqb c 44) _ _ (kind_taken s.form s.piece) h

pub kind_read : (s : Scan) (l : List ℕ) → IsKind s.form.kind → IsKind (scan_all s l).form.kind
unfolding scan_all
kind_read s [] h = h
kind_read s (c ∷ cs) h = kind_read (scan_taken s c) cs (kind_byte s c h)
