-- Whatever the pieces in which an input comes, serving them one after the other and closing the session prints what the definition says of the whole
-- input: a line that is handed on leaves the session and prints what the bytes up to it do, and pieces are lines.
use mathlib.Core.Path.{◌≡◌, refl, sym, ap, ◌∙◌}
use mathlib.Core.Bool.{Bool}
use mathlib.Core.List.{List, [], ◌∷◌, ◌++◌, append_assoc}
use Prim.Native.Nat.{ℕ, zero, suc, ◌≤◌}
use native.Mathlib.Omega.{arith}
use lib.ListN.{length, take, drop, length-drop}
use Rattle.play_session.specs.Machine.{Session}
use Rattle.play_session.specs.Replies.{play_output}
use Rattle.play_session.specs.Machine.{new_session, end_told, taken_of, fed_session, fed_told}
use Rattle.play_session.specs.Inner.{runs}
use Rattle.play_session.proofs.Pieces.{runs_fed}
use Rattle.play_session.proofs.Prints.{prints}
use Rattle.descriptors.specs.Serving.{served_lines, served_over, told_lines, told_over, ServedPart, input_of, served_pieces, told_pieces}
use Rattle.descriptors.specs.Inner.{BehindPieces}
use Rattle.descriptors.proofs.Taking.{taken_some}

runs-lines : (k : ℕ) (s : Session) (bytes rest : List ℕ) → length bytes ≤ k → runs s (bytes ++ rest) ≡ told_lines k s bytes ++ runs (served_lines k s bytes) rest
unfolding served_lines told_lines
runs-lines zero s [] rest h = refl
runs-lines zero s (c ∷ cs) rest h = absurd (omega arith)
runs-lines (suc k) s [] rest h = refl
runs-lines (suc k) s (c ∷ cs) rest h =
    let behind = drop (taken_of (c ∷ cs)) (c ∷ cs) in
    let next = fed_session s (c ∷ cs) in
    let size = length-drop (taken_of (c ∷ cs)) (c ∷ cs) in
    let some = taken_some (c ∷ cs) (omega arith) in
    runs_fed s (c ∷ cs) rest
    ∙ ap (λ (l : List ℕ). fed_told s (c ∷ cs) ++ l) (runs-lines k next behind rest (omega (arith, size, some)))
    ∙ sym (append_assoc (fed_told s (c ∷ cs)) (told_lines k next behind) (runs (served_lines k next behind) rest))

runs_pieces : (ps : List (List ℕ)) (s : Session) → runs s (input_of ps) ≡ told_pieces s ps ++ end_told (served_pieces s ps)
unfolding runs
runs_pieces [] s = refl
runs_pieces (p ∷ ps) s =
    let next = served_over s p in
    runs-lines (length p) s p (input_of ps) (omega arith)
    ∙ ap (λ (l : List ℕ). told_over s p ++ l) (runs_pieces ps next)
    ∙ sym (append_assoc (told_over s p) (told_pieces next ps) (end_told (served_pieces next ps)))

pub pieces_printed : (ps : List (List ℕ)) → told_pieces new_session ps ++ end_told (served_pieces new_session ps) ≡ play_output (input_of ps)
pieces_printed ps = sym (runs_pieces ps new_session) ∙ prints (input_of ps)

-- pieces, and then more of them
served_more : (ps qs : List (List ℕ)) (s : Session) → served_pieces s (ps ++ qs) ≡ served_pieces (served_pieces s ps) qs
served_more [] qs s = refl
served_more (p ∷ ps) qs s = served_more ps qs (served_over s p)

pub behind-none : (s : Session) → BehindPieces s s
behind-none s = record { pieces = []; session = refl }

pub behind-part : {s : Session} {bytes : List ℕ} {r : Session} {going : Bool} → ServedPart s bytes r going → BehindPieces s r
behind-part {s} {bytes} {r} h = record { pieces = take h.count bytes ∷ []; session = h.session }

pub behind_more : (s r q : Session) → BehindPieces s r → BehindPieces r q → BehindPieces s q
behind_more s r q a b = record {
  pieces = a.pieces ++ b.pieces;
  session = b.session ∙ ap (λ (t : Session). served_pieces t b.pieces) a.session ∙ sym (served_more a.pieces b.pieces s);
}
