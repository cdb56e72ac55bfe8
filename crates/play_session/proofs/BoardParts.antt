-- The board's part of an input: its first line, and as many more lines as that says. There is always the first, also where it is refused or has no line feed.
use mathlib.Core.Path.{◌≡◌, refl, ap, ◌∙◌}
use mathlib.Core.Bool.{false}
use mathlib.Core.List.{List, [], ◌∷◌, ◌++◌, append-nil}
use Prim.Native.Nat.{ℕ, suc, ◌-◌, ◌≤◌}
use native.Mathlib.Omega.{arith}
use lib.Dec.{eqb}
use lib.ListN.{length}
use lib.Seq.{drop-append_seam}
use Rattle.lists.specs.Choice.{pick}
use Rattle.lists.specs.Lists.{index_of}
use Rattle.text.specs.Text.{Read, refused, got, header}
use Rattle.load.specs.Load.{load_text}
use Rattle.sheet_output.specs.Outputs.{number_line}
use Rattle.sheet_output.specs.Inputs.{first_lines, lines_of, lines_wanted, board_part, moves_part}
use Rattle.sheet_output.proofs.FirstLines.{first_line, first_all}
use Rattle.play_session.specs.Replies.{replies_from, play_output}

-- one byte that is no line feed, and none
pub one_byte : (c : ℕ) → eqb c 10 ≡ false → index_of 10 (c ∷ []) ≡ 1
unfolding index_of
one_byte c e = rw (e, index_of)

pub no_byte : index_of 10 [] ≡ 0
unfolding index_of
no_byte = refl

-- ---- the first line

some_wanted : (r : Read (List ℕ)) → 1 ≤ lines_of r
unfolding lines_of
some_wanted (refused n) = omega arith
some_wanted (got ns s) = omega arith

wanted_some : (s : List ℕ) → lines_wanted s ≡ suc (lines_wanted s - 1)
unfolding lines_wanted
wanted_some s = let h : 1 ≤ lines_of (header s) = some_wanted (header s) in omega (arith, h)

module _ (p : List ℕ) (line : index_of 10 p ≡ length p) where
  -- the line alone, and with its line feed
  pub part-alone : board_part (p ++ []) ≡ p
  unfolding board_part
  part-alone = rw (append-nil p, first_all 0 p line, wanted_some p) (first_all (lines_wanted p - 1) p line)

  first_alone : (t : List ℕ) → first_lines 1 (p ++ (10 ∷ t)) ≡ p ++ (10 ∷ [])
  unfolding first_lines
  first_alone t = first_line 0 p t line

  pub part_first : (t : List ℕ) → board_part (p ++ (10 ∷ t)) ≡ p ++ (10 ∷ first_lines (lines_wanted (p ++ (10 ∷ [])) - 1) t)
  unfolding board_part
  part_first t =
      ap (λ (l : List ℕ). first_lines (lines_wanted l) (p ++ (10 ∷ t))) (first_alone t)
      ∙ ap (λ (k : ℕ). first_lines k (p ++ (10 ∷ t))) (wanted_some (p ++ (10 ∷ [])))
      ∙ first_line (lines_wanted (p ++ (10 ∷ [])) - 1) p t line

-- ---- the output

-- what the definition prints where q is the board's part of the input
pub output_of : (q x : List ℕ) → board_part (q ++ x) ≡ q
    → play_output (q ++ x)
    ≡ pick (eqb (load_text q).answer 0) (replies_from (load_text q).board [] x) (number_line (load_text q).answer)
unfolding play_output moves_part
output_of q x h = rw (h, drop-append_seam q x)
