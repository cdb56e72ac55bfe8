-- The codes from k on, copied to the first places.
use mathlib.Core.Path.{◌≡◌}
use Prim.Native.Nat.{ℕ}
use native.Mathlib.Omega.{arith}
use lib.ListN.{length, replicate, length-replicate}
use borrow.Author.Rules.{rules}
use Rattle.board.specs.Limits.{max_vertices, max_edges}
use Rattle.solve_walk.proofs.Loops.{held, last_held, copied, walk_from_made}
use Rattle.solve_walk.proofs.walk_from.Goals as goal

pub returns : goal.returns
returns c =
    let codes = c.args.way.steps in
    let size : length codes ≡ max_vertices = search rules in
    let fits = last_held codes c.args.way.count c.args.k size c.requires.k_le_count c.requires.count_le_max_vertices in
    let made = copied codes _ _ fits (replicate max_edges 0) _ (omega (arith, length-replicate {A = ℕ} max_edges 0, c.requires.count_le_max_vertices)) c.copy_from_slice.ensures.after in
    walk_from_made codes _ _ _ made c.requires.k_le_count (held codes _ size c.requires.count_le_max_vertices)
